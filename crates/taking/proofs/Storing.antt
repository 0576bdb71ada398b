-- The free parts of U and L, lent to the writers of rows and come back.
-- Assumes nothing.
use mathlib.Core.Path.{◌≡◌, ap}
use mathlib.Core.Bool.{true}
use mathlib.Core.List.{List, ◌++◌}
use Prim.Native.Nat.{ℕ, ◌+◌, ◌-◌, ◌≤◌, ◌<◌}
use native.Mathlib.Nat.{le_of_eq}
use native.Mathlib.Omega.{arith}
use lib.ListN.{length, take, drop, set, length-drop}
use lib.Seq.{take_all}
use Rattle.lists.specs.Onto.{◌onto◌}
use Rattle.sparse.specs.Lent.{outcome}
use Rattle.sparse.specs.Put.{cols_of, values_of}
use Rattle.sparse.specs.Rows.{Entry}
use Rattle.walk.specs.Left.{rest_of}
use Rattle.walk.specs.Step.{divided}
use Rattle.state.specs.Fresh.{keeps}
use Rattle.state.specs.declared.Mode.{Mode}
use Rattle.state.specs.declared.Mode.TheVariants.{Full, Pattern}
use Rattle.storing.specs.Asks.{Heads, Keeps}
use Rattle.storing.specs.Counted.{Stored, stored, stored_row, kept_row}
use Rattle.storing.specs.Gathers.{l_row}
use Rattle.writing.specs.Puts.{put_at}
use Rattle.writing.proofs.Puts.{put_part}
use Rattle.taking.specs.Asks.{StoresU, StoresL}
use Rattle.taking.specs.Stores.{upper, with_u, lower, with_l, kept_entries}

-- a part from `at` on is all that is left there
part_all : (at : ℕ) (xs : List ℕ) → take (length xs - at) (drop at xs) ≡ drop at xs
part_all at xs = take_all (length xs - at) (drop at xs) (le_of_eq (length-drop at xs))

module _ {p rank fill : ℕ} {dense : List ℕ} {limit head : ℕ} {cols vals ptrs pivots : List ℕ} (s : StoresU p rank fill dense limit head (upper cols vals ptrs pivots)) where
  -- what the writer of the row asks for
  pub part_heads : Heads p pivots dense limit head (take (length cols - fill) (drop fill cols)) (take (length vals - fill) (drop fill vals))
  part_heads = rw (part_all fill cols, part_all fill vals) s.ends

  -- the row as it stands in U then
  module _ (es : List Entry) {len : ℕ} {c v : List ℕ} (made : stored len c v ≡ stored_row es (take (length cols - fill) (drop fill cols)) (take (length vals - fill) (drop fill vals))) where
    pub part_long : len ≡ length es
    unfolding stored_row
    part_long = ap (λ (x : Stored). x.len) made

    pub part_stored : outcome len (upper (take fill cols ++ (c ++ drop (length cols - fill) (drop fill cols))) (take fill vals ++ (v ++ drop (length vals - fill) (drop fill vals))) (set ptrs (rank + 1) (fill + len)) (set pivots head rank)) ≡ outcome (length es) (with_u rank fill head es (upper cols vals ptrs pivots))
    unfolding with_u stored_row
    part_stored =
        let a : take fill cols ++ (c ++ drop (length cols - fill) (drop fill cols)) ≡ put_at fill (cols_of es) cols = put_part fill (cols_of es) cols c (ap (λ (x : Stored). x.cols) made) in
        let b : take fill vals ++ (v ++ drop (length vals - fill) (drop fill vals)) ≡ put_at fill (values_of es) vals = put_part fill (values_of es) vals v (ap (λ (x : Stored). x.vals) made) in
        rw (a, b, part_long)

  -- its end is within U's columns
  pub fill_fits : {len : ℕ} {c v : List ℕ} → stored len c v ≡ stored_row (divided p (length dense) (rest_of pivots limit dense) head) (take (length cols - fill) (drop fill cols)) (take (length vals - fill) (drop fill vals)) → fill + len ≤ length cols
  fill_fits made = omega (arith, part_long (divided p (length dense) (rest_of pivots limit dense) head) made, s.ends.columns, length-drop fill cols, s.columns)

-- the same for L, by what is kept
module _ {mode : Mode} {rows fill : ℕ} {pivots dense : List ℕ} {limit from head rank : ℕ} {cols vals ptrs : List ℕ} (s : StoresL mode rows fill pivots dense limit from head rank (lower cols vals ptrs)) where
  abbrev es : List Entry
  es = l_row pivots dense limit head rank

  full_kept : mode ≡ Full → keeps mode ≡ true
  unfolding keeps
  full_kept e = rw e

  pattern_kept : mode ≡ Pattern → keeps mode ≡ true
  unfolding keeps
  pattern_kept e = rw e

  module _ (full : mode ≡ Full) where
    pub full_columns : fill ≤ length cols
    full_columns = s.columns (full_kept full)

    pub full_numbers : fill ≤ length vals
    full_numbers = s.numbers full

    pub full_pointer : rows + 1 < length ptrs
    full_pointer = s.pointer (full_kept full)

    pub full_keeps : Keeps mode pivots dense limit from head rank (take (length cols - fill) (drop fill cols)) (take (length vals - fill) (drop fill vals))
    full_keeps = rw (part_all fill cols, part_all fill vals) s.ends

    module _ {len : ℕ} {c v : List ℕ} (made : stored len c v ≡ kept_row mode es (take (length cols - fill) (drop fill cols)) (take (length vals - fill) (drop fill vals))) where
      whole : stored len c v ≡ stored_row es (take (length cols - fill) (drop fill cols)) (take (length vals - fill) (drop fill vals))
      unfolding kept_row
      whole = rw full at made

      full_long : len ≡ length es
      unfolding stored_row
      full_long = ap (λ (x : Stored). x.len) whole

      pub full_fits : fill + len ≤ length cols
      full_fits = omega (arith, full_long, s.ends.columns (full_kept full), length-drop fill cols, full_columns)

      pub full_stored : outcome len (lower (take fill cols ++ (c ++ drop (length cols - fill) (drop fill cols))) (take fill vals ++ (v ++ drop (length vals - fill) (drop fill vals))) (set ptrs (rows + 1) (fill + len))) ≡ outcome (kept_entries mode es) (with_l mode rows fill es (lower cols vals ptrs))
      unfolding with_l kept_entries stored_row
      full_stored =
          let a : take fill cols ++ (c ++ drop (length cols - fill) (drop fill cols)) ≡ put_at fill (cols_of es) cols = put_part fill (cols_of es) cols c (ap (λ (x : Stored). x.cols) whole) in
          let b : take fill vals ++ (v ++ drop (length vals - fill) (drop fill vals)) ≡ put_at fill (values_of es) vals = put_part fill (values_of es) vals v (ap (λ (x : Stored). x.vals) whole) in
          rw (full, a, b, full_long)

  module _ (pattern : mode ≡ Pattern) where
    pub pattern_columns : fill ≤ length cols
    pattern_columns = s.columns (pattern_kept pattern)

    pub pattern_pointer : rows + 1 < length ptrs
    pattern_pointer = s.pointer (pattern_kept pattern)

    pub pattern_keeps : Keeps mode pivots dense limit from head rank (take (length cols - fill) (drop fill cols)) (take 0 vals)
    pattern_keeps = rw (part_all fill cols) (record {
      narrow = s.ends.narrow;
      table = s.ends.table;
      limit = s.ends.limit;
      rises = s.ends.rises;
      before = s.ends.before;
      columns = s.ends.columns;
      numbers = λ (q : mode ≡ Full). let z : ◌≡◌ {A = ℕ} 0 1 = cc in absurd (omega arith);
    })

    module _ {len : ℕ} {c v : List ℕ} (made : stored len c v ≡ kept_row mode es (take (length cols - fill) (drop fill cols)) (take 0 vals)) where
      whole_pattern : stored len c v ≡ stored (length es) (cols_of es onto take (length cols - fill) (drop fill cols)) (take 0 vals)
      unfolding kept_row
      whole_pattern = rw pattern at made

      pattern_long : len ≡ length es
      pattern_long = ap (λ (x : Stored). x.len) whole_pattern

      pub pattern_fits : fill + len ≤ length cols
      pattern_fits = omega (arith, pattern_long, s.ends.columns (pattern_kept pattern), length-drop fill cols, pattern_columns)

      pub pattern_stored : outcome len (lower (take fill cols ++ (c ++ drop (length cols - fill) (drop fill cols))) (v ++ drop 0 vals) (set ptrs (rows + 1) (fill + len))) ≡ outcome (kept_entries mode es) (with_l mode rows fill es (lower cols vals ptrs))
      unfolding with_l kept_entries
      pattern_stored =
          let a : take fill cols ++ (c ++ drop (length cols - fill) (drop fill cols)) ≡ put_at fill (cols_of es) cols = put_part fill (cols_of es) cols c (ap (λ (x : Stored). x.cols) whole_pattern) in
          let b : v ++ drop 0 vals ≡ vals = ap (λ (x : Stored). x.vals ++ drop 0 vals) whole_pattern in
          rw (pattern, a, b, pattern_long)
