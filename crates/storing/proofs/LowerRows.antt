-- The new row of L: its parts, and what is kept of it.
-- Assumes nothing.
use mathlib.Core.Path.{◌≡◌, refl, sym, ap, ap₂, ◌∙◌}
use mathlib.Core.Bool.{Bool, true, false, not, ◌&&◌, cond}
use mathlib.Core.List.{List, [], ◌∷◌, ◌++◌, map, map-append, append-nil}
use Prim.Native.Nat.{ℕ, zero, suc, ◌+◌, ◌≤◌, ◌<◌}
use native.Mathlib.Nat.{not-suc-le-zero}
use native.Mathlib.Omega.{arith}
use borrow.Author.Tests.{lt-ltb, le-ltb}
use lib.Dec.{eqb, ltb}
use lib.ListN.{length, get_or, set, length-append, length-map}
use Rattle.lists.specs.Onto.{◌onto◌}
use Rattle.lists.proofs.Gathers.{gather_ext, map-gather}
use Rattle.lists.proofs.Ontos.{onto_more, length-onto}
use Rattle.sparse.specs.Pivots.{mark}
use Rattle.sparse.specs.Put.{cols_of, values_of}
use Rattle.sparse.specs.Rows.{Entry, entry}
use Rattle.state.specs.Fresh.{keeps}
use Rattle.state.specs.declared.Mode.{Mode}
use Rattle.state.specs.declared.Mode.TheVariants.{Full, Pattern}
use Rattle.walk.specs.Left.{over, multiples}
use Rattle.walk.specs.Step.{pivot_at}
use Rattle.storing.specs.Asks.{Gathers, Ends, Keeps}
use Rattle.storing.specs.Counted.{Counted, counted, stored, stored_row, kept_row}
use Rattle.storing.specs.Gathers.{stands, told, gathered, part_of, l_row}
use Rattle.storing.specs.declared.Part.{Part}
use Rattle.storing.specs.declared.Part.TheVariants.{Row, Multiple}
use Rattle.storing.proofs.Gathering.{stands_zero}

-- past the end
pub get_d_past : (xs : List ℕ) (i : ℕ) → length xs ≤ i → get_or xs i 0 ≡ 0
get_d_past [] i h = refl
get_d_past (x ∷ xs) zero h = absurd (not-suc-le-zero h)
get_d_past (x ∷ xs) (suc i) h = get_d_past xs i (omega arith)

module _ {part : Part} {pivots dense : List ℕ} {top from head last : ℕ} {out : List ℕ} (e : Ends part pivots dense top from head last out) where
  abbrev all : List ℕ
  all = gathered part pivots dense top top

  with_last_lem : head < length dense → part_of part pivots dense top head last ≡ all ++ (last ∷ [])
  unfolding part_of
  with_last_lem h = rw (lt-ltb head (length dense) h)

  without : length dense ≤ head → part_of part pivots dense top head last ≡ all
  unfolding part_of
  without h = rw (le-ltb head (length dense) h) (append-nil all)

  fits : length all ≤ length out
  unfolding part_of
  fits = omega (arith, length-append all (cond (ltb head (length dense)) (last ∷ []) []), e.room)

  pub ends_gathers : Gathers part pivots dense top from top out
  ends_gathers = record {
    rises = e.rises;
    narrow = omega (arith, e.limit, e.narrow);
    columns = e.limit;
    table = omega (arith, e.limit, e.table);
    before = λ j l. sym (stands_zero part pivots dense top j (e.before j l));
    room = fits;
  }

  module _ {len : ℕ} {new : List ℕ} (made : counted len new ≡ counted (length all) (all onto out)) where
    many : len ≡ length all
    many = ap (λ (c : Counted). c.len) made

    wrote : new ≡ all onto out
    wrote = ap (λ (c : Counted). c.list) made

    -- the place of the last
    pub last_slot : head < length dense → len < length new
    last_slot h = omega (arith, many, ap length wrote ∙ length-onto all out fits, ap length (with_last_lem h) ∙ length-append all (last ∷ []), e.room)

    pub part_with : head < length dense → counted (len + 1) (set new len last) ≡ counted (length (part_of part pivots dense top head last)) (part_of part pivots dense top head last onto out)
    part_with h =
        let room : len < length out = omega (arith, last_slot h, ap length wrote ∙ length-onto all out fits) in
        let one : len + 1 ≡ length (part_of part pivots dense top head last) = omega (arith, many, ap length (with_last_lem h) ∙ length-append all (last ∷ [])) in
        let two : set new len last ≡ part_of part pivots dense top head last onto out = ap (λ (l : List ℕ). set l len last) wrote ∙ onto_more all out len last (sym many) room ∙ ap (λ (l : List ℕ). l onto out) (sym (with_last_lem h)) in
        rw (one, two)

    pub part_without : length dense ≤ head → counted len new ≡ counted (length (part_of part pivots dense top head last)) (part_of part pivots dense top head last onto out)
    part_without h = made ∙ ap (λ (l : List ℕ). counted (length l) (l onto out)) (sym (without h))

-- the parts of L's row
module _ (pivots dense : List ℕ) (top head rank : ℕ) where
  -- below the limit a multiple is what stands over a pivot
  multiple_stands : (j : ℕ) → j < top → (not (eqb (pivot_at pivots j) mark) && not (eqb (get_or dense j 0) 0)) ≡ stands Row pivots dense top j
  unfolding stands over
  multiple_stands j l = rw (lt-ltb j top l)

  tail : {A : Type 0} (g : Entry → A) → map g (cond (ltb head (length dense)) (entry rank (get_or dense head 0) ∷ []) []) ≡ cond (ltb head (length dense)) (g (entry rank (get_or dense head 0)) ∷ []) []
  tail g = go (ltb head (length dense))
    where
      go : (b : Bool) → map g (cond b (entry rank (get_or dense head 0) ∷ []) []) ≡ cond b (g (entry rank (get_or dense head 0)) ∷ []) []
      go true = refl
      go false = refl

  pub row_cols : cols_of (l_row pivots dense top head rank) ≡ part_of Row pivots dense top head rank
  unfolding cols_of l_row part_of multiples gathered told
  row_cols =
      map-append (λ (e : Entry). e.col) (multiples pivots top dense) (cond (ltb head (length dense)) (entry rank (get_or dense head 0) ∷ []) [])
      ∙ ap₂ (λ x y. x ++ y)
      (map-gather (λ (e : Entry). e.col) (λ j. not (eqb (pivot_at pivots j) mark) && not (eqb (get_or dense j 0) 0)) (λ j. entry (pivot_at pivots j) (get_or dense j 0)) top
      ∙ gather_ext (λ j. not (eqb (pivot_at pivots j) mark) && not (eqb (get_or dense j 0) 0)) (stands Row pivots dense top) (λ j. pivot_at pivots j) (told Row pivots dense) top multiple_stands (λ j l q. refl))
      (tail (λ (e : Entry). e.col))

  pub row_vals : values_of (l_row pivots dense top head rank) ≡ part_of Multiple pivots dense top head (get_or dense head 0)
  unfolding values_of l_row part_of multiples gathered told stands
  row_vals =
      map-append (λ (e : Entry). e.value) (multiples pivots top dense) (cond (ltb head (length dense)) (entry rank (get_or dense head 0) ∷ []) [])
      ∙ ap₂ (λ x y. x ++ y)
      (map-gather (λ (e : Entry). e.value) (λ j. not (eqb (pivot_at pivots j) mark) && not (eqb (get_or dense j 0) 0)) (λ j. entry (pivot_at pivots j) (get_or dense j 0)) top
      ∙ gather_ext (λ j. not (eqb (pivot_at pivots j) mark) && not (eqb (get_or dense j 0) 0)) (stands Multiple pivots dense top) (λ j. get_or dense j 0) (told Multiple pivots dense) top multiple_stands (λ j l q. refl))
      (tail (λ (e : Entry). e.value))

  cols_long : length (l_row pivots dense top head rank) ≡ length (part_of Row pivots dense top head rank)
  unfolding cols_of
  cols_long = sym (length-map (l_row pivots dense top head rank) (λ (e : Entry). e.col)) ∙ ap length row_cols

  vals_long : length (l_row pivots dense top head rank) ≡ length (part_of Multiple pivots dense top head (get_or dense head 0))
  unfolding values_of
  vals_long = sym (length-map (l_row pivots dense top head rank) (λ (e : Entry). e.value)) ∙ ap length row_vals

  module _ {mode : Mode} {from : ℕ} {cols vals : List ℕ} (k : Keeps mode pivots dense top from head rank cols vals) where
    -- what its parts ask for
    pub keeps_cols : keeps mode ≡ true → Ends Row pivots dense top from head rank cols
    keeps_cols m = record { narrow = k.narrow; table = k.table; limit = k.limit; rises = k.rises; before = k.before; room = rw (← cols_long) (k.columns m) }

    pub keeps_vals : mode ≡ Full → {last : ℕ} → last ≡ get_or dense head 0 → Ends Multiple pivots dense top from head last vals
    keeps_vals m e = rw e (record { narrow = k.narrow; table = k.table; limit = k.limit; rises = k.rises; before = k.before; room = rw (← vals_long) (k.numbers m) })

    -- and what is then kept
    pub kept_full : mode ≡ Full → {last len n : ℕ} {new nums : List ℕ} → last ≡ get_or dense head 0
        → counted n nums ≡ counted (length (part_of Multiple pivots dense top head last)) (part_of Multiple pivots dense top head last onto vals)
        → counted len new ≡ counted (length (part_of Row pivots dense top head rank)) (part_of Row pivots dense top head rank onto cols)
        → stored len new nums ≡ kept_row mode (l_row pivots dense top head rank) cols vals
    unfolding kept_row stored_row
    kept_full m {last} {len} {n} {new} {nums} e v c =
        let a : len ≡ length (l_row pivots dense top head rank) = ap (λ (x : Counted). x.len) c ∙ sym cols_long in
        let b : new ≡ cols_of (l_row pivots dense top head rank) onto cols = ap (λ (x : Counted). x.list) c ∙ ap (λ (l : List ℕ). l onto cols) (sym row_cols) in
        let d : nums ≡ values_of (l_row pivots dense top head rank) onto vals = ap (λ (x : Counted). x.list) v ∙ ap (λ (y : ℕ). part_of Multiple pivots dense top head y onto vals) e ∙ ap (λ (l : List ℕ). l onto vals) (sym row_vals) in
        rw (m, a, b, d)

    pub kept_pattern : mode ≡ Pattern → {len : ℕ} {new : List ℕ}
        → counted len new ≡ counted (length (part_of Row pivots dense top head rank)) (part_of Row pivots dense top head rank onto cols)
        → stored len new vals ≡ kept_row mode (l_row pivots dense top head rank) cols vals
    unfolding kept_row
    kept_pattern m {len} {new} c =
        let a : len ≡ length (l_row pivots dense top head rank) = ap (λ (x : Counted). x.len) c ∙ sym cols_long in
        let b : new ≡ cols_of (l_row pivots dense top head rank) onto cols = ap (λ (x : Counted). x.list) c ∙ ap (λ (l : List ℕ). l onto cols) (sym row_cols) in
        rw (m, a, b)
