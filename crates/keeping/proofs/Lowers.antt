-- L in memory with one row more passes L's test as it did before, in each mode.
-- Assumes nothing.
use Rattle.std.specs.Prelude.{Ok, is_err}
use mathlib.Core.Path.{◌≡◌, refl, sym, ap, subst, ◌∙◌}
use mathlib.Core.Bool.{true, false, not, ◌||◌, cond}
use mathlib.Core.List.{List}
use Prim.Native.Nat.{ℕ, zero, suc, ◌+◌, ◌-◌, ◌≤◌, ◌<◌}
use native.Mathlib.Decide.{dec_lt}
use native.Mathlib.Nat.{add-zero}
use native.Mathlib.Omega.{arith}
use borrow.Author.Tests.{leb-false, ltb-false, eqb-true, not-false, lt-leb, le-ltb, eq-eqb}
use lib.Dec.{eqb, leb, ltb}
use lib.ListN.{length, get_or, take, set, length-map, length-set}
use Rattle.lists.specs.Find.{any}
use Rattle.lists.proofs.Find.{any_none, any_false}
use Rattle.sparse.specs.Put.{cols_of, values_of}
use Rattle.sparse.specs.Rows.{Entry}
use Rattle.sparse.specs.Tests.{values_test}
use Rattle.sparse.specs.declared.inside.Clause.{Clause}
use Rattle.sparse.specs.declared.inside.Clause.TheVariants.{Residue, Nonzero}
use Rattle.sparse.proofs.Firsts.{neither}
use Rattle.state.specs.Fresh.{counts, keeps}
use Rattle.state.specs.Memory.{places}
use Rattle.state.specs.State.{crooked, pattern_fault, values_fault, l_fault}
use Rattle.state.specs.declared.Counts.{Counts}
use Rattle.state.specs.declared.Mode.{Mode}
use Rattle.state.specs.declared.Mode.TheVariants.{Full, Pattern, None}
use Rattle.state.proofs.Faults.{not_refused}
use Rattle.steps.specs.Rows.{Each, Storable}
use Rattle.steps.proofs.Entries.{map_at}
use Rattle.taking.specs.Stores.{Lower, with_l, kept_entries}
use Rattle.writing.specs.Puts.{put_at}
use Rattle.writing.proofs.Puts.{length-put_at}
use Rattle.stepping.proofs.Room.{LRoom}
use Rattle.keeping.proofs.Places.{places_most}
use Rattle.keeping.proofs.Puts.{put_before, put_there, put_whole, pointer_kept, pointer_new}
use Rattle.keeping.proofs.Storables.{Storables, storables_pass, pass_storables, storables_append, each_storables}

-- rows of columns below the rank, within their places, that lie one after the other from 0 to the fill
pub record Level (rank rows fill : ℕ) (cols ptrs : List ℕ) : Type 0 where
  pub pointers : rows < places ptrs
  pub columns : fill ≤ places cols
  pub starts : get_or ptrs 0 0 ≡ 0
  pub rises : (i : ℕ) → i < rows → get_or ptrs i 0 ≤ get_or ptrs (i + 1) 0
  pub ends : get_or ptrs rows 0 ≡ fill
  pub low : (k : ℕ) → k < fill → get_or cols k 0 < rank

-- pointers never pass the fill
pub level_within : {rank rows fill : ℕ} {cols ptrs : List ℕ} → Level rank rows fill cols ptrs → (i : ℕ) → i ≤ rows → get_or ptrs i 0 ≤ fill
level_within {rank} {rows} {fill} {cols} {ptrs} level i h = let d : ℕ = rows - i in go d i (omega arith)
  where
    go : (d i : ℕ) → i + d ≡ rows → get_or ptrs i 0 ≤ fill
    go zero i e = let here : i ≡ rows = omega arith in subst (λ (k : ℕ). get_or ptrs k 0 ≤ fill) (sym here) (omega (arith, level.ends))
    go (suc d) i e = let low : i < rows = omega arith in omega (arith, level.rises i low, go d (i + 1) (omega arith))

module _ (rank rows fill : ℕ) (cols ptrs : List ℕ) where
  pub fault_level : pattern_fault rank rows fill cols ptrs ≡ false → Level rank rows fill cols ptrs
  unfolding pattern_fault crooked
  fault_level e =
      let lows = neither _ (any fill (λ k. leb rank (get_or cols k 0))) e in
      let bent = neither (leb (places ptrs) rows || ltb (places cols) fill) (crooked rows fill ptrs) lows.0 in
      let fits = neither (leb (places ptrs) rows) (ltb (places cols) fill) bent.0 in
      let end = neither (not (eqb (get_or ptrs 0 0) 0) || any rows (λ i. ltb (get_or ptrs (i + 1) 0) (get_or ptrs i 0))) (not (eqb (get_or ptrs rows 0) fill)) bent.1 in
      let start = neither (not (eqb (get_or ptrs 0 0) 0)) (any rows (λ i. ltb (get_or ptrs (i + 1) 0) (get_or ptrs i 0))) end.0 in
      record {
        pointers = leb-false (places ptrs) rows fits.0;
        columns = ltb-false (places cols) fill fits.1;
        starts = eqb-true (get_or ptrs 0 0) 0 (not-false _ start.0);
        rises = λ i h. ltb-false (get_or ptrs (i + 1) 0) (get_or ptrs i 0) (any_false rows (λ i. ltb (get_or ptrs (i + 1) 0) (get_or ptrs i 0)) start.1 i h);
        ends = eqb-true (get_or ptrs rows 0) fill (not-false _ end.1);
        low = λ k h. leb-false rank (get_or cols k 0) (any_false fill (λ k. leb rank (get_or cols k 0)) lows.1 k h);
      }

  pub level_fault : Level rank rows fill cols ptrs → pattern_fault rank rows fill cols ptrs ≡ false
  unfolding pattern_fault crooked
  level_fault l = rw (
    lt-leb (places ptrs) rows l.pointers,
    le-ltb (places cols) fill l.columns,
    eq-eqb (get_or ptrs 0 0) 0 l.starts,
    any_none rows (λ i. ltb (get_or ptrs (i + 1) 0) (get_or ptrs i 0)) (λ i h. le-ltb (get_or ptrs (i + 1) 0) (get_or ptrs i 0) (l.rises i h)),
    eq-eqb (get_or ptrs rows 0) fill l.ends,
    any_none fill (λ k. leb rank (get_or cols k 0)) (λ k h. lt-leb rank (get_or cols k 0) (l.low k h)),
  )

  -- one row more, where there is room; the rank may grow
  module _ (rank' : ℕ) (es : List Entry) (l : Level rank rows fill cols ptrs) (more : rank ≤ rank') (below : Each (λ e. e.col < rank') es) (fits : fill + length es ≤ length cols) (few : fill + length es ≤ 1048576) (place : rows + 1 < length ptrs) (low : rows + 1 < 1048576) where
    many : length (cols_of es) ≡ length es
    unfolding cols_of
    many = length-map es (λ (e : Entry). e.col)

    enough : fill + length (cols_of es) ≤ length cols
    enough = omega (arith, many, fits)

    abbrev cols' : List ℕ
    cols' = put_at fill (cols_of es) cols

    abbrev ptrs' : List ℕ
    ptrs' = set ptrs (rows + 1) (fill + length es)

    kept : (i : ℕ) → i ≤ rows → get_or ptrs' i 0 ≡ get_or ptrs i 0
    kept = pointer_kept rows fill (length es) ptrs place

    rise : (i : ℕ) → i < rows + 1 → Dec (i < rows) → get_or ptrs' i 0 ≤ get_or ptrs' (i + 1) 0
    rise i h (yes b) = omega (arith, l.rises i b, kept i (omega arith), kept (i + 1) (omega arith))
    rise i h (no b) =
        let e : rows ≡ i = omega arith in
        subst (λ (k : ℕ). get_or ptrs' k 0 ≤ get_or ptrs' (k + 1) 0) e (omega (arith, kept rows (omega arith), l.ends, pointer_new rows fill (length es) ptrs place))

    low' : (k : ℕ) → k < fill + length es → Dec (k < fill) → get_or cols' k 0 < rank'
    unfolding cols_of
    low' k h (yes b) = omega (arith, l.low k b, put_before fill (cols_of es) cols enough k b)
    low' k h (no b) =
        let here : fill + (k - fill) ≡ k = omega arith in
        let inside : k - fill < length es = omega arith in
        subst (λ (i : ℕ). get_or cols' i 0 < rank') here
        (rw (put_there fill (cols_of es) cols enough (k - fill) (omega (arith, many, inside)), map_at (λ (e : Entry). e.col) es (k - fill) inside) (below.at (k - fill) inside))

    pub level_grows : Level rank' (rows + 1) (fill + length es) cols' ptrs'
    level_grows = record {
      pointers = places_most _ ptrs' (omega (arith, place, length-set ptrs (rows + 1) (fill + length es))) low;
      columns = places_most _ cols' (omega (arith, fits, length-put_at fill (cols_of es) cols enough)) few;
      starts = kept 0 (omega arith) ∙ l.starts;
      rises = λ i h. rise i h (dec_lt i rows);
      ends = pointer_new rows fill (length es) ptrs place;
      low = λ k h. low' k h (dec_lt k fill);
    }

-- L's values with more after them
values_grow : (p fill : ℕ) (vals : List ℕ) (es : List Entry) → values_fault p fill vals ≡ false → Each (λ e. Storable p e.value) es → fill + length es ≤ length vals → fill + length es ≤ 1048576
    → values_fault p (fill + length es) (put_at fill (values_of es) vals) ≡ false
unfolding values_fault values_of
values_grow p fill vals es e each fits few =
    rw (
      le-ltb (places (put_at fill (values_of es) vals)) (fill + length es) (places_most _ (put_at fill (values_of es) vals) (omega (arith, fits, length-put_at fill (values_of es) vals enough)) few),
      storables_pass after Residue,
      storables_pass after Nonzero,
    )
  where
    many : length (values_of es) ≡ length es
    many = length-map es (λ (d : Entry). d.value)

    enough : fill + length (values_of es) ≤ length vals
    enough = omega (arith, many, fits)

    passes : (c : Clause) → values_test c p (take fill vals) ≡ Ok tt
    passes Nonzero = not_refused _ (neither (ltb (places vals) fill || is_err (values_test Residue p (take fill vals))) (is_err (values_test Nonzero p (take fill vals))) e).1
    passes Residue = not_refused _ (neither (ltb (places vals) fill) (is_err (values_test Residue p (take fill vals))) (neither (ltb (places vals) fill || is_err (values_test Residue p (take fill vals))) (is_err (values_test Nonzero p (take fill vals))) e).0).1

    after : Storables p (take (fill + length es) (put_at fill (values_of es) vals))
    after =
        subst (Storables p) (sym (ap (λ (n : ℕ). take (fill + n) (put_at fill (values_of es) vals)) (sym many) ∙ put_whole fill (values_of es) vals enough))
        (storables_append (pass_storables passes) (each_storables each))

module _ (c : Counts) (rank' u_fill' : ℕ) (es : List Entry) (l : Lower) (more : c.rank ≤ rank') (few : length es ≤ c.rank + 1)
    (below : Each (λ e. e.col < rank') es) (each : Each (λ e. Storable c.modulus e.value) es) where
  -- the counts afterwards
  abbrev after : Mode → Counts
  after m = counts m c.modulus c.ncols rank' u_fill' (c.l_rows + cond (keeps m) 1 0) (c.l_fill + kept_entries m es)

  -- columns and pointers, where they are kept
  pattern_keeps : (m : Mode) → keeps m ≡ true → LRoom m (c.rank + 1) c.l_rows c.l_fill l.cols l.vals l.ptrs → pattern_fault c.rank c.l_rows c.l_fill l.cols l.ptrs ≡ false
      → pattern_fault rank' (c.l_rows + 1) (c.l_fill + length es) (put_at c.l_fill (cols_of es) l.cols) (set l.ptrs (c.l_rows + 1) (c.l_fill + length es)) ≡ false
  pattern_keeps m k room sound =
      level_fault rank' (c.l_rows + 1) (c.l_fill + length es) (put_at c.l_fill (cols_of es) l.cols) (set l.ptrs (c.l_rows + 1) (c.l_fill + length es))
      (level_grows c.rank c.l_rows c.l_fill l.cols l.ptrs rank' es (fault_level c.rank c.l_rows c.l_fill l.cols l.ptrs sound) more below
      (omega (arith, room.columns k, few)) (omega (arith, room.few k, few)) (room.pointers k) (room.low k))

  pub lower_keeps : (m : Mode) → LRoom m (c.rank + 1) c.l_rows c.l_fill l.cols l.vals l.ptrs → l_fault m c l.cols l.vals l.ptrs ≡ false
      → l_fault m (after m) (with_l m c.l_rows c.l_fill es l).cols (with_l m c.l_rows c.l_fill es l).vals (with_l m c.l_rows c.l_fill es l).ptrs ≡ false
  unfolding l_fault with_l kept_entries keeps
  lower_keeps Full room sound =
      let both = neither (pattern_fault c.rank c.l_rows c.l_fill l.cols l.ptrs) (values_fault c.modulus c.l_fill l.vals) sound in
      rw (pattern_keeps Full refl room both.0) (values_grow c.modulus c.l_fill l.vals es both.1 each (omega (arith, room.numbers refl, few)) (omega (arith, room.few refl, few)))
  lower_keeps Pattern room sound = pattern_keeps Pattern refl room sound
  lower_keeps None room sound = rw (add-zero c.l_rows, add-zero c.l_fill) sound
