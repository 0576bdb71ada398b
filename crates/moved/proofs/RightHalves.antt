-- `take_rev_right_half`: which row stands where, what value lies at each place, and that a good matrix stays good.
-- Assumes nothing.
use Rattle.std.specs.Prelude.{Ok}
use mathlib.Core.Path.{◌≡◌, refl, sym, ap, ap₂, ◌∙◌}
use mathlib.Core.Bool.{Bool, true, false, cond, ◌&&◌}
use mathlib.Core.List.{List, [], ◌∷◌, map, map-map, flatten}
use Prim.Native.Nat.{ℕ, zero, suc, ◌+◌, ◌-◌, ◌%◌, ◌≤◌, ◌<◌}
use native.Mathlib.Nat.{not-suc-le-zero}
use native.Mathlib.Decide.{dec_lt, ℕ_discrete}
use native.Mathlib.Omega.{arith}
use lib.Dec.{leb, eqb}
use lib.ListN.{length, get_or, length-map, get_or-map}
use borrow.Author.Tests.{le-leb, lt-leb, eq-eqb, ne_eqb, le-ltb, leb-true, eqb-true, not-false}
use Rattle.lists.specs.Find.{keep}
use Rattle.lists.specs.Sum.{Σ}
use Rattle.lists.proofs.Counts.{count_le}
use Rattle.lists.proofs.Sums.{sum-ext}
use Rattle.lists.proofs.Tables.{length-table, get_or-table}
use Rattle.sparse.specs.Matrix.{Matrix, value_in, value_at}
use Rattle.sparse.specs.Refusals.{refuse}
use Rattle.sparse.specs.Rows.{Entry, entry, row_at, compressed}
use Rattle.sparse.specs.Tests.{size_test, columns_test, value_test, values_test, well_formed}
use Rattle.sparse.specs.declared.inside.Clause.TheVariants.{Residue}
use Rattle.sparse.proofs.Cuts.{small, formed_laid}
use Rattle.sparse.proofs.Firsts.{lowest_good, refuse_good, each_good, all_good}
use Rattle.meaning.proofs.Kept.{value_kept}
use Rattle.meaning.proofs.RowColumns.{climbs_good}
use Rattle.meaning.proofs.Values.{Climbs, columns_climb}
use Rattle.writing.proofs.WellFormed.{rows_well_formed, given_columns, given_values}
use Rattle.writing.proofs.Written.{value_of, row_of_rows, value_written, well_formed_lem, stored}
use Rattle.moves.specs.Moves.{half, odd, right_of, reversed_right, take_rev_test}
use Rattle.moves.proofs.HalfRows.{half_sized}

-- column c stands at j after renumbering
right_test : (h c j : ℕ) → (leb h c && eqb (c - h) j) ≡ eqb c (h + j)
right_test h c j = go (dec_lt c h) (ℕ_discrete c (h + j))
  where
    go : Dec (c < h) → Dec (c ≡ h + j) → (leb h c && eqb (c - h) j) ≡ eqb c (h + j)
    go (yes l) q = rw (lt-leb h c l, ne_eqb c (h + j) (λ e. omega arith))
    go (no l) (yes e) = rw (le-leb h c (omega arith), eq-eqb (c - h) j (omega arith), eq-eqb c (h + j) e)
    go (no l) (no e) = rw (le-leb h c (omega arith), ne_eqb (c - h) j (λ q. e (omega arith)), ne_eqb c (h + j) e)

-- the value at column j from h on
pub right_value : (h : ℕ) (es : List Entry) (j : ℕ) → value_of (right_of h es) j ≡ value_of es (h + j)
unfolding right_of value_in
right_value h es j =
    ap₂ (λ (c v : List ℕ). value_in c v j) (map-map _ _ (keep (λ (e : Entry). leb h e.col) es)) (map-map _ _ (keep (λ (e : Entry). leb h e.col) es))
    ∙ value_kept (λ (e : Entry). leb h e.col) (λ e. e.col - h) (λ e. e.value) es (entry 0 0) j
    ∙ sum-ext (length es) _ _ (λ k l. ap (λ (b : Bool). cond b (get_or es k (entry 0 0)).value 0) (right_test h (get_or es k (entry 0 0)).col j) ∙ ap₂ (λ (c v : ℕ). cond (eqb c (h + j)) v 0) (sym (get_or-map (λ (e : Entry). e.col) es k (entry 0 0))) (sym (get_or-map (λ (e : Entry). e.value) es k (entry 0 0))))
    ∙ ap (λ (n : ℕ). Σ n (λ k. cond (eqb (get_or (map (λ (e : Entry). e.col) es) k 0) (h + j)) (get_or (map (λ (e : Entry). e.value) es) k 0) 0)) (sym (length-map es (λ (e : Entry). e.col)))

-- the result, read as a matrix
abbrev pub right_half : Matrix → Matrix
right_half m = compressed (half m.ncols) (reversed_right m)

module _ (m : Matrix) (i : ℕ) (h : i < m.nrows) where
  right_at : get_or (reversed_right m) i [] ≡ right_of (half m.ncols) (row_at m (m.nrows - 1 - i))
  unfolding reversed_right
  right_at = get_or-table m.nrows (λ i. right_of (half m.ncols) (row_at m (m.nrows - 1 - i))) i [] h

  pub half_row : row_at (right_half m) i ≡ right_of (half m.ncols) (row_at m (m.nrows - 1 - i))
  half_row = row_of_rows (half m.ncols) (reversed_right m) i ∙ right_at

  pub half_value : (p : ℕ) → well_formed 65536 p m ≡ Ok tt → (j : ℕ) → value_at (right_half m) i j ≡ value_at m (m.nrows - 1 - i) (half m.ncols + j)
  unfolding reversed_right
  half_value p good j =
      value_written (half m.ncols) (reversed_right m) i j (rw length-table h)
      ∙ ap (λ (es : List Entry). value_of es j) right_at
      ∙ right_value (half m.ncols) (row_at m (m.nrows - 1 - i)) j
      ∙ sym (stored m (well_formed_lem p m good) (m.nrows - 1 - i) (half m.ncols + j) (omega arith))

module _ {A : Type 0} (f : A → Bool) (d : A) where
  -- what holds of each that passes holds of each that is kept
  kept_each : (P : A → Type 0) (xs : List A) → ((k : ℕ) → k < length xs → f (get_or xs k d) ≡ true → P (get_or xs k d)) → (k : ℕ) → k < length (keep f xs) → P (get_or (keep f xs) k d)
  unfolding keep
  kept_each P [] h k l = absurd (not-suc-le-zero l)
  kept_each P (x ∷ xs) h k l = go (f x) refl (kept_each P xs (λ i b. h (suc i) (omega arith))) k l
    where
      go : (b : Bool) → f x ≡ b → ((i : ℕ) → i < length (keep f xs) → P (get_or (keep f xs) i d)) → (i : ℕ) → i < length (cond b (x ∷ keep f xs) (keep f xs)) → P (get_or (cond b (x ∷ keep f xs) (keep f xs)) i d)
      go true e ih zero b = h 0 (omega arith) e
      go true e ih (suc i) b = ih i (omega arith)
      go false e ih i b = ih i b

  -- keys that rise still do
  kept_rise : (key : A → ℕ) (xs : List A) → ((i k : ℕ) → i < k → k < length xs → key (get_or xs i d) < key (get_or xs k d)) → (i k : ℕ) → i < k → k < length (keep f xs) → key (get_or (keep f xs) i d) < key (get_or (keep f xs) k d)
  unfolding keep
  kept_rise key [] h i k l b = absurd (not-suc-le-zero b)
  kept_rise key (x ∷ xs) h i k l b = go (f x) (kept_rise key xs (λ i k l b. h (suc i) (suc k) (omega arith) (omega arith))) i k l b
    where
      first : (k : ℕ) → k < length (keep f xs) → key x < key (get_or (keep f xs) k d)
      first = kept_each (λ y. key x < key y) xs (λ k l e. h 0 (suc k) (omega arith) (omega arith))

      go : (t : Bool) → ((i k : ℕ) → i < k → k < length (keep f xs) → key (get_or (keep f xs) i d) < key (get_or (keep f xs) k d)) → (i k : ℕ) → i < k → k < length (cond t (x ∷ keep f xs) (keep f xs))
          → key (get_or (cond t (x ∷ keep f xs) (keep f xs)) i d) < key (get_or (cond t (x ∷ keep f xs) (keep f xs)) k d)
      go true ih i zero l b = absurd (not-suc-le-zero l)
      go true ih zero (suc k) l b = first k (omega arith)
      go true ih (suc i) (suc k) l b = ih i k (omega arith) (omega arith)
      go false ih i k l b = ih i k l b

module _ (h : ℕ) (es : List Entry) where
  abbrev kept : List Entry
  kept = keep (λ (e : Entry). leb h e.col) es

  abbrev moved : Entry → Entry
  moved e = entry (e.col - h) e.value

  cols_long : length (map (λ (e : Entry). e.col) (right_of h es)) ≡ length kept
  unfolding right_of
  cols_long = length-map (map moved kept) (λ (e : Entry). e.col) ∙ length-map kept moved

  vals_long : length (map (λ (e : Entry). e.value) (right_of h es)) ≡ length kept
  unfolding right_of
  vals_long = length-map (map moved kept) (λ (e : Entry). e.value) ∙ length-map kept moved

  col_at : (k : ℕ) → get_or (map (λ (e : Entry). e.col) (right_of h es)) k 0 ≡ (get_or kept k (entry 0 0)).col - h
  unfolding right_of
  col_at k = ap (λ (l : List ℕ). get_or l k 0) (map-map (λ (e : Entry). e.col) moved kept) ∙ no_col h ∙ get_or-map (λ (e : Entry). e.col - h) kept k (entry 0 0)
    where
      no_col : (n : ℕ) → get_or (map (λ (e : Entry). e.col - h) kept) k 0 ≡ get_or (map (λ (e : Entry). e.col - h) kept) k (0 - n)
      no_col n = let z : 0 ≡ 0 - n = omega arith in ap (get_or (map (λ (e : Entry). e.col - h) kept) k) z

  val_at : (k : ℕ) → get_or (map (λ (e : Entry). e.value) (right_of h es)) k 0 ≡ (get_or kept k (entry 0 0)).value
  unfolding right_of
  val_at k = ap (λ (l : List ℕ). get_or l k 0) (map-map (λ (e : Entry). e.value) moved kept) ∙ get_or-map (λ (e : Entry). e.value) kept k (entry 0 0)

  -- columns below h + n that climb
  pub right_columns : (n : ℕ) → columns_test (h + n) (map (λ e. e.col) es) ≡ Ok tt → columns_test n (map (λ e. e.col) (right_of h es)) ≡ Ok tt
  right_columns n good = climbs_good n _ (record { below = below; rises = rises })
    where
      climbs : Climbs (h + n) (map (λ (e : Entry). e.col) es)
      climbs = columns_climb (h + n) _ good

      at : (k : ℕ) → get_or (map (λ (e : Entry). e.col) es) k 0 ≡ (get_or es k (entry 0 0)).col
      at k = get_or-map (λ (e : Entry). e.col) es k (entry 0 0)

      long : length (map (λ (e : Entry). e.col) es) ≡ length es
      long = length-map es (λ (e : Entry). e.col)

      high : (k : ℕ) → k < length kept → h ≤ (get_or kept k (entry 0 0)).col
      high = kept_each (λ (e : Entry). leb h e.col) (entry 0 0) (λ (e : Entry). h ≤ e.col) es (λ k l t. leb-true _ _ t)

      low : (k : ℕ) → k < length kept → (get_or kept k (entry 0 0)).col < h + n
      low = kept_each (λ (e : Entry). leb h e.col) (entry 0 0) (λ (e : Entry). e.col < h + n) es (λ k l t. rw (at k) at (climbs.below k (omega (arith, long))))

      up : (i k : ℕ) → i < k → k < length kept → (get_or kept i (entry 0 0)).col < (get_or kept k (entry 0 0)).col
      up = kept_rise (λ (e : Entry). leb h e.col) (entry 0 0) (λ (e : Entry). e.col) es (λ i k l b. rw (at i, at k) at (climbs.rises i k l (omega (arith, long))))

      below : (k : ℕ) → k < length (map (λ (e : Entry). e.col) (right_of h es)) → get_or (map (λ (e : Entry). e.col) (right_of h es)) k 0 < n
      below k l = let b : k < length kept = omega (arith, cols_long) in omega (arith, col_at k, high k b, low k b)

      rises : (i k : ℕ) → i < k → k < length (map (λ (e : Entry). e.col) (right_of h es)) → get_or (map (λ (e : Entry). e.col) (right_of h es)) i 0 < get_or (map (λ (e : Entry). e.col) (right_of h es)) k 0
      rises i k l b =
          let c : k < length kept = omega (arith, cols_long) in
          let a : i < length kept = omega arith in
          omega (arith, col_at i, col_at k, high i a, up i k l c)

  pub right_values : (p : ℕ) → values_test Residue p (map (λ e. e.value) es) ≡ Ok tt → values_test Residue p (map (λ e. e.value) (right_of h es)) ≡ Ok tt
  unfolding values_test
  right_values p good = all_good _ _ (λ k l. rw (val_at k) (each k (omega (arith, vals_long))))
    where
      at : (k : ℕ) → get_or (map (λ (e : Entry). e.value) es) k 0 ≡ (get_or es k (entry 0 0)).value
      at k = get_or-map (λ (e : Entry). e.value) es k (entry 0 0)

      each : (k : ℕ) → k < length kept → value_test Residue p (get_or kept k (entry 0 0)).value ≡ Ok tt
      each = kept_each (λ (e : Entry). leb h e.col) (entry 0 0) (λ (e : Entry). value_test Residue p e.value ≡ Ok tt) es (λ k l t.
          rw (at k) at (each_good _ (λ k. value_test Residue p (get_or (map (λ (e : Entry). e.value) es) k 0)) good k (omega (arith, length-map es (λ (e : Entry). e.value)))))

-- a good matrix stays good
module _ (p : ℕ) (m : Matrix) (good : take_rev_test p m ≡ Ok tt) where
  formed : well_formed 65536 p m ≡ Ok tt
  unfolding take_rev_test
  formed = (lowest_good _ _ good).0

  even : m.ncols ≡ half m.ncols + half m.ncols
  unfolding take_rev_test odd half
  even = let e : m.ncols % 2 ≡ 0 = eqb-true _ _ (not-false _ (refuse_good _ _ (lowest_good _ _ (lowest_good _ _ good).1).0)) in omega arith

  size : size_test 65536 (length (reversed_right m)) (half m.ncols) (length (flatten (reversed_right m))) ≡ Ok tt
  unfolding size_test refuse well_formed
  size =
      let s = small 65536 m.nrows m.ncols (length m.values) (lowest_good _ _ (lowest_good _ _ formed).1).0 in
      let made = half_sized p m good refl in
      rw (
        le-ltb 1024 (length (reversed_right m)) (omega (arith, made.many, s.high)),
        le-ltb 1024 (half m.ncols) (omega (arith, even, s.wide)),
        le-ltb 65536 (length (flatten (reversed_right m))) (omega (arith, made.long, count_le (leb (half m.ncols)) m.col_idcs, (formed_laid 65536 p m formed).shape.col_each, s.few)),
      )

  pub half_well_formed : well_formed 65536 p (right_half m) ≡ Ok tt
  unfolding well_formed
  half_well_formed =
      rows_well_formed p (half m.ncols) (reversed_right m) (lowest_good _ _ formed).0 size
      (λ i h. ap (λ (es : List Entry). columns_test (half m.ncols) (map (λ (e : Entry). e.col) es)) (right_at m i (row_of i h)) ∙ right_columns (half m.ncols) _ (half m.ncols) (ap (λ (n : ℕ). columns_test n (map (λ (e : Entry). e.col) (row_at m (m.nrows - 1 - i)))) (sym even) ∙ given_columns p m formed (m.nrows - 1 - i) (other i (row_of i h))))
      (λ i h. ap (λ (es : List Entry). values_test Residue p (map (λ (e : Entry). e.value) es)) (right_at m i (row_of i h)) ∙ right_values (half m.ncols) _ p (given_values p m formed (m.nrows - 1 - i) (other i (row_of i h))))
    where
      row_of : (i : ℕ) → i < length (reversed_right m) → i < m.nrows
      row_of i h = omega (arith, (half_sized p m good refl).many)

      other : (i : ℕ) → i < m.nrows → m.nrows - 1 - i < m.nrows
      other i h = omega arith
