-- The tests of a matrix give each number exactly when its clause holds and no preferred one does.
-- Assumes nothing.
use Rattle.std.specs.Prelude.{Err, Ok}
use mathlib.Core.Path.{◌≡◌, refl, sym, ap, subst, ◌∙◌}
use mathlib.Core.Logic.{◌↔◌, ◌⊎◌, inl, inr, ⊎_elim}
use mathlib.Core.Bool.{Bool, not, ◌&&◌, ◌||◌}
use mathlib.Core.List.{List}
use Prim.Native.Nat.{ℕ, suc, ◌+◌, ◌-◌, ◌≤◌, ◌<◌}
use native.Mathlib.Decide.{dec_lt}
use native.Mathlib.Omega.{arith}
use lib.Dec.{leb, ltb, lit<, lit≤}
use lib.ListN.{length, get_or}
use Rattle.lists.proofs.Decides.{Decides, decides_as, decides_not, decides_or, decides_and, decides_lt, decides_le, decides_eq}
use Rattle.field.specs.Prime.{is_modulus}
use Rattle.field.proofs.Primes.{decides_modulus}
use Rattle.meaning.specs.Clauses.{BadPointer, BadColumn, BadRow, FirstBad, Stored, Applies}
use Rattle.sparse.specs.Matrix.{Matrix, part, row}
use Rattle.sparse.specs.Refusals.{number, refuse, lowest, Tested}
use Rattle.sparse.specs.Tests.{modulus_test, size_test, shape_test, column_test, columns_test, row_test, rows_test, value_test, values_test, rows_values_test, matrix_test, well_formed, clean}
use Rattle.sparse.specs.declared.Refusal.{Refusal}
use Rattle.sparse.specs.declared.Refusal.TheVariants.{Modulus, Size, Shape, Pointer, Column, Value, Zero}
use Rattle.sparse.specs.declared.inside.Clause.{Clause}
use Rattle.sparse.specs.declared.inside.Clause.TheVariants.{Residue, Nonzero}
use Rattle.meaning.proofs.Exactly.{same_number, from_one, Stage, never, inner, refuse_first, some_found, some_none, alone, clause, ended, join, exactly}
use Rattle.sparse.proofs.Cuts.{shaped, Laid, laid, formed_laid}
use Rattle.sparse.proofs.Firsts.{each_good, Found, find}
use Rattle.meaning.proofs.Parts.{length_part, get_d_part, InRow, in_row}

-- 2 of any sizes
pub decides_size : (limit rows cols entries : ℕ) → Decides (ltb 1024 rows || ltb 1024 cols || ltb limit entries) (((1024 < rows) ⊎ (1024 < cols)) ⊎ (limit < entries))
decides_size limit rows cols entries = decides_or (decides_or (decides_lt 1024 rows) (decides_lt 1024 cols)) (decides_lt limit entries)

-- a clause whose number follows the last one's
pub next : (App : Refusal → Type 0) (low : ℕ) (b : Bool) (r : Refusal) → number r ≡ suc low → Decides b (App r) → Stage App low (suc low) (refuse b r)
next App low b r e d = clause App low (suc low) b r e (omega arith) d (λ q l h a. omega arith)

-- 5 in a row
module _ (n : ℕ) (cols : List ℕ) where
  decides_column : (k : ℕ) → Decides (leb n (get_or cols k 0) || ltb 0 k && leb (get_or cols k 0) (get_or cols (k - 1) 0)) ((n ≤ get_or cols k 0) ⊎ ((0 < k) × (get_or cols k 0 ≤ get_or cols (k - 1) 0)))
  decides_column k = decides_or (decides_le n (get_or cols k 0)) (decides_and (decides_lt 0 k) (decides_le (get_or cols k 0) (get_or cols (k - 1) 0)))

  pub columns_found : (r : Refusal) → columns_test n cols ≡ Err r → BadColumn n cols × (r ≡ Column)
  unfolding columns_test column_test
  columns_found r e = some_found (length cols) _ _ decides_column Column r e

  pub columns_good : columns_test n cols ≡ Ok tt → BadColumn n cols → ⊥
  unfolding columns_test column_test
  columns_good e = some_none (length cols) _ _ decides_column Column e

-- 4 and 5
module _ (m : Matrix) (same : length m.col_idcs ≡ length m.values) where
  abbrev of_row : ℕ → Tested
  of_row i = row_test m.ncols m.col_idcs (get_or m.row_ptrs i 0) (get_or m.row_ptrs (i + 1) 0)

  decides_pointer : (i : ℕ) → Decides (ltb (get_or m.row_ptrs (i + 1) 0) (get_or m.row_ptrs i 0) || ltb (length m.col_idcs) (get_or m.row_ptrs (i + 1) 0)) (BadPointer m i)
  decides_pointer i =
      decides_or (decides_lt (get_or m.row_ptrs (i + 1) 0) (get_or m.row_ptrs i 0))
      (decides_as (λ (l : length m.col_idcs < get_or m.row_ptrs (i + 1) 0). omega arith) (λ (l : length m.values < get_or m.row_ptrs (i + 1) 0). omega arith) (decides_lt (length m.col_idcs) (get_or m.row_ptrs (i + 1) 0)))

  row_cases : (i : ℕ) (u : Tested) → of_row i ≡ u → (BadPointer m i × (Err Pointer ≡ u)) ⊎ ((BadPointer m i → ⊥) × (columns_test m.ncols (row m.row_ptrs m.col_idcs i) ≡ u))
  unfolding row_test row
  row_cases i u = refuse_first (decides_pointer i) Pointer (columns_test m.ncols (row m.row_ptrs m.col_idcs i)) u

  row_good : (i : ℕ) → of_row i ≡ Ok tt → (BadPointer m i → ⊥) × (BadRow m i → ⊥)
  row_good i e = ⊎_elim (λ x. absurd (never (sym x.1))) (λ x. (x.0, columns_good m.ncols (row m.row_ptrs m.col_idcs i) x.1)) (row_cases i (Ok tt) e)

  -- where no row refuses, none is bad
  pub no_row : rows_test m.nrows m.ncols m.row_ptrs m.col_idcs ≡ Ok tt → (i : ℕ) → i < m.nrows → (BadPointer m i → ⊥) × (BadRow m i → ⊥)
  unfolding rows_test
  no_row e i l = row_good i (each_good m.nrows of_row e i l)

  -- the first bad row, and in which way it is bad
  first_bad : (r : Refusal) → rows_test m.nrows m.ncols m.row_ptrs m.col_idcs ≡ Err r
      → (FirstBad m (BadPointer m) × (r ≡ Pointer)) ⊎ (FirstBad m (λ i. (BadPointer m i → ⊥) × BadRow m i) × (r ≡ Column))
  unfolding rows_test
  first_bad r e =
      let w : Found m.nrows of_row r = find m.nrows of_row e in
      let before : (h : ℕ) → h < w.place → (BadPointer m h → ⊥) × (BadRow m h → ⊥) = (λ h l. row_good h (w.before h l)) in
      ⊎_elim
      (λ x. inl (record { place = w.place; within = w.within; such = (before, x.0) }, sym (inner x.1)))
      (λ x. let y = columns_found m.ncols (row m.row_ptrs m.col_idcs w.place) r x.1 in inr (record { place = w.place; within = w.within; such = (before, (x.0, y.0)) }, y.1))
      (row_cases w.place (Err r) w.here)

  -- no two rows are both the first bad one
  clash : FirstBad m (BadPointer m) → FirstBad m (λ i. (BadPointer m i → ⊥) × BadRow m i) → ⊥
  clash x y = go (dec_lt x.place y.place) (dec_lt y.place x.place)
    where
      go : Dec (x.place < y.place) → Dec (y.place < x.place) → ⊥
      go (yes l) d = (y.such.0 x.place l).0 x.such.1
      go (no l) (yes g) = (x.such.0 y.place g).1 y.such.1.1
      go (no l) (no g) = let e : x.place ≡ y.place = omega arith in y.such.1.0 (subst (BadPointer m) e x.such.1)

-- which refusals have the numbers 4 and 5
four_or_five : (q : Refusal) → 3 < number q → number q ≤ 5 → (q ≡ Pointer) ⊎ (q ≡ Column)
unfolding number
four_or_five q lo hi = go (dec_lt (number q) 5)
  where
    go : Dec (number q < 5) → (q ≡ Pointer) ⊎ (q ≡ Column)
    go (yes l) = inl (same_number q Pointer (omega arith))
    go (no l) = inr (same_number q Column (omega arith))

-- what 6 and 7 refuse, and with which refusal
abbrev pub Wrong : Clause → ℕ → ℕ → Type 0
Wrong Residue p v = p ≤ v
Wrong Nonzero p v = v ≡ 0

abbrev pub reason : Clause → Refusal
reason Residue = Value
reason Nonzero = Zero

module _ (c : Clause) (p : ℕ) where
  pub values_found : (vals : List ℕ) (r : Refusal) → values_test c p vals ≡ Err r → Stored vals (Wrong c p) × (r ≡ reason c)
  values_found vals r = go c
    where
      go : (d : Clause) → values_test d p vals ≡ Err r → Stored vals (Wrong d p) × (r ≡ reason d)
      go Residue = unfold values_test value_test in some_found (length vals) _ _ (λ k. decides_le p (get_or vals k 0)) Value r
      go Nonzero = unfold values_test value_test in some_found (length vals) _ _ (λ k. decides_eq (get_or vals k 0) 0) Zero r

  pub values_good : (vals : List ℕ) → values_test c p vals ≡ Ok tt → Stored vals (Wrong c p) → ⊥
  values_good vals = go c
    where
      go : (d : Clause) → values_test d p vals ≡ Ok tt → Stored vals (Wrong d p) → ⊥
      go Residue = unfold values_test value_test in some_none (length vals) _ _ (λ k. decides_le p (get_or vals k 0)) Value
      go Nonzero = unfold values_test value_test in some_none (length vals) _ _ (λ k. decides_eq (get_or vals k 0) 0) Zero

  module _ (m : Matrix) (laid : Laid m) where
    abbrev row_vals : ℕ → List ℕ
    row_vals i = row m.row_ptrs m.values i

    stored_found : (r : Refusal) → rows_values_test c p m.nrows m.row_ptrs m.values ≡ Err r → Stored m.values (Wrong c p) × (r ≡ reason c)
    unfolding rows_values_test row
    stored_found r e =
        let w : Found m.nrows (λ i. values_test c p (row_vals i)) r = find m.nrows (λ i. values_test c p (row_vals i)) e in
        let v = values_found (row_vals w.place) r w.here in
        let k : ℕ = v.0.place in
        let a : ℕ = get_or m.row_ptrs w.place 0 in
        let b : ℕ = get_or m.row_ptrs (w.place + 1) 0 in
        let long : length (part a b m.values) ≡ b - a = length_part a b m.values (laid.rows.within w.place w.within) in
        let short : k < b - a = subst (λ (n : ℕ). k < n) long v.0.within in
        let inside : a + k < length m.values = omega (arith, laid.rows.within w.place w.within) in
        (record { place = a + k; within = inside; such = subst (Wrong c p) (get_d_part a b m.values k 0 short) v.0.such }, v.1)

    stored_none : rows_values_test c p m.nrows m.row_ptrs m.values ≡ Ok tt → Stored m.values (Wrong c p) → ⊥
    unfolding rows_values_test row
    stored_none e s =
        let w : InRow m.nrows (λ i. get_or m.row_ptrs i 0) s.place = in_row m.nrows (λ i. get_or m.row_ptrs i 0) s.place laid.shape.starts (omega (arith, laid.shape.ends, s.within)) in
        let a : ℕ = get_or m.row_ptrs w.at 0 in
        let b : ℕ = get_or m.row_ptrs (w.at + 1) 0 in
        let k : ℕ = s.place - a in
        let short : k < b - a = omega (arith, w.from, w.upto) in
        let here : a + k ≡ s.place = omega (arith, w.from) in
        let long : length (part a b m.values) ≡ b - a = length_part a b m.values (laid.rows.within w.at w.within) in
        values_good (row_vals w.at) (each_good m.nrows (λ i. values_test c p (row_vals i)) e w.at w.within)
        (record { place = k; within = rw long short; such = subst (Wrong c p) (sym (get_d_part a b m.values k 0 short ∙ ap (λ (i : ℕ). get_or m.values i 0) here)) s.such })

module _ (limit p : ℕ) (m : Matrix) where
  abbrev App : Refusal → Type 0
  App = Applies limit p m

  abbrev rows_t : Tested
  rows_t = rows_test m.nrows m.ncols m.row_ptrs m.col_idcs

  abbrev size_t : Tested
  size_t = size_test limit m.nrows m.ncols (length m.values)

  modulus_stage : Stage App 0 1 (modulus_test p)
  unfolding modulus_test number
  modulus_stage = next App 0 (not (is_modulus p)) Modulus refl (decides_not (decides_modulus p))

  size_stage : Stage App 1 2 size_t
  unfolding size_test number
  size_stage = next App 1 _ Size refl (decides_size limit m.nrows m.ncols (length m.values))

  shape_stage : Stage App 2 3 (shape_test m)
  unfolding shape_test number
  shape_stage =
      next App 2 _ Shape refl
      (decides_or
      (decides_or
      (decides_or (decides_not (decides_eq (length m.col_idcs) (length m.values))) (decides_not (decides_eq (length m.row_ptrs) (m.nrows + 1))))
      (decides_not (decides_eq (get_or m.row_ptrs 0 0) 0)))
      (decides_not (decides_eq (get_or m.row_ptrs m.nrows 0) (length m.values))))

  rows_stage : shape_test m ≡ Ok tt → Stage App 3 5 rows_t
  unfolding number
  rows_stage good = record {
    holds = λ r e. ⊎_elim (λ x. subst App (sym x.1) x.0) (λ x. subst App (sym x.1) x.0) (first_bad m (shaped m good).col_each r e);
    above = λ r e. ⊎_elim (λ x. rw x.1 (lit< tt)) (λ x. rw x.1 (lit< tt)) (first_bad m (shaped m good).col_each r e);
    upto = λ r e. ⊎_elim (λ x. rw x.1 (lit≤ tt)) (λ x. rw x.1 (lit≤ tt)) (first_bad m (shaped m good).col_each r e);
    first = λ r e q lo hi a.
        ⊎_elim
        (λ x. let g : number r ≡ 4 = ap number x.1 in omega arith)
        (λ x. let g : number r ≡ 5 = ap number x.1 in clash m (shaped m good).col_each (subst App (same_number q Pointer (omega arith)) a) x.0)
        (first_bad m (shaped m good).col_each r e);
    none = λ e q lo hi a.
        ⊎_elim
        (λ f. let x : FirstBad m (BadPointer m) = subst App f a in (no_row m (shaped m good).col_each e x.place x.within).0 x.such.1)
        (λ f. let x : FirstBad m (λ i. (BadPointer m i → ⊥) × BadRow m i) = subst App f a in (no_row m (shaped m good).col_each e x.place x.within).1 x.such.1.1)
        (four_or_five q lo hi);
  }

  -- 6, or 7
  values_stage : (c : Clause) (low : ℕ) → Laid m → number (reason c) ≡ suc low → (Stored m.values (Wrong c p) → App (reason c)) → (App (reason c) → Stored m.values (Wrong c p)) → Stage App low (suc low) (rows_values_test c p m.nrows m.row_ptrs m.values)
  values_stage c low l e to from = alone App low (suc low) _ (reason c) (Stored m.values (Wrong c p)) e (omega arith) (stored_found c p m l) (stored_none c p m l) to from (λ q lo hi a. omega arith)

  matrix_stage : Stage App 2 6 (matrix_test p m)
  unfolding matrix_test lowest number
  matrix_stage =
      join App 2 3 6 (shape_test m) _ (lit≤ tt) (lit≤ tt) shape_stage
      (λ good.
      join App 3 5 6 rows_t _ (lit≤ tt) (lit≤ tt) (rows_stage good)
      (λ cut. join App 5 6 6 (rows_values_test Residue p m.nrows m.row_ptrs m.values) (Ok tt) (lit≤ tt) (lit≤ tt) (values_stage Residue 5 (laid m good cut) refl (λ x. x) (λ x. x)) (λ e. ended App 6)))

  formed_stage : Stage App 0 6 (well_formed limit p m)
  unfolding well_formed lowest
  formed_stage =
      join App 0 1 6 (modulus_test p) _ (lit≤ tt) (lit≤ tt) modulus_stage
      (λ e. join App 1 2 6 size_t _ (lit≤ tt) (lit≤ tt) size_stage (λ f. join App 2 6 6 (matrix_test p m) (Ok tt) (lit≤ tt) (lit≤ tt) matrix_stage (λ g. ended App 6)))

  clean_stage : Stage App 0 7 (clean limit p m)
  unfolding clean lowest number
  clean_stage =
      join App 0 6 7 (well_formed limit p m) _ (lit≤ tt) (lit≤ tt) formed_stage
      (λ e. join App 6 7 7 (rows_values_test Nonzero p m.nrows m.row_ptrs m.values) (Ok tt) (lit≤ tt) (lit≤ tt) (values_stage Nonzero 6 (formed_laid limit p m e) refl (λ x. x) (λ x. x)) (λ f. ended App 7))

  -- a number is given exactly when its clause holds and no preferred one does
  pub well_formed_exactly : (r : Refusal) → (well_formed limit p m ≡ Err r) ↔ (Applies limit p m r × (number r ≤ 6) × ((q : Refusal) → number q < number r → Applies limit p m q → ⊥))
  well_formed_exactly = exactly App 6 (well_formed limit p m) formed_stage

  pub clean_exactly : (r : Refusal) → (clean limit p m ≡ Err r) ↔ (Applies limit p m r × (number r ≤ 7) × ((q : Refusal) → number q < number r → Applies limit p m q → ⊥))
  clean_exactly = exactly App 7 (clean limit p m) clean_stage

  -- and a good one has none of them
  pub well_formed_none : well_formed limit p m ≡ Ok tt → (q : Refusal) → number q ≤ 6 → Applies limit p m q → ⊥
  well_formed_none e q l = formed_stage.none e q (from_one q) l

  pub clean_none : clean limit p m ≡ Ok tt → (q : Refusal) → number q ≤ 7 → Applies limit p m q → ⊥
  clean_none e q l = clean_stage.none e q (from_one q) l
