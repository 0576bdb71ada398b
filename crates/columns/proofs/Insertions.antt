-- What inserting columns does: old columns keep their order and their values, the new ones are exactly those that no old
-- column moves to and hold 0, and a well formed matrix stays well formed. Assumes nothing.
use Rattle.std.specs.Prelude.{Ok}
use mathlib.Core.Path.{◌≡◌, refl, sym, ap, ◌∙◌}
use mathlib.Core.Logic.{◌⊎◌, inl, inr}
use mathlib.Core.Bool.{cond, ◌||◌}
use mathlib.Core.List.{List, [], ◌∷◌, map}
use Prim.Native.Nat.{ℕ, zero, suc, ◌+◌, ◌-◌, ◌≤◌, ◌<◌}
use native.Mathlib.Nat.{not-suc-le-zero}
use native.Mathlib.Decide.{dec_lt, ℕ_discrete}
use native.Mathlib.Omega.{arith}
use lib.Dec.{leb, ltb, eqb}
use lib.ListN.{length, get_or, length-map}
use borrow.Author.Tests.{le-leb, lt-leb, leb-true, eq-eqb, ne_eqb}
use Rattle.field.specs.Prime.{is_modulus, is_prime, largest}
use Rattle.lists.specs.Find.{any, count}
use Rattle.lists.specs.Sum.{Σ}
use Rattle.lists.proofs.Counts.{count_le}
use Rattle.lists.proofs.Sums.{sum-ext}
use Rattle.sparse.specs.Lent.{outcome, unless}
use Rattle.sparse.specs.Matrix.{Matrix, matrix, part, row, value_in, value_at}
use Rattle.sparse.specs.Refusals.{refuse, ◌else◌, lowest, first_of}
use Rattle.sparse.specs.Tests.{modulus_test, size_test, shape_test, column_test, columns_test, row_test, rows_test, value_test, values_test, rows_values_test, matrix_test, well_formed}
use Rattle.sparse.specs.declared.Refusal.TheVariants.{Pointer}
use Rattle.sparse.proofs.Firsts.{lowest_skip, lowest_last, else_good, each_good, all_good}
use Rattle.meaning.proofs.RowColumns.{map-part, climbs_good, row_climbs}
use Rattle.meaning.proofs.Values.{Climbs, value_elsewhere}
use Rattle.columns.specs.Asks.{NotFalling}
use Rattle.columns.specs.Positions.{in_order, position_test, positions_test, moved, add_cols_test, add_cols}
use Rattle.columns.proofs.Above.{count_front, count_back, count_wider}
use Rattle.columns.proofs.Passed.{Insertable}

-- what is made of each element, at a place
pub get_d_map : (f : ℕ → ℕ) (xs : List ℕ) (k : ℕ) → k < length xs → get_or (map f xs) k 0 ≡ f (get_or xs k 0)
get_d_map f [] k h = absurd (not-suc-le-zero h)
get_d_map f (x ∷ xs) zero h = refl
get_d_map f (x ∷ xs) (suc k) h = get_d_map f xs k (omega arith)

-- columns keep their order
pub moved_rises : (ps : List ℕ) (c d : ℕ) → c < d → moved ps c < moved ps d
unfolding moved
moved_rises ps c d h =
    omega (arith, count_wider (λ q. leb q c) (λ q. leb q d) ps (λ q t. let l : q ≤ c = leb-true q c t in le-leb q d (omega arith)))

-- so no two move to one
pub moved_apart : (ps : List ℕ) (c d : ℕ) → moved ps c ≡ moved ps d → c ≡ d
moved_apart ps c d e = go (dec_lt c d) (dec_lt d c)
  where
    go : Dec (c < d) → Dec (d < c) → c ≡ d
    go (yes l) r = absurd (omega (arith, moved_rises ps c d l))
    go (no l) (yes r) = absurd (omega (arith, moved_rises ps d c r))
    go (no l) (no r) = omega arith

-- a column below n moves below the new column count
pub moved_below : (ps : List ℕ) (n c : ℕ) → c < n → moved ps c < n + length ps
unfolding moved
moved_below ps n c h = omega (arith, count_le (λ q. leb q c) ps)

module _ (ps : List ℕ) (sorted : NotFalling ps) where
  -- no column moves to a new one
  pub new_apart : (k : ℕ) → k < length ps → (c : ℕ) → moved ps c ≡ get_or ps k 0 + k → ⊥
  unfolding moved
  new_apart k h c e = go (dec_lt c (get_or ps k 0))
    where
      go : Dec (c < get_or ps k 0) → ⊥
      go (yes l) = omega (arith, count_back (λ q. leb q c) 0 ps k (λ j g m. lt-leb (get_or ps j 0) c (omega (arith, sorted.order k j g m))))
      go (no l) = omega (arith, count_front (λ q. leb q c) 0 ps (suc k) h (λ j g. le-leb (get_or ps j 0) c (omega (arith, sorted.order j k (omega arith) h))))

  -- column j, past the first k new columns
  record Past (j k : ℕ) : Type 0 where
    pub within : k ≤ length ps
    pub before : (i : ℕ) → i < k → get_or ps i 0 + i < j

  -- before new column k, or past all, it is an old one
  old : (j k : ℕ) → Past j k → ((i : ℕ) → k ≤ i → i < length ps → j < get_or ps i 0 + k) → (k ≤ j) → moved ps (j - k) ≡ j
  unfolding moved
  old j k past after few =
      let more : k ≤ count (λ q. leb q (j - k)) ps = count_front (λ q. leb q (j - k)) 0 ps k past.within (λ i l. le-leb (get_or ps i 0) (j - k) (low i l)) in
      let less : count (λ q. leb q (j - k)) ps ≤ k = count_back (λ q. leb q (j - k)) 0 ps k (λ i g m. lt-leb (get_or ps i 0) (j - k) (omega (arith, after i g m))) in
      omega arith
    where
      low : (i : ℕ) → i < k → get_or ps i 0 ≤ j - k
      low i l =
          let last : k - 1 < k = omega arith in
          omega (arith, sorted.order i (k - 1) (omega arith) (omega (arith, past.within)), past.before (k - 1) last)

  few_past : (j k : ℕ) → Past j k → k ≤ j
  few_past j zero past = omega arith
  few_past j (suc k) past = omega (arith, past.before k (omega arith))

  -- a column is a new one, or an old one moved there
  abbrev NewOrOld : ℕ → Type 0
  NewOrOld j = ((k : ℕ) × (k < length ps) × (j ≡ get_or ps k 0 + k)) ⊎ ((c : ℕ) × (moved ps c ≡ j))

  past_more : (j k : ℕ) → Past j k → k < length ps → (j ≡ get_or ps k 0 + k → ⊥) → (j < get_or ps k 0 + k → ⊥) → Past j (suc k)
  past_more j k past here q l = record { within = here; before = λ i g. next i g (ℕ_discrete i k) }
    where
      next : (i : ℕ) → i < suc k → Dec (i ≡ k) → get_or ps i 0 + i < j
      next i g (yes same) = rw same (omega arith)
      next i g (no other) = past.before i (omega arith)

  from : (j n k : ℕ) → n + k ≡ length ps → Past j k → NewOrOld j
  from j zero k e past = inr (j - k, old j k past (λ i g m. absurd (omega arith)) (few_past j k past))
  from j (suc n) k e past = go (ℕ_discrete j (get_or ps k 0 + k)) (dec_lt j (get_or ps k 0 + k)) (from j n (suc k) (omega arith))
    where
      go : Dec (j ≡ get_or ps k 0 + k) → Dec (j < get_or ps k 0 + k) → (Past j (suc k) → NewOrOld j) → NewOrOld j
      go (yes q) l later = inl (k, omega arith, q)
      go (no q) (yes l) later = inr (j - k, old j k past (λ i g m. omega (arith, sorted.order k i g m)) (few_past j k past))
      go (no q) (no l) later = later (past_more j k past (omega arith) q l)

  pub new_or_old : (j : ℕ) → ((k : ℕ) × (k < length ps) × (j ≡ get_or ps k 0 + k)) ⊎ ((c : ℕ) × (moved ps c ≡ j))
  new_or_old j = from j (length ps) 0 (omega arith) (record { within = omega arith; before = λ i l. absurd (not-suc-le-zero l) })

-- the matrix with the new columns
abbrev pub widened : Matrix → List ℕ → Matrix
widened m ps = matrix m.nrows (m.ncols + length ps) m.row_ptrs (map (moved ps) m.col_idcs) m.values

same_test : (ps : List ℕ) (a c : ℕ) → eqb (moved ps a) (moved ps c) ≡ eqb a c
same_test ps a c = go (ℕ_discrete a c)
  where
    go : Dec (a ≡ c) → eqb (moved ps a) (moved ps c) ≡ eqb a c
    go (yes e) = eq-eqb (moved ps a) (moved ps c) (ap (moved ps) e) ∙ sym (eq-eqb a c e)
    go (no e) = ne_eqb (moved ps a) (moved ps c) (λ q. e (moved_apart ps a c q)) ∙ sym (ne_eqb a c e)

-- a row's value moves with its column
pub value_moved : (ps cols vals : List ℕ) (c : ℕ) → value_in (map (moved ps) cols) vals (moved ps c) ≡ value_in cols vals c
unfolding value_in
value_moved ps cols vals c =
    ap (λ (n : ℕ). Σ n (λ k. cond (eqb (get_or (map (moved ps) cols) k 0) (moved ps c)) (get_or vals k 0) 0)) (length-map cols (moved ps))
    ∙ sum-ext (length cols) _ _ (λ k h. rw (get_d_map (moved ps) cols k h, same_test ps (get_or cols k 0) c))

-- an old column's values move with it
pub value_old : (m : Matrix) (ps : List ℕ) (i c : ℕ) → value_at (widened m ps) i (moved ps c) ≡ value_at m i c
unfolding value_at row
value_old m ps i c = rw map-part (value_moved ps _ _ c)

-- a new column holds 0, in a row
pub value_inserted : (ps cols vals : List ℕ) → NotFalling ps → (k : ℕ) → k < length ps → value_in (map (moved ps) cols) vals (get_or ps k 0 + k) ≡ 0
value_inserted ps cols vals sorted k h = value_elsewhere (map (moved ps) cols) vals (get_or ps k 0 + k) apart
  where
    apart : (e : ℕ) → e < length (map (moved ps) cols) → get_or (map (moved ps) cols) e 0 ≡ get_or ps k 0 + k → ⊥
    apart e l q =
        let below : e < length cols = rw length-map at l in
        new_apart ps sorted k h (get_or cols e 0) (sym (get_d_map (moved ps) cols e below) ∙ q)

-- and in a matrix
pub value_new : (m : Matrix) (ps : List ℕ) → NotFalling ps → (i k : ℕ) → k < length ps → value_at (widened m ps) i (get_or ps k 0 + k) ≡ 0
unfolding value_at row
value_new m ps sorted i k h = rw map-part (value_inserted ps (row m.row_ptrs m.col_idcs i) _ sorted k h)

-- columns that climb go on climbing
pub climbs_moved : (n : ℕ) (ps cols : List ℕ) → Climbs n cols → Climbs (n + length ps) (map (moved ps) cols)
climbs_moved n ps cols c = record { below = low; rises = up }
  where
    low : (k : ℕ) → k < length (map (moved ps) cols) → get_or (map (moved ps) cols) k 0 < n + length ps
    low k h =
        let l : k < length cols = rw length-map at h in
        rw (get_d_map (moved ps) cols k l) (moved_below ps n (get_or cols k 0) (c.below k l))

    up : (i k : ℕ) → i < k → k < length (map (moved ps) cols) → get_or (map (moved ps) cols) i 0 < get_or (map (moved ps) cols) k 0
    up i k b h =
        let l : k < length cols = rw length-map at h in
        let g : i < length cols = omega arith in
        rw (get_d_map (moved ps) cols i g, get_d_map (moved ps) cols k l) (moved_rises ps _ _ (c.rises i k b l))

-- a well formed matrix stays well formed
module _ {p : ℕ} {m : Matrix} {ps : List ℕ} (ok : Insertable p m ps) where
  shape : shape_test (widened m ps) ≡ Ok tt
  unfolding shape_test
  shape = rw length-map ok.shape

  row_good : (i : ℕ) → i < m.nrows → row_test (m.ncols + length ps) (map (moved ps) m.col_idcs) (get_or m.row_ptrs i 0) (get_or m.row_ptrs (i + 1) 0) ≡ Ok tt
  unfolding rows_test row_test row ◌else◌
  row_good i h =
      let a : ℕ = get_or m.row_ptrs i 0 in
      let b : ℕ = get_or m.row_ptrs (i + 1) 0 in
      let old_row = else_good (refuse (ltb b a || ltb (length m.col_idcs) b) Pointer) (columns_test m.ncols (part a b m.col_idcs)) (each_good m.nrows _ ok.rows i h) in
      rw (length-map, old_row.0, map-part) (climbs_good _ _ (climbs_moved m.ncols ps _ (row_climbs m ok.rows i h)))

  rows : rows_test m.nrows (m.ncols + length ps) m.row_ptrs (map (moved ps) m.col_idcs) ≡ Ok tt
  unfolding rows_test
  rows = all_good m.nrows _ row_good

  pub still_formed : well_formed 65536 p (widened m ps) ≡ Ok tt
  unfolding well_formed matrix_test
  still_formed =
      lowest_skip _ ok.modulus
      ∙ lowest_skip _ ok.wider
      ∙ sym (lowest_last refl)
      ∙ lowest_skip _ shape
      ∙ lowest_skip _ rows
      ∙ sym (lowest_last refl)
      ∙ ok.residues

-- N10: three columns, positions 0 and 3: column 2 becomes 3, five columns
pub n10 : add_cols 7 (matrix 1 3 (0 ∷ 1 ∷ []) (2 ∷ []) (1 ∷ [])) (0 ∷ 3 ∷ []) ≡ outcome (Ok 5) (3 ∷ [])
unfolding add_cols unless add_cols_test lowest ◌else◌ modulus_test refuse is_modulus is_prime any largest size_test matrix_test shape_test rows_test row_test columns_test column_test rows_values_test values_test value_test first_of part row positions_test position_test in_order moved count
n10 = refl
