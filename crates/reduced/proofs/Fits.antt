-- Reduced rows stored without zeros: k of them fit k times n - k + 1 entry places.
-- Assumes nothing.
use mathlib.Core.Path.{◌≡◌, sym, ap, ◌∙◌}
use mathlib.Core.Logic.{◌⊎◌, inl, inr, ⊎_elim}
use mathlib.Core.Bool.{cond}
use mathlib.Core.List.{List}
use Prim.Native.Nat.{ℕ, zero, suc, ◌+◌, ◌-◌, ◌*◌, ◌≤◌, ◌<◌}
use native.Mathlib.Nat.{suc-mul}
use native.Mathlib.Decide.{ℕ_discrete}
use native.Mathlib.Omega.{arith}
use borrow.Author.Tests.{eq-eqb, ne_eqb}
use lib.Dec.{eqb}
use lib.ListN.{length, get_or, length-map}
use Rattle.lists.specs.Sum.{Σ}
use Rattle.lists.proofs.Pigeons.{Distinct, distinct_most}
use Rattle.meaning.proofs.Values.{value_there}
use Rattle.sparse.specs.Put.{cols_of, values_of}
use Rattle.sparse.specs.Rows.{Entry}
use Rattle.steps.specs.Rows.{value_of, CleanRow}
use Rattle.steps.proofs.Zeros.{row_clean}
use Rattle.reduced.specs.Reduced.{Reduced}
use Rattle.reduced.proofs.Distincts.{apart_distinct, distinct_both}

-- k distinct columns h, and the same but column i, in whose place stands n
module _ {n k : ℕ} {h : ℕ → ℕ} (distinct : Distinct k h) (within : (e : ℕ) → e < k → h e < n) (i : ℕ) where
  others : ℕ → ℕ
  others e = cond (eqb e i) n (h e)

  own : (e : ℕ) → ((e ≡ i) × (others e ≡ n)) ⊎ ((e ≡ i → ⊥) × (others e ≡ h e))
  unfolding others
  own e = go (ℕ_discrete e i)
    where
      go : Dec (e ≡ i) → ((e ≡ i) × (cond (eqb e i) n (h e) ≡ n)) ⊎ ((e ≡ i → ⊥) × (cond (eqb e i) n (h e) ≡ h e))
      go (yes s) = inl (s, rw (eq-eqb e i s))
      go (no s) = inr (s, rw (ne_eqb e i s))

  others_within : (e : ℕ) → e < k → others e < n + 1
  others_within e l = ⊎_elim (λ s. omega (arith, s.1)) (λ s. omega (arith, s.1, within e l)) (own e)

  others_distinct : Distinct k others
  others_distinct = record { same = same }
    where
      same : (e f : ℕ) → e < k → f < k → others e ≡ others f → e ≡ f
      same e f l q z =
          ⊎_elim
          (λ s. ⊎_elim (λ t. s.0 ∙ sym t.0) (λ t. absurd (omega (arith, s.1, t.1, z, within f q))) (own f))
          (λ s. ⊎_elim (λ t. absurd (omega (arith, s.1, t.1, z, within e l))) (λ t. distinct.same e f l q (sym s.1 ∙ z ∙ t.1)) (own f))
          (own e)

  -- a clean row that is 0 over all of them but column i
  module _ {p : ℕ} (es : List Entry) (row : CleanRow p n es) (clear : (e : ℕ) → e < k → (i ≡ e → ⊥) → value_of es (h e) ≡ 0) where
    apart : (t e : ℕ) → t < length (cols_of es) → e < k → get_or (cols_of es) t 0 ≡ others e → ⊥
    apart t e l b z = ⊎_elim (λ s. omega (arith, z, s.1, row.climbs.below t l)) (λ s. stored (nothing s.0 s.1)) (own e)
      where
        stored : get_or (values_of es) t 0 ≡ 0 → ⊥
        stored = (row_clean row).stored t (omega (arith, (row_clean row).many))

        nothing : (e ≡ i → ⊥) → others e ≡ h e → get_or (values_of es) t 0 ≡ 0
        nothing other s = sym (value_there n (cols_of es) (values_of es) row.climbs t l) ∙ ap (value_of es) (z ∙ s) ∙ clear e b (λ same. other (sym same))

    -- has at most n - k + 1 entries
    pub clear_few : length es ≤ n - k + 1
    unfolding cols_of
    clear_few =
        let all : length (cols_of es) + k ≤ n + 1 = distinct_both (length (cols_of es)) k (λ t. get_or (cols_of es) t 0) others (n + 1) (apart_distinct (length (cols_of es)) (λ t. get_or (cols_of es) t 0) (λ t e l q z. omega (arith, z, row.climbs.rises t e l q))) others_distinct apart (λ t l. omega (arith, row.climbs.below t l)) others_within in
        omega (arith, all, length-map es (λ (e : Entry). e.col), distinct_most k n h distinct within)

-- terms of at most c
pub sum-most : (k c : ℕ) (f : ℕ → ℕ) → ((i : ℕ) → i < k → f i ≤ c) → Σ k f ≤ k * c
unfolding Σ
sum-most zero c f each = omega arith
sum-most (suc k) c f each = omega (arith, sum-most k c f (λ i l. each i (omega arith)), each k (omega arith), suc-mul k c)

-- k reduced rows stored without zeros
module _ {p n k : ℕ} {r : ℕ → ℕ → ℕ} {h : ℕ → ℕ} (reduced : Reduced p n k r h) (rows : ℕ → List Entry)
    (clean : (i : ℕ) → i < k → CleanRow p n (rows i)) (means : (i : ℕ) → i < k → (j : ℕ) → j < n → value_of (rows i) j ≡ r i j) where
  -- each
  pub reduced_few : (i : ℕ) → i < k → length (rows i) ≤ n - k + 1
  reduced_few i l =
      clear_few (record { same = reduced.heads.apart }) reduced.heads.within i (rows i) (clean i l)
      (λ e b other. means i l (h e) (reduced.heads.within e b) ∙ reduced.clear i e l b other)

  -- all together
  pub reduced_fits : Σ k (λ i. length (rows i)) ≤ k * (n - k + 1)
  reduced_fits = sum-most k (n - k + 1) (λ i. length (rows i)) reduced_few
