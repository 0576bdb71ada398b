-- Distinct numbers: told by their order, two lots with none in common, and a lot among others.
-- Assumes nothing.
use mathlib.Core.Path.{◌≡◌, sym, ap, ◌∙◌}
use mathlib.Core.Logic.{◌⊎◌, inl, inr, ⊎_elim}
use mathlib.Core.Bool.{cond}
use Prim.Native.Nat.{ℕ, ◌+◌, ◌-◌, ◌≤◌, ◌<◌}
use native.Mathlib.Decide.{dec_lt}
use native.Mathlib.Omega.{arith}
use borrow.Author.Tests.{lt-ltb, le-ltb, eq-eqb, eqb-true}
use lib.Dec.{ltb, eqb}
use Rattle.lists.specs.Find.{least}
use Rattle.lists.proofs.Find.{least_found}
use Rattle.lists.proofs.Pigeons.{Distinct, distinct_most}

-- numbers that differ from all after them
pub apart_distinct : (m : ℕ) (f : ℕ → ℕ) → ((i e : ℕ) → i < e → e < m → f i ≡ f e → ⊥) → Distinct m f
apart_distinct m f apart = record { same = λ i e l q s. go i e l q s (dec_lt i e) (dec_lt e i) }
  where
    go : (i e : ℕ) → i < m → e < m → f i ≡ f e → Dec (i < e) → Dec (e < i) → i ≡ e
    go i e l q s (yes a) b = absurd (apart i e a q s)
    go i e l q s (no a) (yes b) = absurd (apart e i b l (sym s))
    go i e l q s (no a) (no b) = omega arith

-- k distinct numbers h, each among the l numbers g: k is at most l
module _ (k l : ℕ) (h g : ℕ → ℕ) (distinct : Distinct k h) (among : (i : ℕ) → i < k → (j : ℕ) × (j < l) × (g j ≡ h i)) where
  place : ℕ → ℕ
  place i = least l (λ j. eqb (g j) (h i))

  there : (i : ℕ) → i < k → (place i < l) × (g (place i) ≡ h i)
  unfolding place
  there i q =
      let m = among i q in
      let f = least_found l (λ j. eqb (g j) (h i)) m.0 m.1 (eq-eqb (g m.0) (h i) m.2) in
      (omega (arith, f.0, m.1), eqb-true (g (place i)) (h i) f.1)

  pub distinct_among : k ≤ l
  distinct_among = distinct_most k l place (record { same = λ i e q t z. distinct.same i e q t (sym (there i q).1 ∙ ap g z ∙ (there e t).1) }) (λ i q. (there i q).0)

-- a distinct numbers f and b distinct numbers g, one after the other
module _ (a b : ℕ) (f g : ℕ → ℕ) where
  both : ℕ → ℕ
  both t = cond (ltb t a) (f t) (g (t - a))

  sides : (t : ℕ) → t < a + b → ((t < a) × (both t ≡ f t)) ⊎ ((a ≤ t) × (t - a < b) × (both t ≡ g (t - a)))
  unfolding both
  sides t l = go (dec_lt t a)
    where
      go : Dec (t < a) → ((t < a) × (cond (ltb t a) (f t) (g (t - a)) ≡ f t)) ⊎ ((a ≤ t) × (t - a < b) × (cond (ltb t a) (f t) (g (t - a)) ≡ g (t - a)))
      go (yes q) = inl (q, rw (lt-ltb t a q))
      go (no q) = let over : a ≤ t = omega arith in let rest : t - a < b = omega arith in inr (over, rest, rw (le-ltb t a over))

  -- none in common, all below n: together at most n
  pub distinct_both : (n : ℕ) → Distinct a f → Distinct b g → ((i e : ℕ) → i < a → e < b → f i ≡ g e → ⊥) → ((i : ℕ) → i < a → f i < n) → ((e : ℕ) → e < b → g e < n) → a + b ≤ n
  distinct_both n df dg other lf lg = distinct_most (a + b) n both (record { same = same }) small
    where
      small : (t : ℕ) → t < a + b → both t < n
      small t l = ⊎_elim (λ s. rw s.1 (lf t s.0)) (λ s. rw s.2 (lg (t - a) s.1)) (sides t l)

      same : (t u : ℕ) → t < a + b → u < a + b → both t ≡ both u → t ≡ u
      same t u l q e =
          ⊎_elim
          (λ s. ⊎_elim (λ z. df.same t u s.0 z.0 (sym s.1 ∙ e ∙ z.1)) (λ z. absurd (other t (u - a) s.0 z.1 (sym s.1 ∙ e ∙ z.2))) (sides u q))
          (λ s. ⊎_elim (λ z. absurd (other u (t - a) z.0 s.1 (sym z.1 ∙ sym e ∙ s.2))) (λ z. omega (arith, s.0, z.0, dg.same (t - a) (u - a) s.1 z.1 (sym s.2 ∙ e ∙ z.2))) (sides u q))
          (sides t l)
