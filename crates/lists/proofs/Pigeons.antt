-- Distinct numbers below n: there are at most n of them, and n of them leave none out.
-- Assumes nothing.
use mathlib.Core.Path.{◌≡◌}
use mathlib.Core.Logic.{◌⊎◌, inl, inr, ⊎_elim}
use mathlib.Core.Bool.{true, false, cond}
use Prim.Native.Nat.{ℕ, zero, suc, ◌-◌, ◌≤◌, ◌<◌}
use native.Mathlib.Nat.{not-suc-le-zero}
use native.Mathlib.Decide.{dec_lt}
use native.Mathlib.Omega.{arith}
use lib.Dec.{ltb, eqb}
use borrow.Author.Tests.{lt-ltb, le-ltb, eqb-true, eqb-false}
use Rattle.lists.specs.Find.{any}
use Rattle.lists.proofs.Find.{any_false, any_some, told}

-- f takes distinct values on the numbers below m
pub record Distinct (m : ℕ) (f : ℕ → ℕ) : Type 0 where
  pub same : (i e : ℕ) → i < m → e < m → f i ≡ f e → i ≡ e

-- the numbers but c, closed up
squeeze : ℕ → ℕ → ℕ
squeeze c x = cond (ltb c x) (x - 1) x

squeeze_cases : (c x : ℕ) → (x ≡ c → ⊥) → ((x < c) × (squeeze c x ≡ x)) ⊎ ((c < x) × (squeeze c x ≡ x - 1))
unfolding squeeze
squeeze_cases c x ne = go (dec_lt c x)
  where
    go : Dec (c < x) → ((x < c) × (cond (ltb c x) (x - 1) x ≡ x)) ⊎ ((c < x) × (cond (ltb c x) (x - 1) x ≡ x - 1))
    go (yes l) = inr (l, rw (lt-ltb c x l))
    go (no l) = let g : x < c = lt_of_le_of_ne x c ne (omega arith) in inl (g, rw (le-ltb c x (omega arith)))
      where
        lt_of_le_of_ne : (a b : ℕ) → (a ≡ b → ⊥) → a ≤ b → a < b
        lt_of_le_of_ne a b f h = omega arith

squeeze_same : (c x y : ℕ) → (x ≡ c → ⊥) → (y ≡ c → ⊥) → squeeze c x ≡ squeeze c y → x ≡ y
squeeze_same c x y ne ne' e =
    ⊎_elim
    (λ a. ⊎_elim (λ b. omega (arith, a.1, b.1)) (λ b. omega (arith, a.0, a.1, b.0, b.1)) (squeeze_cases c y ne'))
    (λ a. ⊎_elim (λ b. omega (arith, a.0, a.1, b.0, b.1)) (λ b. omega (arith, a.0, a.1, b.0, b.1)) (squeeze_cases c y ne'))
    (squeeze_cases c x ne)

squeeze_less : (c x n : ℕ) → (x ≡ c → ⊥) → c < suc n → x < suc n → squeeze c x < n
squeeze_less c x n ne hc hx = ⊎_elim (λ a. omega (arith, a.0, a.1)) (λ a. omega (arith, a.0, a.1)) (squeeze_cases c x ne)

-- at most n
pub distinct_most : (m n : ℕ) (f : ℕ → ℕ) → Distinct m f → ((i : ℕ) → i < m → f i < n) → m ≤ n
distinct_most zero n f d h = omega arith
distinct_most (suc m) zero f d h = absurd (not-suc-le-zero (h m (omega arith)))
distinct_most (suc m) (suc n) f d h =
    let less : m ≤ n = distinct_most m n (λ i. squeeze (f m) (f i)) closed small in
    omega arith
  where
    other : (i : ℕ) → i < m → f i ≡ f m → ⊥
    other i l e = let g : i ≡ m = d.same i m (omega arith) (omega arith) e in omega arith

    closed : Distinct m (λ i. squeeze (f m) (f i))
    closed = record { same = λ i e l q s. d.same i e (omega arith) (omega arith) (squeeze_same (f m) (f i) (f e) (other i l) (other e q) s) }

    small : (i : ℕ) → i < m → squeeze (f m) (f i) < n
    small i l = squeeze_less (f m) (f i) n (other i l) (h m (omega arith)) (h i (omega arith))

-- none left out
pub distinct_all : (n : ℕ) (f : ℕ → ℕ) → Distinct n f → ((i : ℕ) → i < n → f i < n) → (c : ℕ) → c < n → (i : ℕ) × (i < n) × (f i ≡ c)
distinct_all n f d h c l = ⊎_elim found missing (told (any n (λ i. eqb (f i) c)))
  where
    found : any n (λ i. eqb (f i) c) ≡ true → (i : ℕ) × (i < n) × (f i ≡ c)
    found e = let w = any_some n (λ i. eqb (f i) c) e in (w.0, w.1, eqb-true (f w.0) c w.2)

    missing : any n (λ i. eqb (f i) c) ≡ false → (i : ℕ) × (i < n) × (f i ≡ c)
    missing e =
        let other : (i : ℕ) → i < n → f i ≡ c → ⊥ = λ i b. eqb-false (f i) c (any_false n (λ i. eqb (f i) c) e i b) in
        let closed : Distinct n (λ i. squeeze c (f i)) = record { same = λ i j a b s. d.same i j a b (squeeze_same c (f i) (f j) (other i a) (other j b) s) } in
        let few : n ≤ n - 1 = distinct_most n (n - 1) (λ i. squeeze c (f i)) closed (λ i b. let s : f i < n = h i b in squeeze_less c (f i) (n - 1) (other i b) (omega arith) (omega arith)) in
        absurd (omega arith)
