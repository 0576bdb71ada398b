-- Rows with distinct heads, 1 there and 0 before: they are independent, and n of them span everything.
-- Assumes nothing.
use mathlib.Core.Path.{◌≡◌, refl, sym, ap, ◌∙◌}
use Prim.Native.Nat.{ℕ, zero, suc, ◌+◌, ◌-◌, ◌*◌, ◌%◌, ◌≤◌, ◌<◌}
use native.Mathlib.Nat.{mul-zero, zero-mul, mul-one, not-suc-le-zero, le_refl, add-zero, add-mod-mod, add-mul-mod_self_left}
use native.Mathlib.Decide.{dec_lt}
use native.Mathlib.Omega.{arith}
use Rattle.lists.specs.Sum.{Σ}
use Rattle.lists.proofs.Mods.{mod_mul_mod, mul_mod_mod}
use Rattle.lists.proofs.Pigeons.{distinct_all}
use Rattle.lists.proofs.Sums.{sum-zero, sum_same, sum_one_mod}
use Rattle.linear.proofs.Span.{Span, span_zero, span_same, span_row, span_add, span_mul, pred_times}

-- k rows u in n columns, row i with its head at column h i
pub record Heads (p n k : ℕ) (u : ℕ → ℕ → ℕ) (h : ℕ → ℕ) : Type 0 where
  pub within : (i : ℕ) → i < k → h i < n
  pub one : (i : ℕ) → i < k → u i (h i) % p ≡ 1 % p
  pub before : (i : ℕ) → i < k → (j : ℕ) → j < h i → u i j % p ≡ 0 % p
  pub apart : (i e : ℕ) → i < k → e < k → h i ≡ h e → i ≡ e

-- a factor that leaves 0 leaves 0 in the product, and so does a value
pub none_left : (p a b : ℕ) → a % p ≡ 0 % p → a * b % p ≡ 0 % p
none_left p a b e = sym (mod_mul_mod a b p) ∙ ap (λ (z : ℕ). z * b % p) e ∙ mod_mul_mod 0 b p ∙ ap (λ (z : ℕ). z % p) (zero-mul b)

pub none_right : (p a b : ℕ) → b % p ≡ 0 % p → a * b % p ≡ 0 % p
none_right p a b e = sym (mul_mod_mod a b p) ∙ ap (λ (z : ℕ). a * z % p) e ∙ mul_mod_mod a 0 p ∙ ap (λ (z : ℕ). z % p) (mul-zero a)

-- what is added leaves in the sum what it leaves
pub adding : (p a b z : ℕ) → b % p ≡ z % p → (a + b) % p ≡ (a + z) % p
adding p a b z e = sym (add-mod-mod a b p) ∙ ap (λ (y : ℕ). (a + y) % p) e ∙ add-mod-mod a z p

module _ (p n k : ℕ) (u : ℕ → ℕ → ℕ) (h : ℕ → ℕ) (heads : Heads p n k u h) where
  -- a sum of multiples at row i's head, the factors of all earlier heads leaving 0
  at_head : (f : ℕ → ℕ) (i : ℕ) → i < k → ((e : ℕ) → e < k → h e < h i → f e % p ≡ 0 % p) → Σ k (λ e. f e * u e (h i)) % p ≡ f i % p
  at_head f i l below =
      sum_one_mod k i p (λ e. f e * u e (h i)) l others
      ∙ sym (mul_mod_mod (f i) (u i (h i)) p)
      ∙ ap (λ (z : ℕ). f i * z % p) (heads.one i l)
      ∙ mul_mod_mod (f i) 1 p
      ∙ ap (λ (z : ℕ). z % p) (mul-one (f i))
    where
      others : (e : ℕ) → e < k → (e ≡ i → ⊥) → f e * u e (h i) % p ≡ 0 % p
      others e q other = go (dec_lt (h e) (h i)) (dec_lt (h i) (h e))
        where
          go : Dec (h e < h i) → Dec (h i < h e) → f e * u e (h i) % p ≡ 0 % p
          go (yes s) d = none_left p (f e) (u e (h i)) (below e q s)
          go (no s) (yes g) = none_right p (f e) (u e (h i)) (heads.before e q (h i) g)
          go (no s) (no g) = absurd (other (heads.apart e i q l (omega arith)))

  -- a sum that is 0 before column g: the factors of the rows with heads there are 0
  low : (f : ℕ → ℕ) (g : ℕ) → ((j : ℕ) → j < g → Σ k (λ e. f e * u e j) % p ≡ 0 % p) → (i : ℕ) → i < k → h i < g → f i % p ≡ 0 % p
  low f zero zeros i l b = absurd (not-suc-le-zero b)
  low f (suc g) zeros i l b = sym (at_head f i l (λ d q s. low f g (λ j a. zeros j (omega arith)) d q (omega arith))) ∙ zeros (h i) b

  -- independent: a sum that is 0 in every column has factors that are 0
  pub independent : (f : ℕ → ℕ) → ((j : ℕ) → j < n → Σ k (λ e. f e * u e j) % p ≡ 0 % p) → (i : ℕ) → i < k → f i % p ≡ 0 % p
  independent f zeros i l = low f n zeros i l (heads.within i l)

  -- a row of the span that is 0 before column g, where no row has its head, is 0 there
  pub span_before : {x : ℕ → ℕ} → Span p n k u x → (g : ℕ) → g < n → ((i : ℕ) → i < k → h i ≡ g → ⊥) → ((j : ℕ) → j < g → x j % p ≡ 0 % p) → x g % p ≡ 0 % p
  span_before s g l free zeros =
      s.sums g l
      ∙ sum_same k p (λ e. s.factor e * u e g) (λ e. 0) each
      ∙ ap (λ (z : ℕ). z % p) (sum-zero k (λ e. 0) (λ e b. refl))
    where
      each : (e : ℕ) → e < k → s.factor e * u e g % p ≡ 0 % p
      each e b = go (dec_lt (h e) g) (dec_lt g (h e))
        where
          go : Dec (h e < g) → Dec (g < h e) → s.factor e * u e g % p ≡ 0 % p
          go (yes a) d = none_left p (s.factor e) (u e g) (low s.factor g (λ j q. sym (s.sums j (omega arith)) ∙ zeros j q) e b a)
          go (no a) (yes d) = none_right p (s.factor e) (u e g) (heads.before e b g d)
          go (no a) (no d) = absurd (free e b (omega arith))

-- n rows with distinct heads span everything
module _ (p n : ℕ) (u : ℕ → ℕ → ℕ) (h : ℕ → ℕ) (heads : Heads p n n u h) (pos : 0 < p) (x : ℕ → ℕ) where
  -- a row of the span that agrees with x below c
  record Agrees (c : ℕ) : Type 0 where
    row : ℕ → ℕ
    spanned : Span p n n u row
    agrees : (j : ℕ) → j < c → row j % p ≡ x j % p

  further : (c : ℕ) → c < n → Agrees c → Agrees (suc c)
  further c l a = record {
    row = λ j. a.row j + lack * u i j;
    spanned = span_add a.spanned (span_mul lack (span_row i w.1));
    agrees = λ j b. go j (dec_lt j c) b;
  }
    where
      w : (i : ℕ) × (i < n) × (h i ≡ c)
      w = distinct_all n h (record { same = heads.apart }) heads.within c l

      i : ℕ
      i = w.0

      -- x less the row, at column c
      lack : ℕ
      lack = x c + (p - 1) * a.row c

      here : (a.row c + lack * u i c) % p ≡ x c % p
      here =
          adding p (a.row c) (lack * u i c) lack
          (sym (mul_mod_mod lack (u i c) p) ∙ ap (λ (z : ℕ). lack * z % p) (ap (λ (k : ℕ). u i k % p) (sym w.2) ∙ heads.one i w.1) ∙ mul_mod_mod lack 1 p ∙ ap (λ (z : ℕ). z % p) (mul-one lack))
          ∙ ap (λ (z : ℕ). z % p) (let whole : a.row c + (x c + (p - 1) * a.row c) ≡ x c + p * a.row c = omega (arith, pred_times p (a.row c) pos) in whole)
          ∙ add-mul-mod_self_left (x c) p (a.row c)

      go : (j : ℕ) → Dec (j < c) → j < suc c → (a.row j + lack * u i j) % p ≡ x j % p
      go j (yes b) g =
          adding p (a.row j) (lack * u i j) 0 (none_right p lack (u i j) (heads.before i w.1 j (rw w.2 b)))
          ∙ ap (λ (z : ℕ). z % p) (add-zero (a.row j))
          ∙ a.agrees j b
      go j (no b) g = let e : j ≡ c = omega arith in rw e here

  reach : (c : ℕ) → c ≤ n → Agrees c
  reach zero l = record { row = λ j. 0; spanned = span_zero; agrees = λ j b. absurd (not-suc-le-zero b) }
  reach (suc c) l = further c l (reach c (omega arith))

  pub full : Span p n n u x
  full = let a : Agrees n = reach n (le_refl n) in span_same (λ j b. sym (a.agrees j b)) a.spanned
