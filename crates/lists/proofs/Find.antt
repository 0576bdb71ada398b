-- Looking through the numbers below n: what `any` and `least` tell of the test, and what the test tells of them.
-- Assumes nothing.
use mathlib.Core.Path.{◌≡◌, refl, sym, ap, ◌∙◌}
use mathlib.Core.Logic.{◌⊎◌, inl, inr, ⊎_elim}
use mathlib.Core.Bool.{Bool, true, false, or-true, true≢false}
use Prim.Native.Nat.{ℕ, zero, suc, ◌≤◌, ◌<◌, zero-le, suc-le-suc}
use native.Mathlib.Decide.{dec_lt, ℕ_discrete}
use native.Mathlib.Omega.{arith}
use Rattle.lists.specs.Find.{any, least}

-- a test is true or false
pub told : (b : Bool) → (b ≡ true) ⊎ (b ≡ false)
told true = inl refl
told false = inr refl

-- a test that cannot be true is false
pub not_told : (b : Bool) → (b ≡ true → ⊥) → b ≡ false
not_told b no_way = ⊎_elim (λ q. absurd (no_way q)) (λ q. q) (told b)

-- one number that passes is enough
pub any_true : (n : ℕ) (f : ℕ → Bool) {i : ℕ} → i < n → f i ≡ true → any n f ≡ true
unfolding any
any_true zero f h e = absurd (omega arith)
any_true (suc n) f {i} h e =
    elim (ℕ_discrete i n) [
      | yes q ↦ rw (sym (ap f q) ∙ e) (or-true (any n f))
      | no q ↦ rw (any_true n f {i = i} (omega arith) e) refl
    ]

-- where none passes
pub any_none : (n : ℕ) (f : ℕ → Bool) → ((i : ℕ) → i < n → f i ≡ false) → any n f ≡ false
unfolding any
any_none zero f h = refl
any_none (suc n) f h = rw (any_none n f (λ i l. h i (omega arith))) (h n (omega arith))

-- and the other way
pub any_false : (n : ℕ) (f : ℕ → Bool) → any n f ≡ false → (i : ℕ) → i < n → f i ≡ false
any_false n f e i h = not_told (f i) (λ q. true≢false (sym (any_true n f h q) ∙ e))

-- some number passes
pub any_some : (n : ℕ) (f : ℕ → Bool) → any n f ≡ true → (i : ℕ) × (i < n) × (f i ≡ true)
unfolding any
any_some zero f e = absurd (true≢false (sym e))
any_some (suc n) f e =
    ⊎_elim
    (λ q. let s : (i : ℕ) × (i < n) × (f i ≡ true) = any_some n f q in (s.0, omega arith, s.2))
    (λ q. (n, omega arith, rw q at e))
    (told (any n f))

-- where i passes, the least number that passes is at most i, and passes
pub least_found : (n : ℕ) (f : ℕ → Bool) (i : ℕ) → i < n → f i ≡ true → (least n f ≤ i) × (f (least n f) ≡ true)
unfolding least
least_found zero f i h e = absurd (omega arith)
least_found (suc n) f zero h e = rw e (zero-le, e)
least_found (suc n) f (suc i) h e =
    ⊎_elim
    (λ q. rw q (zero-le, q))
    (λ q. let s = least_found n (λ j. f (suc j)) i (omega arith) e in rw q (suc-le-suc s.0, s.1))
    (told (f zero))

-- the only number that passes is the least
pub least_only : (n : ℕ) (f : ℕ → Bool) (i : ℕ) → i < n → f i ≡ true → ((j : ℕ) → j < n → f j ≡ true → j ≡ i) → least n f ≡ i
least_only n f i h e only =
    let s = least_found n f i h e in only (least n f) (omega arith) s.1

-- i passes, and none before it
pub least_first : (n : ℕ) (f : ℕ → Bool) (i : ℕ) → i < n → f i ≡ true → ((j : ℕ) → j < i → f j ≡ false) → least n f ≡ i
least_first n f i h e before = go (dec_lt (least n f) i)
  where
    s : (least n f ≤ i) × (f (least n f) ≡ true)
    s = least_found n f i h e

    go : Dec (least n f < i) → least n f ≡ i
    go (yes l) = absurd (true≢false (sym s.1 ∙ before (least n f) l))
    go (no l) = omega (arith, s.0)

-- none passes
pub least_none : (n : ℕ) (f : ℕ → Bool) → ((j : ℕ) → j < n → f j ≡ false) → least n f ≡ n
unfolding least
least_none zero f none = refl
least_none (suc n) f none = rw (none 0 (omega arith)) (ap suc (least_none n (λ j. f (suc j)) (λ j l. none (suc j) (omega arith))))

-- the least number that passes: at most n; none before it passes; it passes itself, unless it is n
pub least_within : (n : ℕ) (f : ℕ → Bool) → least n f ≤ n
unfolding least
least_within zero f = omega arith
least_within (suc n) f = ⊎_elim (λ q. rw q zero-le) (λ q. rw q (suc-le-suc (least_within n (λ i. f (suc i))))) (told (f 0))

pub least_before : (n : ℕ) (f : ℕ → Bool) (j : ℕ) → j < least n f → f j ≡ false
least_before n f j h = not_told (f j) (λ e. let s = least_found n f j (omega (arith, least_within n f)) e in omega (arith, s.0))

pub least_at : (n : ℕ) (f : ℕ → Bool) → least n f < n → f (least n f) ≡ true
least_at n f h = ⊎_elim (λ q. q) (λ q. absurd (omega (arith, passes q))) (told (f (least n f)))
  where
    passes : f (least n f) ≡ false → least n f ≡ n
    passes q = least_none n f (λ j l. not_told (f j) (λ e. let s = least_found n f j l e in true≢false (sym s.1 ∙ q)))
