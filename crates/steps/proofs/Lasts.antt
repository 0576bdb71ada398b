-- One more in place k: it stands there, and those before it stay; so too for the span of rows.
-- Assumes nothing.
use mathlib.Core.Path.{◌≡◌, refl, sym, subst}
use Prim.Native.Nat.{ℕ, suc, ◌<◌}
use native.Mathlib.Decide.{dec_lt}
use native.Mathlib.Omega.{arith}
use borrow.Author.Tests.{eq-eqb, ne_eqb}
use Rattle.linear.proofs.Span.{Span, span_row}
use Rattle.steps.specs.Setting.{with_last}

-- what holds of place k and of those before it
pub up_to : (P : ℕ → Type 0) (k : ℕ) → P k → ((i : ℕ) → i < k → P i) → (i : ℕ) → i < suc k → P i
up_to P k here before i h = go (dec_lt i k)
  where
    go : Dec (i < k) → P i
    go (yes l) = before i l
    go (no l) = let e : k ≡ i = omega arith in subst P e here

module _ {ℓ} {A : Type ℓ} (k : ℕ) (a : A) (f : ℕ → A) where
  pub last_there : with_last k a f k ≡ a
  unfolding with_last
  last_there = rw (eq-eqb k k refl)

  pub last_before : (i : ℕ) → i < k → with_last k a f i ≡ f i
  unfolding with_last
  last_before i h = rw (ne_eqb i k (λ e. omega arith))

  -- what holds there and of those before it holds of all
  pub last_all : (P : ℕ → A → Type 0) → P k a → ((i : ℕ) → i < k → P i (f i)) → (i : ℕ) → i < suc k → P i (with_last k a f i)
  last_all P there before = up_to (λ i. P i (with_last k a f i)) k (subst (P k) (sym last_there) there) (λ i l. subst (P i) (sym (last_before i l)) (before i l))

-- rows q with one row x more: their span has x, and the rows q
module _ {p n k : ℕ} (x : ℕ → ℕ) (q : ℕ → ℕ → ℕ) where
  pub spans_last : Span p n (suc k) (with_last k x q) x
  spans_last = subst (Span p n (suc k) (with_last k x q)) (last_there k x q) (span_row k (omega arith))

  pub spans_before : (i : ℕ) → i < k → Span p n (suc k) (with_last k x q) (q i)
  spans_before i l = subst (Span p n (suc k) (with_last k x q)) (last_before k x q i l) (span_row i (omega arith))
