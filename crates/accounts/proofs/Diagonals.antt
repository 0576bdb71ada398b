-- A row that is a row s and a multiple, not 0, of a row y: y is in each span that has both. A row with a head of its own is in no span of those before it.
-- Assumes nothing.
use mathlib.Core.Path.{◌≡◌, sym, ap, ◌∙◌}
use Prim.Native.Nat.{ℕ, ◌+◌, ◌*◌, ◌%◌, ◌<◌}
use native.Mathlib.Nat.{add_comm, mod-eq_of_lt, zero-mod}
use native.Mathlib.Omega.{arith}
use Rattle.field.specs.Inverse.{inverse}
use Rattle.field.specs.Prime.{Prime}
use Rattle.field.proofs.Inverses.{undo, inverse_undoes, prime_invertible}
use Rattle.lists.proofs.Mods.{mul_mod_mod}
use Rattle.linear.proofs.Heads.{Heads, span_before}
use Rattle.linear.proofs.Span.{Span, span_same, span_mul, span_rest}
use Rattle.steps.specs.Rows.{Storable}

-- x is s and v times y
module _ {p n : ℕ} (prime : Prime p) {x s y : ℕ → ℕ} {v : ℕ} (stored : Storable p v) (sums : (j : ℕ) → j < n → x j % p ≡ (s j + v * y j) % p) where
  pub diagonal_span : {m : ℕ} {r : ℕ → ℕ → ℕ} → Span p n m r s → Span p n m r x → Span p n m r y
  diagonal_span t z =
      span_same (λ j l. sym (undo (y j) (inverse_undoes (prime_invertible prime stored.pos stored.below))) ∙ mul_mod_mod (inverse p v) (v * y j) p)
      (span_mul (inverse p v) (span_rest (omega (arith, prime.least)) t (span_same (λ j l. ap (λ (a : ℕ). a % p) (add_comm (v * y j) (s j)) ∙ sym (sums j l)) z)))

-- fewer rows with distinct heads
pub heads_first : {p n k m : ℕ} {u : ℕ → ℕ → ℕ} {h : ℕ → ℕ} → ((i : ℕ) → i < k → i < m) → Heads p n m u h → Heads p n k u h
heads_first low heads = record {
  within = λ i l. heads.within i (low i l);
  one = λ i l. heads.one i (low i l);
  before = λ i l. heads.before i (low i l);
  apart = λ i e l q. heads.apart i e (low i l) (low e q);
}

-- a row with a head isn't in the span of those before it
pub head_apart : {p n k m : ℕ} {u : ℕ → ℕ → ℕ} {h : ℕ → ℕ} → Prime p → Heads p n m u h → k < m → Span p n k u (u k) → ⊥
head_apart {p} {n} {k} {m} {u} {h} prime heads l s =
    let one : 1 < p = omega (arith, prime.least) in
    let zero_there : u k (h k) % p ≡ 0 % p = span_before p n k u h (heads_first (λ i b. omega arith) heads) s (h k) (heads.within k l) (λ i b e. omega (arith, heads.apart i k (omega arith) l e)) (heads.before k l) in
    let same : ◌≡◌ {A = ℕ} 1 0 = sym (mod-eq_of_lt one) ∙ sym (heads.one k l) ∙ zero_there ∙ zero-mod p in
    omega (arith, same)
