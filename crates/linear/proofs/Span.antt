-- Combinations with factors of any size: closed under sums, multiples and composition, and the same as combinations.
-- Assumes nothing.
use mathlib.Core.Path.{◌≡◌, refl, sym, ap, ◌∙◌}
use mathlib.Core.Bool.{cond}
use Prim.Native.Nat.{ℕ, zero, suc, ◌+◌, ◌-◌, ◌*◌, ◌%◌, ◌<◌}
use native.Mathlib.Nat.{mod-lt, mod-eq_of_lt, mod-mod, mod-add-mod, add-mod-mod, zero-mul, one-mul, mul_assoc, add-mul, add-mul-mod_self_left, add_comm, suc-mul}
use native.Mathlib.Omega.{arith}
use lib.Dec.{eqb}
use borrow.Author.Tests.{eq-eqb, ne_eqb}
use Rattle.lists.specs.Sum.{Σ}
use Rattle.lists.proofs.Mods.{mod_mul_mod, mul_mod_mod}
use Rattle.lists.proofs.Sums.{sum-ext, sum-zero, sum-add, sum-mul, sum_one, sum_same}
use Rattle.linear.specs.Combination.{Combination}

-- x is, modulo p, a sum of multiples of the k rows r
pub record Span (p n k : ℕ) (r : ℕ → ℕ → ℕ) (x : ℕ → ℕ) : Type 0 where
  pub factor : ℕ → ℕ
  pub sums : (j : ℕ) → j < n → x j % p ≡ Σ k (λ i. factor i * r i j) % p

module _ {p n k : ℕ} {r : ℕ → ℕ → ℕ} where
  -- the two notions agree for rows of residues
  pub combination_span : {x : ℕ → ℕ} → Combination p n k r x → Span p n k r x
  combination_span {x} c = record { factor = c.factor; sums = λ j h. ap (λ (z : ℕ). z % p) (c.sums j h) ∙ mod-mod (Σ k (λ i. c.factor i * r i j)) p }

  pub span_combination : {x : ℕ → ℕ} → 0 < p → ((j : ℕ) → j < n → x j < p) → Span p n k r x → Combination p n k r x
  span_combination {x} pos small s = record {
    factor = λ i. s.factor i % p;
    small = λ i h. mod-lt (s.factor i) pos;
    sums = λ j h.
        sym (mod-eq_of_lt (small j h))
        ∙ s.sums j h
        ∙ sum_same k p (λ i. s.factor i * r i j) (λ i. s.factor i % p * r i j) (λ i l. sym (mod_mul_mod (s.factor i) (r i j) p));
  }

  -- rows that agree modulo p
  pub span_same : {x y : ℕ → ℕ} → ((j : ℕ) → j < n → y j % p ≡ x j % p) → Span p n k r x → Span p n k r y
  span_same h s = record { factor = s.factor; sums = λ j l. h j l ∙ s.sums j l }

  -- the empty row
  pub span_zero : Span p n k r (λ j. 0)
  span_zero = record { factor = λ i. 0; sums = λ j h. ap (λ (z : ℕ). z % p) (sym (sum-zero k (λ i. 0 * r i j) (λ i l. zero-mul (r i j)))) }

  -- one of the rows
  pub span_row : (i : ℕ) → i < k → Span p n k r (r i)
  span_row i h = record { factor = λ e. cond (eqb e i) 1 0; sums = λ j l. ap (λ (z : ℕ). z % p) (sym (single j)) }
    where
      single : (j : ℕ) → Σ k (λ e. cond (eqb e i) 1 0 * r e j) ≡ r i j
      single j =
          sum_one k i (λ e. cond (eqb e i) 1 0 * r e j) h (λ e l other. rw (ne_eqb e i other) (zero-mul (r e j)))
          ∙ rw (eq-eqb i i refl) (one-mul (r i j))

  -- sums
  pub span_add : {x y : ℕ → ℕ} → Span p n k r x → Span p n k r y → Span p n k r (λ j. x j + y j)
  span_add {x} {y} s t = record {
    factor = λ i. s.factor i + t.factor i;
    sums = λ j h.
        sym (mod-add-mod (x j) p (y j))
        ∙ ap (λ (z : ℕ). (z + y j) % p) (s.sums j h)
        ∙ mod-add-mod (Σ k (λ i. s.factor i * r i j)) p (y j)
        ∙ sym (add-mod-mod (Σ k (λ i. s.factor i * r i j)) (y j) p)
        ∙ ap (λ (z : ℕ). (Σ k (λ i. s.factor i * r i j) + z) % p) (t.sums j h)
        ∙ add-mod-mod (Σ k (λ i. s.factor i * r i j)) (Σ k (λ i. t.factor i * r i j)) p
        ∙ ap (λ (z : ℕ). z % p) (sym (sum-add k (λ i. s.factor i * r i j) (λ i. t.factor i * r i j)) ∙ sum-ext k _ _ (λ i l. sym (add-mul (s.factor i) (t.factor i) (r i j))));
  }

  -- multiples
  pub span_mul : (c : ℕ) {x : ℕ → ℕ} → Span p n k r x → Span p n k r (λ j. c * x j)
  span_mul c {x} s = record {
    factor = λ i. c * s.factor i;
    sums = λ j h.
        sym (mul_mod_mod c (x j) p)
        ∙ ap (λ (z : ℕ). c * z % p) (s.sums j h)
        ∙ mul_mod_mod c (Σ k (λ i. s.factor i * r i j)) p
        ∙ ap (λ (z : ℕ). z % p) (sym (sum-mul k c (λ i. s.factor i * r i j)) ∙ sum-ext k _ _ (λ i l. sym (mul_assoc c (s.factor i) (r i j))));
  }

-- a sum of multiples of rows of the span
pub span_sum : {p n m : ℕ} {q : ℕ → ℕ → ℕ} (k : ℕ) (r : ℕ → ℕ → ℕ) (f : ℕ → ℕ) → ((i : ℕ) → i < k → Span p n m q (r i)) → Span p n m q (λ j. Σ k (λ i. f i * r i j))
unfolding Σ
span_sum zero r f each = span_zero
span_sum (suc k) r f each = span_add (span_sum k r f (λ i h. each i (omega arith))) (span_mul (f k) (each k (omega arith)))

-- combinations of combinations
pub span_trans : {p n m k : ℕ} {q r : ℕ → ℕ → ℕ} {x : ℕ → ℕ} → ((i : ℕ) → i < k → Span p n m q (r i)) → Span p n k r x → Span p n m q x
span_trans {k = k} {r = r} each s = span_same s.sums (span_sum k r s.factor each)

-- of more rows
pub span_more : {p n k : ℕ} {r : ℕ → ℕ → ℕ} {x : ℕ → ℕ} → Span p n k r x → Span p n (suc k) r x
span_more s = span_trans (λ i h. span_row i (omega arith)) s

pub pred_times : (p y : ℕ) → 0 < p → y + (p - 1) * y ≡ p * y
pred_times zero y h = absurd (omega arith)
pred_times (suc q) y h =
    let one_less : suc q - 1 ≡ q = omega arith in
    ap (λ (z : ℕ). y + z * y) one_less ∙ add_comm y (q * y) ∙ sym (suc-mul q y)

-- what is left when a row of the span is taken away: -y is (p - 1) * y
pub span_rest : {p n k : ℕ} {r : ℕ → ℕ → ℕ} {x y : ℕ → ℕ} → 0 < p → Span p n k r y → Span p n k r (λ j. x j + y j) → Span p n k r x
span_rest {p} {x = x} {y = y} pos s t = span_same (λ j h. back j) (span_add t (span_mul (p - 1) s))
  where
    back : (j : ℕ) → x j % p ≡ (x j + y j + (p - 1) * y j) % p
    back j =
        let whole : x j + y j + (p - 1) * y j ≡ x j + p * y j = omega (arith, pred_times p (y j) pos) in
        sym (add-mul-mod_self_left (x j) p (y j)) ∙ ap (λ (z : ℕ). z % p) (sym whole)
