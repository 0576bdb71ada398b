-- At each column of a walk the row is L's row so far times U, and what is left, modulo p.
-- Assumes nothing.
use Rattle.std.specs.Prelude.{None}
use mathlib.Core.Path.{◌≡◌, sym, ap, ◌∙◌}
use mathlib.Core.Bool.{Bool}
use mathlib.Core.List.{[]}
use Prim.Native.Nat.{ℕ, zero, suc, ◌+◌, ◌-◌, ◌*◌, ◌%◌, ◌≤◌, ◌<◌}
use native.Mathlib.Nat.{mod-lt, mod-eq_of_lt, add-mod-mod, add-mul, zero-add, add-mul-mod_self_left}
use native.Mathlib.Omega.{arith}
use Rattle.lists.specs.Sum.{Σ}
use Rattle.sparse.specs.Rows.{entry}
use Rattle.walk.specs.Step.{Upper, pivot_at, Way, way, subtract, accept, climb}
use Rattle.steps.specs.Rows.{times}
use Rattle.steps.proofs.Cases.{Cases, at_cases}
use Rattle.steps.proofs.Entries.{times_more}

-- a way on which the row x is L's row times U, and a rest of residues
pub record Summed (p n : ℕ) (u : Upper) (x : ℕ → ℕ) (w : Way) : Type 0 where
  pub small : (j : ℕ) → j < n → w.rest j < p
  pub total : (j : ℕ) → j < n → (times w.l u.value j + w.rest j) % p ≡ x j

-- a multiple moves from the rest to L
moves : (p t m r v : ℕ) → m ≤ p → (t + m * v + (r + (p - m) * v) % p) % p ≡ (t + r) % p
moves p t m r v h =
    let whole : m + (p - m) ≡ p = omega arith in
    let times_p : m * v + (p - m) * v ≡ p * v = sym (add-mul m (p - m) v) ∙ ap (λ (z : ℕ). z * v) whole in
    let sum : t + m * v + (r + (p - m) * v) ≡ t + r + p * v = omega arith in
    add-mod-mod (t + m * v) (r + (p - m) * v) p ∙ ap (λ (z : ℕ). z % p) sum ∙ add-mul-mod_self_left (t + r) p v

module _ (on : Bool) (p n : ℕ) (u : Upper) (x : ℕ → ℕ) (small : (j : ℕ) → j < n → x j < p) where
  summed_next : (c : ℕ) → c < n → (w : Way) → Summed p n u x w → Cases on p u c w (Summed p n u x)
  unfolding subtract accept
  summed_next c l w s = record {
    stays = λ e. s;
    nothing = λ e z. s;
    pivot = λ e z m. record {
      small = λ j b. mod-lt (w.rest j + (p - w.rest c) * u.value (pivot_at u.pivots c) j) (omega (arith, s.small c l));
      total = λ j b.
          ap (λ (z : ℕ). (z + (w.rest j + (p - w.rest c) * u.value (pivot_at u.pivots c) j) % p) % p) (times_more w.l (entry (pivot_at u.pivots c) (w.rest c)) u.value j)
          ∙ moves p (times w.l u.value j) (w.rest c) (w.rest j) (u.value (pivot_at u.pivots c) j) (omega (arith, s.small c l))
          ∙ s.total j b;
    };
    free = λ e z m. record { small = s.small; total = s.total };
  }

  -- at every column
  pub walk_sums : (c : ℕ) → c ≤ n → Summed p n u x (climb on p u c (way x [] None))
  unfolding climb times Σ
  walk_sums zero h = record { small = small; total = λ j l. ap (λ (z : ℕ). z % p) (zero-add (x j)) ∙ mod-eq_of_lt (small j l) }
  walk_sums (suc c) h = at_cases on p u c (climb on p u c (way x [] None)) (Summed p n u x) (summed_next c h (climb on p u c (way x [] None)) (walk_sums c (omega arith)))
