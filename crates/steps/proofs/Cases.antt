-- One column of a walk goes one of four ways.
-- Assumes nothing.
use mathlib.Core.Path.{◌≡◌, sym, subst}
use mathlib.Core.Logic.{⊎_elim}
use mathlib.Core.Bool.{Bool, true, false}
use Prim.Native.Nat.{ℕ}
use native.Mathlib.Decide.{ℕ_discrete}
use Rattle.lists.proofs.Find.{told}
use Rattle.sparse.specs.Pivots.{mark}
use Rattle.walk.specs.Step.{Upper, pivot_at, Way, subtract, accept, stopped, at}
use Rattle.walk.proofs.Ways.{at_zero, at_stopped, at_pivot, at_free}

-- what holds of the way in each case holds after the column
pub record Cases (on : Bool) (p : ℕ) (u : Upper) (c : ℕ) (w : Way) (P : Way → Type 0) : Type 0 where
  pub stays : stopped on w ≡ true → P w
  pub nothing : stopped on w ≡ false → w.rest c ≡ 0 → P w
  pub pivot : stopped on w ≡ false → (w.rest c ≡ 0 → ⊥) → (pivot_at u.pivots c ≡ mark → ⊥) → P (subtract p u c w)
  pub free : stopped on w ≡ false → (w.rest c ≡ 0 → ⊥) → pivot_at u.pivots c ≡ mark → P (accept c w)

pub at_cases : (on : Bool) (p : ℕ) (u : Upper) (c : ℕ) (w : Way) (P : Way → Type 0) → Cases on p u c w P → P (at on p u c w)
at_cases on p u c w P q =
    ⊎_elim
    (λ s. subst P (sym (at_stopped on p u c w s)) (q.stays s))
    (λ s. going s (ℕ_discrete (w.rest c) 0) (ℕ_discrete (pivot_at u.pivots c) mark))
    (told (stopped on w))
  where
    going : stopped on w ≡ false → Dec (w.rest c ≡ 0) → Dec (pivot_at u.pivots c ≡ mark) → P (at on p u c w)
    going s (yes z) d = subst P (sym (at_zero on p u c w z)) (q.nothing s z)
    going s (no z) (no m) = subst P (sym (at_pivot on p u c w s z m)) (q.pivot s z m)
    going s (no z) (yes m) = subst P (sym (at_free on p u c w s z m)) (q.free s z m)
