-- The two reductions, one after the other.
-- Assumes nothing.
use Rattle.std.specs.Prelude.{None}
use mathlib.Core.Path.{◌≡◌, ap, ◌∙◌}
use mathlib.Core.Bool.{false}
use mathlib.Core.List.{List}
use Prim.Native.Nat.{ℕ}
use borrow.Author.Tests.{eq-eqb, ne_eqb}
use Rattle.sparse.specs.Lent.{Outcome, outcome}
use Rattle.sparse.specs.Matrix.{Matrix}
use Rattle.state.specs.Memory.{Memory}
use Rattle.state.specs.declared.Counts.{Counts}
use Rattle.state.specs.declared.Mode.TheVariants.{None}
use Rattle.stepping.specs.Take.{Lists, lists}
use Rattle.telling.specs.declared.Reduced.{Reduced}
use Rattle.running.specs.Rows.{Night, night}
use Rattle.anew.specs.Calls.{from_matrix}
use Rattle.determinant.specs.Det.{det}
use Rattle.determinant.specs.declared.Determined.{Determined}
use Rattle.solving.specs.Solve.{worth_of, worth, counts_after, afresh, solved_of, solve, Worth}

module _ (p : ℕ) (a : Matrix) (o : Lists) where
  pub worth_unasked : (a.nrows ≡ a.ncols → ⊥) → outcome None o ≡ worth p a o
  unfolding worth
  worth_unasked e = rw (ne_eqb _ _ e, worth)

  pub worth_asked : a.nrows ≡ a.ncols → {d : Determined} {x : Lists} {r : Worth} → outcome d x ≡ det p a o → r ≡ worth_of d → outcome r x ≡ worth p a o
  unfolding worth
  worth_asked e {d} {x} told said = rw (eq-eqb _ _ e, worth) (ap (λ (r : Worth). outcome r x) said ∙ ap (λ (y : Outcome Determined Lists). outcome (worth_of y.answer) y.memory) told)

module _ (p : ℕ) (a : Matrix) (w : Night) where
  pub solve_told :
      {d : Worth} {m : Memory} {dense : List ℕ} {x : Reduced} {v : Night} {c : Counts}
      → outcome d (lists m dense) ≡ worth p a (lists w.memory w.dense)
      → outcome x v ≡ from_matrix false false p None a (night m w.answers dense)
      → c ≡ counts_after p a.ncols x
      → outcome (solved_of d c) v ≡ solve p a w
  unfolding solve afresh
  solve_told {d} {m} {dense} {x} {v} {c} first second third =
      ap (λ (y : Counts). outcome (solved_of d y) v) third
      ∙ ap (λ (y : Outcome Reduced Night). outcome (solved_of d (counts_after p a.ncols y.answer)) y.memory) second
      ∙ ap (λ (y : Outcome Worth Lists). outcome (solved_of y.answer (counts_after p a.ncols (afresh p a w y).answer)) (afresh p a w y).memory) first
