-- A row that is added by value: what is told, and the counts that are kept.
-- Assumes nothing.
use mathlib.Core.Path.{◌≡◌, ap, ◌∙◌}
use mathlib.Core.Bool.{Bool}
use mathlib.Core.List.{List}
use Prim.Native.Nat.{ℕ}
use Rattle.sparse.specs.Lent.{Outcome, outcome}
use Rattle.state.specs.declared.Counts.{Counts}
use Rattle.stepping.specs.Take.{Lists}
use Rattle.adding.specs.AddRow.{add_row, Added}
use Rattle.entering.specs.Enter.{entered_of, enter_row, Entered}

pub enter_returns : (on : Bool) (c : Counts) (cols vals : List ℕ) (o : Lists) {a : Added} {after : Lists} {x : Entered} → outcome a after ≡ add_row on c cols vals o → x ≡ entered_of c a → outcome x after ≡ enter_row on c cols vals o
unfolding enter_row
enter_returns on c cols vals o {after = after} added kept =
    ap (λ (y : Entered). outcome y after) kept ∙ ap (λ (y : Outcome Added Lists). outcome (entered_of c y.answer) y.memory) added
