-- For each public call: two outcomes that meet its promise are equal.
-- Assumes nothing.
use mathlib.Core.Path.{◌≡◌}
use mathlib.Core.Bool.{true, false}
use mathlib.Core.List.{List}
use Prim.Native.Nat.{ℕ}
use Rattle.lists.proofs.Only.{only}
use Rattle.sparse.specs.Lent.{Outcome}
use Rattle.state.specs.declared.Counts.{Counts}
use Rattle.stepping.specs.Take.{Lists}
use Rattle.adding.specs.AddRow.{add_row, Added}

pub add_row_only : (c : Counts) (cols vals : List ℕ) (o : Lists) {s t : Outcome Added Lists} → s ≡ add_row false c cols vals o → t ≡ add_row false c cols vals o → s ≡ t
add_row_only c cols vals o = only

pub add_row_with_back_subs_only : (c : Counts) (cols vals : List ℕ) (o : Lists) {s t : Outcome Added Lists} → s ≡ add_row true c cols vals o → t ≡ add_row true c cols vals o → s ≡ t
add_row_with_back_subs_only c cols vals o = only
