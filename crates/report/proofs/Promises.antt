-- For the public call: two outcomes that meet its promise are equal.
-- Assumes nothing.
use mathlib.Core.Path.{◌≡◌}
use mathlib.Core.List.{List}
use Prim.Native.Nat.{ℕ}
use Rattle.text.specs.Mma.{Printed}
use Rattle.lists.proofs.Only.{only}
use Rattle.sparse.specs.Lent.{Outcome}
use Rattle.report.specs.Report.{report}
use Rattle.report.specs.Work.{Work}

pub report_only : (text : List ℕ) (w : Work) {s t : Outcome Printed Work} → s ≡ report text w → t ≡ report text w → s ≡ t
report_only text w = only
