-- `det` meets its contract: refused by its tests, or what the reduction comes to.
-- Assumes nothing.
use mathlib.Core.Path.{sym, ◌∙◌}
use Rattle.determinant.proofs.Dets.{det_anew, det_refused, det_readable, det_valued}
use Rattle.determinant.proofs.calls.det.Goals as goal

pub returns-in-Err : goal.returns-in-Err
returns-in-Err c = det_refused _ _ _ c.det_test-tested.ensures c.in-Err.is

pub take_anew-reduced-requires : goal.take_anew-reduced-requires
take_anew-reduced-requires c = det_anew _ _ _ (sym c.det_test-tested.ensures ∙ c.in_default.is)

pub valued-requires : goal.valued-requires
valued-requires c = det_readable _ _ _ c.det_test-tested.ensures c.in_default.is c.take_anew-reduced.ensures

pub returns : goal.returns
returns c = det_valued _ _ _ c.det_test-tested.ensures c.in_default.is c.take_anew-reduced.ensures c.valued.ensures
