-- `account_fault` meets its contract: the front of dense memory is cleared and lent.
-- Assumes nothing.
use mathlib.Core.Path.{sym}
use native.Mathlib.Omega.{arith}
use lib.Seq.{length-take-le}
use Rattle.checking.proofs.Verdicts.{apt, u_wrong, u_checks, u_right}
use Rattle.checking.proofs.calls.account_fault.Goals as goal

pub slice_bounds-front-end : goal.slice_bounds-front-end
slice_bounds-front-end c = omega (arith, (apt _ _ c.requires).long)

pub slice_bounds-front-end-2 : goal.slice_bounds-front-end-2
slice_bounds-front-end-2 c = sym (length-take-le _ _ (apt _ _ c.requires).long)

pub u_unsound-requires : goal.u_unsound-requires
u_unsound-requires c = (apt _ _ c.requires).whole

pub returns-then-u_unsound : goal.returns-then-u_unsound
returns-then-u_unsound c = u_wrong _ _ c.requires c.wipe.ensures c.u_unsound.ensures c.if-u_unsound.true

pub rows_fault-requires : goal.rows_fault-requires
rows_fault-requires c = u_checks _ _ c.requires c.wipe.ensures c.u_unsound.ensures c.if-u_unsound.false

pub returns : goal.returns
returns c = u_right _ _ c.requires c.wipe.ensures c.u_unsound.ensures c.if-u_unsound.false c.rows_fault.ensures
