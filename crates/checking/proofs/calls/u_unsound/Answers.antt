-- `u_unsound` meets its contract: the state's test, of a reducer without L.
-- Assumes nothing.
use native.Mathlib.Omega.{arith}
use Rattle.checking.proofs.Slices.{whole_fault}
use Rattle.checking.proofs.calls.u_unsound.Goals as goal

pub overflow_sub-counts : goal.overflow_sub-counts
overflow_sub-counts c = omega (arith, c.requires.pointers)

pub state_test-state-requires : goal.state_test-state-requires
state_test-state-requires c = c.requires.opened

pub returns : goal.returns
returns c = whole_fault c.requires c.state_test-state.ensures c.is_err.ensures.value
