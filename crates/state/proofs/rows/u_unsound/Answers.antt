-- `u_unsound` meets its contract: each `return` goes by the parts of the test before it.
-- Assumes nothing.
use mathlib.Core.Path.{sym, ◌∙◌}
use lib.Seq.{length-take-le}
use Rattle.state.specs.State.{u_lost, u_rows}
use Rattle.state.proofs.Faults.{lost_none, fault_high, held_sized}
use Rattle.state.proofs.rows.u_unsound.Goals as goal

pub returns-then-u_lost : goal.returns-then-u_lost
unfolding u_lost u_rows
returns-then-u_lost c = rw (sym c.u_lost.ensures ∙ c.if-u_lost.true)

pub returns-then-rank : goal.returns-then-rank
unfolding u_rows
returns-then-rank c = rw (sym c.u_lost.ensures ∙ c.if-u_lost.false) (sym (fault_high _ _ _ c.requires.modulus c.if-rank.true))

pub slice_bounds-cols-end : goal.slice_bounds-cols-end
slice_bounds-cols-end c = sym (length-take-le _ _ (lost_none _ _ _ _ _ (sym c.u_lost.ensures ∙ c.if-u_lost.false)).columns)

pub slice_bounds-vals-end : goal.slice_bounds-vals-end
slice_bounds-vals-end c = sym (length-take-le _ _ (lost_none _ _ _ _ _ (sym c.u_lost.ensures ∙ c.if-u_lost.false)).numbers)

pub slice_bounds-u_fault-end : goal.slice_bounds-u_fault-end
slice_bounds-u_fault-end c = sym (length-take-le _ _ (lost_none _ _ _ _ _ (sym c.u_lost.ensures ∙ c.if-u_lost.false)).pointers)

pub u_fault-requires : goal.u_fault-requires
unfolding u_rows
u_fault-requires c = held_sized c.requires (lost_none _ _ _ _ _ (sym c.u_lost.ensures ∙ c.if-u_lost.false)) c.if-rank.false

pub returns : goal.returns
unfolding u_rows
returns c = rw (sym c.u_lost.ensures ∙ c.if-u_lost.false) c.u_fault.ensures
