-- `answer_fault` meets its contract: the next U row, and its head.
-- Assumes nothing.
use native.Mathlib.Omega.{arith}
use borrow.Author.Tests.{le-leb, lt-leb}
use Rattle.state.specs.State.{head_of}
use Rattle.accounts.specs.Judgement.{answer_fault}
use Rattle.judging.proofs.Names.{has_head}
use Rattle.judging.proofs.entries.answer_fault.Goals as goal

pub returns-then-u_ptrs-earlier : goal.returns-then-u_ptrs-earlier
unfolding answer_fault
returns-then-u_ptrs-earlier c = rw (le-leb _ _ c.if-u_ptrs-earlier.true)

pub head_of-requires : goal.head_of-requires
head_of-requires c = has_head c.requires.rows _ (omega (arith, c.if-u_ptrs-earlier.false))

pub returns : goal.returns
unfolding answer_fault head_of
returns c = rw (lt-leb _ _ c.if-u_ptrs-earlier.false, c.head_of.ensures)
