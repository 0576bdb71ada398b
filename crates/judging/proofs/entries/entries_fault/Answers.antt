-- `entries_fault` meets its contract, by the answer.
-- Assumes nothing.
use mathlib.Core.Path.{sym, ◌∙◌}
use native.Mathlib.Nat.{le_refl}
use Rattle.telling.specs.Answers.{none}
use Rattle.judging.proofs.Names.{entries_none, entries_led}
use Rattle.judging.proofs.entries.entries_fault.Goals as goal

pub some_astray-requires : goal.some_astray-requires
some_astray-requires c = record { all = c.requires; within = le_refl _ }

pub returns-then-answer-eq-NONE : goal.returns-then-answer-eq-NONE
unfolding none
returns-then-answer-eq-NONE c = entries_none c.requires _ _ c.if-answer-eq-NONE.true c.some_astray.ensures

pub answer_fault-requires : goal.answer_fault-requires
answer_fault-requires c = c.requires.upper

pub returns-then-answer_fault : goal.returns-then-answer_fault
unfolding none
returns-then-answer_fault c = entries_led c.requires _ _ c.if-answer-eq-NONE.false (rw (sym c.answer_fault.ensures ∙ c.if-answer_fault.true))

pub returns : goal.returns
unfolding none
returns c = entries_led c.requires _ _ c.if-answer-eq-NONE.false (rw (sym c.answer_fault.ensures ∙ c.if-answer_fault.false) c.diagonal_fault.ensures)
