-- `after` meets its contract: the sums stay within the places.
-- Assumes nothing.
use native.Mathlib.Omega.{arith}
use Rattle.stepping.specs.After.{after_walk}
use Rattle.stepping.proofs.Walks.{at_most_one}
use Rattle.stepping.proofs.rows.after.Goals as goal

pub overflow_add-result : goal.overflow_add-result
overflow_add-result c = omega (arith, c.requires.rank, at_most_one _ c.one_if-u_rows.ensures)

pub overflow_add-result-3 : goal.overflow_add-result-3
overflow_add-result-3 c = omega (arith, c.requires.rows, at_most_one _ c.one_if-l_rows.ensures)

pub returns : goal.returns
unfolding after_walk
returns c = rw (c.answer_of.ensures, c.one_if-l_rows.ensures, c.keeps_l.ensures, c.one_if-u_rows.ensures)
