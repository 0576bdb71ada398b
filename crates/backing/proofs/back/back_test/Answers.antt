-- `back_test` meets its contract: each `?` hands on the lowest of the tests so far.
-- Assumes nothing.
use mathlib.Core.Path.{sym, ◌∙◌}
use native.Mathlib.Omega.{arith}
use Rattle.sparse.proofs.Firsts.{lowest_stop, lowest_next, lowest_last, handed}
use Rattle.backing.proofs.Passed.{opens, open_refused, open_passed, ranked}
use Rattle.backing.proofs.back.back_test.Goals as goal

pub returns-in_err-open_test : goal.returns-in_err-open_test
returns-in_err-open_test c = rw (handed c.from_residual.ensures.1) (open_refused _ _ _ _ c.open_test.ensures c.in_err-open_test.was)

pub state_test-requires : goal.state_test-requires
state_test-requires c = opens _ _ _ _ (sym c.open_test.ensures ∙ c.in_ok-open_test.was)

pub returns-in_err-state_test : goal.returns-in_err-state_test
returns-in_err-state_test c = rw (handed c.from_residual-in_err-state_test.ensures.1) (open_passed _ _ _ _ (sym c.open_test.ensures ∙ c.in_ok-open_test.was) (lowest_stop _ c.state_test.ensures c.in_err-state_test.was))

pub overflow_sub-entries : goal.overflow_sub-entries
overflow_sub-entries c = omega (arith, ranked _ _ _ (sym c.open_test.ensures ∙ c.in_ok-open_test.was) (sym c.state_test.ensures ∙ c.in_ok-state_test.was))

pub overflow_mul-entries : goal.overflow_mul-entries
overflow_mul-entries c = omega (arith, ranked _ _ _ (sym c.open_test.ensures ∙ c.in_ok-open_test.was) (sym c.state_test.ensures ∙ c.in_ok-state_test.was))

pub overflow_cast-rank : goal.overflow_cast-rank
overflow_cast-rank c = omega (arith, ranked _ _ _ (sym c.open_test.ensures ∙ c.in_ok-open_test.was) (sym c.state_test.ensures ∙ c.in_ok-state_test.was))

pub returns : goal.returns
returns c = open_passed _ _ _ _ (sym c.open_test.ensures ∙ c.in_ok-open_test.was) (lowest_next _ c.state_test.ensures c.in_ok-state_test.was (lowest_last c.room_test.ensures))
