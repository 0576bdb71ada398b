-- `check_account` meets its contract: refused by its tests, or judged.
-- Assumes nothing.
use mathlib.Core.Path.{sym, ◌∙◌}
use Rattle.sparse.proofs.Firsts.{handed}
use Rattle.checking.proofs.Verdicts.{check_refused, check_judged}
use Rattle.checking.proofs.calls.check_account.Goals as goal

pub returns-in_err-account_test : goal.returns-in_err-account_test
returns-in_err-account_test c = rw (handed c.from_residual.ensures.1) (check_refused _ _ c.account_test.ensures c.in_err-account_test.was)

pub account_fault-fault-requires : goal.account_fault-fault-requires
account_fault-fault-requires c = sym c.account_test.ensures ∙ c.in_ok-account_test.was

pub returns : goal.returns
returns c = check_judged _ _ c.account_test.ensures c.in_ok-account_test.was c.account_fault-fault.ensures
