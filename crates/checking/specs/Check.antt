-- The account check: refused, or yes or no, dense memory being zero in the column range afterwards.
use Rattle.std.specs.Prelude.{Bool, List, ℕ, Err, Ok, Result}
use Rattle.sparse.specs.Lent.{Outcome, outcome, unless}
use Rattle.steps.specs.History.{at_once}
use Rattle.stepping.specs.Take.{cleared}
use Rattle.accounts.specs.Account.{Account, Rule, is_account}
use Rattle.accounts.specs.Tests.{account_test}
use Rattle.sparse.specs.declared.Refusal.{Refusal}

-- the check's yes or no, or why there is none
abbrev pub Verdict : Type 0
Verdict = Result Bool Refusal

-- by a rule for rows without an L row
unfoldable pub judged : Rule → Account → List ℕ → Outcome Verdict (List ℕ)
judged rule a dense = unless Err (account_test dense a) dense (outcome (Ok (is_account rule a)) (cleared a.rows.ncols dense))

-- `check_account`: no L row where step 1 applies
unfoldable pub check_account : Account → List ℕ → Outcome Verdict (List ℕ)
check_account a dense = judged at_once a dense
