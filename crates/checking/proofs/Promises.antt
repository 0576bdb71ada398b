-- The public call: two outcomes that meet its promise are equal.
-- Assumes nothing.
use mathlib.Core.Path.{◌≡◌}
use mathlib.Core.List.{List}
use Prim.Native.Nat.{ℕ}
use Rattle.lists.proofs.Only.{only}
use Rattle.sparse.specs.Lent.{Outcome}
use Rattle.accounts.specs.Account.{Account}
use Rattle.checking.specs.Check.{check_account, Verdict}

pub check_account_only : (a : Account) (dense : List ℕ) {s t : Outcome Verdict (List ℕ)} → s ≡ check_account a dense → t ≡ check_account a dense → s ≡ t
check_account_only a dense = only
