-- `some_astray` meets its contract. The loop's invariant: no entry before `at` is astray.
use Rattle.lists.proofs.Scans.{Clear}
use Rattle.sparse.specs.Rows.{entries}
use Rattle.accounts.specs.Judgement.{astray}
use Rattle.judging.specs.Asks.{upper}
use Rattle.judging.proofs.entries.some_astray.Given as goal

abbrev pub invariant-loop-at : goal.invariant-loop-at
invariant-loop-at l = Clear l.until (astray l.p (upper l.ncols l.u_cols l.u_vals l.u_ptrs) l.earlier (entries l.l_cols l.l_vals)) l.at
