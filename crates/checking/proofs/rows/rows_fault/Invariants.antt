-- `rows_fault` meets its contract. The loop's invariant: the first i rows aren't wrong, so many were accepted, and so many L rows are used.
use Rattle.sparse.specs.Matrix.{seen}
use Rattle.state.specs.Memory.{memory}
use Rattle.accounts.specs.Account.{account}
use Rattle.checking.proofs.Turns.{Turn}
use Rattle.checking.proofs.rows.rows_fault.Given as goal

abbrev pub invariant-loop-i : goal.invariant-loop-i
invariant-loop-i l = Turn (account l.p (seen l.matrix) l.answers (memory l.u_cols l.u_vals l.u_ptrs l.l_cols l.l_vals l.l_ptrs l.pivots)) l.initial.dense l.i l.accepted l.used l.dense
