-- Our own reduction's account: the rows it took, their answers, the filled parts of U and L, and the pivot table.
use Rattle.std.specs.Prelude.{ℕ, ◌+◌, List, take}
use Rattle.sparse.specs.Rows.{compressed}
use Rattle.state.specs.Memory.{Memory, memory}
use Rattle.state.specs.declared.Counts.{Counts}
use Rattle.steps.specs.History.{Told}
use Rattle.accounts.specs.Account.{Account, account}
use Rattle.strides.specs.Strides.{rows_of_told, numbers_of}

-- the filled parts of U and L, and the pivot table
abbrev pub filled : Counts → Memory → Memory
filled c m =
    memory (take c.u_fill m.u_cols) (take c.u_fill m.u_vals) (take (c.rank + 1) m.u_ptrs)
    (take c.l_fill m.l_cols) (take c.l_fill m.l_vals) (take (c.l_rows + 1) m.l_ptrs)
    m.pivots

-- the account after the rows ts, by the counts and lists after them
unfoldable pub account_of : ℕ → ℕ → List Told → Counts → Memory → Account
account_of p n ts c m = account p (compressed n (rows_of_told ts)) (numbers_of ts) (filled c m)
