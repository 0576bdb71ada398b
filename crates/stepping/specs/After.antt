-- What is told after a walk.
use Rattle.std.specs.Prelude.{ℕ, ◌+◌, Bool, cond, ltb}
use Rattle.state.specs.Fresh.{counts, keeps}
use Rattle.state.specs.declared.Counts.{Counts}
use Rattle.taking.specs.declared.Walked.{Walked}
use Rattle.walk.specs.Left.{answer_of}
use Rattle.stepping.specs.Take.{stepped}
use Rattle.stepping.specs.declared.Stepped.{Stepped}

-- 1 where something is counted
unfoldable pub one_if : Bool → ℕ
one_if b = cond b 1 0

-- one row more in U where there is a head, and the counts of so many entries more
unfoldable pub after_walk : Counts → Walked → Stepped
after_walk c w =
    stepped (answer_of c.ncols w.head)
    (counts c.mode c.modulus c.ncols (c.rank + one_if (ltb w.head c.ncols)) (c.u_fill + w.u_len) (c.l_rows + one_if (keeps c.mode)) (c.l_fill + w.l_len))
