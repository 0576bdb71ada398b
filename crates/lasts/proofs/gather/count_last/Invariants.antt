-- `count_last` meets its contract. The loop's invariant: the indices before k are counted.
use Rattle.sparse.specs.Matrix.{seen}
use Rattle.lasts.specs.Gathers.{taken}
use Rattle.lasts.proofs.Gathering.{Tally}
use Rattle.lasts.proofs.gather.count_last.Given as goal

abbrev pub invariant-loop-k : goal.invariant-loop-k
invariant-loop-k l = Tally (taken l.order (seen l.matrix) l.pivots) l.found l.k
