-- `write_last` meets its contract. The loop's invariant: what goes to the indices before k is written.
use Rattle.sparse.specs.Lent.{lent_vector}
use Rattle.sparse.specs.Matrix.{seen}
use Rattle.lasts.specs.Gathers.{taken}
use Rattle.lasts.proofs.Gathering.{Gathering}
use Rattle.lasts.proofs.gather.write_last.Given as goal

abbrev pub invariant-loop-k : goal.invariant-loop-k
invariant-loop-k l = Gathering (taken l.order (seen l.matrix) l.pivots) (lent_vector l.initial.out_idcs l.initial.out_vals) l.at l.k l.out_idcs l.out_vals
