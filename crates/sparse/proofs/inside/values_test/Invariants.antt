-- `values_test` meets its contract. The loop's invariant: the values before this one pass.
-- Assumes nothing.
use lib.ListN.{length, get_or}
use Rattle.sparse.specs.Tests.{value_test}
use Rattle.sparse.proofs.Firsts.{Past}
use Rattle.sparse.proofs.inside.values_test.Given as goal

abbrev pub invariant-loop-value : goal.invariant-loop-value
invariant-loop-value l = Past (length l.values) (λ j. value_test l.clause l.p (get_or l.values j 0)) l.value-index
