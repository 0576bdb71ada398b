-- `inverted` meets its contract: each turn counts one number or passes over it, and the count is the sum.
-- Assumes nothing.
use mathlib.Core.Path.{sym, ◌∙◌}
use mathlib.Core.Bool.{cond}
use native.Mathlib.Omega.{arith}
use borrow.Author.Tests.{lt-ltb, le-ltb}
use lib.Dec.{ltb}
use lib.ListN.{get_or, take}
use Rattle.lists.proofs.Chains.{count_is, sum_is}
use Rattle.lists.proofs.Scans.{counted_none, counted_hit, counted_miss, counted_few, counted_all}
use Rattle.signs.specs.Value.{greater, inverted}
use Rattle.signs.proofs.inversions.inverted.Goals as goal
use Rattle.signs.proofs.inversions.inverted.Goals.{then-here-before, else-here-before}

pub loop-before-init : goal.loop-before-init
loop-before-init c = counted_none _ _

pub overflow_add-many : goal.overflow_add-many
overflow_add-many c = omega (arith, counted_few _ _ _ _ c.loop-before.invariant)

pub loop-before-preserved : goal.loop-before-preserved
loop-before-preserved c =
    elim c.if-here-before.branch [
      | then-here-before w ↦ rw w.many-is (counted_hit _ _ _ _ 0 c.loop-before.invariant c.loop-before-test.true (lt-ltb _ _ w.if-here-before.true))
      | else-here-before w ↦ rw w.many-is (counted_miss _ _ _ _ 0 c.loop-before.invariant c.loop-before-test.true (le-ltb _ _ w.if-here-before.false))
    ]

pub returns : goal.returns
unfolding inverted greater
returns c =
    let xs = c.args.table.now in
    let here = get_or xs c.args.place 0 in
    counted_all _ _ _ _ c.loop-before.invariant c.loop-before-test.false
    ∙ count_is (ltb here) (take c.args.place xs)
    ∙ sym (sum_is (λ x. cond (ltb here x) 1 0) 0 xs c.args.place (omega (arith, c.requires.within)))
