-- `inversions` meets its contract. The loop's invariant: those of the places before are summed.
-- Assumes nothing.
use mathlib.Core.Path.{refl, sym, ap, ap₂, ◌∙◌}
use Prim.Native.Nat.{ℕ, ◌+◌}
use native.Mathlib.Omega.{arith}
use Rattle.lists.specs.Sum.{Σ}
use Rattle.signs.specs.Value.{inverted, inversions}
use Rattle.signs.proofs.Sums.{inverted_few, sum_more}
use Rattle.signs.proofs.inversions.inversions.Goals as goal

pub loop-place-init : goal.loop-place-init
unfolding Σ
loop-place-init c = (omega arith, refl)

pub inverted-sum-requires : goal.inverted-sum-requires
inverted-sum-requires c = record { few = c.requires; within = c.loop-place-test.true }

pub overflow_add-sum : goal.overflow_add-sum
overflow_add-sum c = let few = inverted_few (c.args.table.now) (c.loop-place.place) in omega (arith, few, c.inverted-sum.ensures, c.requires)

pub loop-place-preserved : goal.loop-place-preserved
loop-place-preserved c = (let few = inverted_few (c.args.table.now) (c.loop-place.place) in omega (arith, few, c.inverted-sum.ensures, c.requires), ap₂ (λ (x y : ℕ). x + y) c.loop-place.invariant.1 c.inverted-sum.ensures ∙ sym (sum_more _ _))

pub returns : goal.returns
unfolding inversions
returns c = c.loop-place.invariant.1 ∙ ap (λ (k : ℕ). Σ k (inverted (c.args.table.now))) (omega arith)
