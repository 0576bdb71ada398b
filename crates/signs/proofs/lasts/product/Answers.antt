-- `product` meets its contract. The loop's invariant: the rows before are multiplied.
-- Assumes nothing.
use mathlib.Core.Path.{refl, sym, ap, ◌∙◌}
use native.Mathlib.Nat.{mod-lt}
use native.Mathlib.Omega.{arith}
use Rattle.signs.specs.Value.{product}
use Rattle.sparse.specs.Matrix.{row, part}
use Rattle.signs.proofs.Sums.{product_more}
use Rattle.signs.proofs.lasts.product.Goals as goal

pub loop-row-init : goal.loop-row-init
unfolding product
loop-row-init c = (omega (arith, c.requires.least), refl)

pub offset_bounds-vals-start : goal.offset_bounds-vals-start
offset_bounds-vals-start c = omega (arith, c.requires.rises _ c.loop-row-test.true, c.requires.within _ c.loop-row-test.true)

pub slice_bounds-last_of-count : goal.slice_bounds-last_of-count
slice_bounds-last_of-count c = omega (arith, c.requires.rises _ c.loop-row-test.true, c.requires.within _ c.loop-row-test.true)

pub mul-value-requires : goal.mul-value-requires
unfolding row part
mul-value-requires c = record { left = c.loop-row.invariant.0; right = rw (c.last_of.ensures) (c.requires.small _ c.loop-row-test.true) }

pub loop-row-preserved : goal.loop-row-preserved
unfolding row part
loop-row-preserved c = (rw c.mul-value.ensures (mod-lt _ (omega (arith, c.requires.least))), rw (c.mul-value.ensures, c.last_of.ensures, c.loop-row.invariant.1) (sym (product_more _ _ _ _)))

pub returns : goal.returns
returns c = c.loop-row.invariant.1 ∙ ap (product _ _ _) (omega arith)
