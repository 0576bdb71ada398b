-- `value_of` meets its contract.
-- Assumes nothing.
use mathlib.Core.Path.{sym}
use native.Mathlib.Omega.{arith}
use lib.Seq.{length-take-le}
use Rattle.signs.specs.Value.{value_of}
use Rattle.signs.proofs.Sums.{product_small}
use Rattle.signs.proofs.values.value_of.Goals as goal

pub product-lasts-requires : goal.product-lasts-requires
product-lasts-requires c = c.requires.lasts

pub slice_bounds-inversions-end : goal.slice_bounds-inversions-end
slice_bounds-inversions-end c = sym (length-take-le _ _ c.requires.table)

pub inversions-turns-requires : goal.inversions-turns-requires
inversions-turns-requires c = omega (arith, length-take-le c.args.ncols c.args.pivots.now c.requires.table, c.requires.narrow)

pub with_sign-requires : goal.with_sign-requires
with_sign-requires c = rw c.product-lasts.ensures (product_small _ _ _ _ c.requires.lasts.least)

pub returns : goal.returns
unfolding value_of
returns c = rw (c.with_sign.ensures, c.product-lasts.ensures, c.inversions-turns.ensures)
