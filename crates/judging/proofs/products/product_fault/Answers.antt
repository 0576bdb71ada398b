-- `product_fault` meets its contract: p - 1 times the row is added to the product.
-- Assumes nothing.
use native.Mathlib.Omega.{arith}
use Rattle.walk.proofs.Walking.{next_found}
use Rattle.judging.proofs.Multiples.{left_long, compared_adds, compared_same, compared_other}
use Rattle.judging.proofs.products.product_fault.Goals as goal

pub multiply-requires : goal.multiply-requires
multiply-requires c = c.requires.product

pub add_multiple-requires : goal.add_multiple-requires
add_multiple-requires c = compared_adds c.requires c.multiply.ensures

pub overflow_add-after : goal.overflow_add-after
overflow_add-after c = omega (arith, c.ranges, (next_found (omega arith) c.next-after.ensures).within, left_long c.requires c.multiply.ensures c.add_multiple.ensures)

pub returns-then-after-dense : goal.returns-then-after-dense
returns-then-after-dense c = compared_same c.requires c.multiply.ensures c.add_multiple.ensures c.next-after.ensures c.if-after-dense.true

pub returns : goal.returns
returns c = compared_other c.requires c.multiply.ensures c.add_multiple.ensures c.next-after.ensures c.if-after-dense.false c.wipe.ensures
