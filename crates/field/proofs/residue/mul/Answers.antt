-- `residue::mul` meets its contract: the product fits 64 bits, and what it leaves is below p.
-- Assumes nothing.
use Prim.Native.Nat.{◌*◌}
use native.Mathlib.Nat.{mod-lt}
use native.Mathlib.Omega.{arith}
use Rattle.field.proofs.Leaves.{product_fits}
use Rattle.field.proofs.residue.mul.Goals as goal

pub overflow_mul-product : goal.overflow_mul-product
overflow_mul-product c = record { fits = product_fits 32 32 c.ranges.a.fits c.ranges.b.fits }

pub overflow_cast-result-2 : goal.overflow_cast-result-2
overflow_cast-result-2 c = record { fits = omega (arith, mod-lt (c.args.a * c.args.b) {m = c.args.p} (omega arith)) }
