-- `plus` meets its contract: one product and one number fit 64 bits.
-- Assumes nothing.
use Prim.Native.Nat.{◌+◌, ◌*◌}
use native.Mathlib.Nat.{mod-lt}
use native.Mathlib.Omega.{arith}
use Rattle.field.proofs.Leaves.{product_fits}
use Rattle.walk.proofs.DenseLaws.{product_room}
use Rattle.walk.proofs.kernels.plus.Goals as goal

pub overflow_mul-sum : goal.overflow_mul-sum
overflow_mul-sum c = record { fits = product_fits 32 32 c.ranges.f.fits c.ranges.b.fits }

pub overflow_add-sum : goal.overflow_add-sum
overflow_add-sum c = record { fits = product_room c.ranges.a.fits c.ranges.f.fits c.ranges.b.fits }

pub overflow_cast-result-2 : goal.overflow_cast-result-2
overflow_cast-result-2 c = record { fits = omega (arith, mod-lt (c.args.a + c.args.f * c.args.b) {m = c.args.p} c.requires) }
