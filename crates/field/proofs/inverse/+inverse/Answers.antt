-- `inverse::inverse` meets its contract, by Euclid's step. The measure is the second argument, which falls to a remainder by it.
-- Assumes nothing.
use Prim.Native.Nat.{ℕ}
use native.Mathlib.Nat.{le_of_lt}
use native.Mathlib.Omega.{arith}
use Rattle.field.proofs.Inverses.{Step, inverse_step, inverse_is, one_undoes, euclid_smaller}
use Rattle.field.proofs.Leaves.{product_fits}
use Rattle.field.proofs.inverse.+inverse.Goals as goal
use Rattle.field.proofs.inverse.+inverse.Goals.{After-inverse-y}

pub returns-then-a-eq1 : goal.returns-then-a-eq1
returns-then-a-eq1 t c = inverse_is (one_undoes c.requires.below c.if-a-eq1.true)

pub nonzero_rem-p : goal.nonzero_rem-p
nonzero_rem-p t c = c.requires.pos

pub inverse-y-requires : goal.inverse-y-requires
inverse-y-requires t c = let small = euclid_smaller c.requires c.if-a-eq1.false in
    (omega arith, small)

-- what the call of itself gives
step : (t : ℕ) (c : After-inverse-y t) → Step c.args.p c.args.a c.inverse-y.result
step t c = inverse_step c.requires c.if-a-eq1.false c.inverse-y.ensures

pub overflow_cast-multiple-2 : goal.overflow_cast-multiple-2
overflow_cast-multiple-2 t c = omega (arith, c.inverse-y.type_inv)

pub overflow_mul-multiple : goal.overflow_mul-multiple
overflow_mul-multiple t c = record { fits = product_fits 32 32 c.ranges.p.fits (omega (arith, c.inverse-y.type_inv)) }

pub overflow_sub-multiple : goal.overflow_sub-multiple
overflow_sub-multiple t c = (step t c).some

pub nonzero_div-result : goal.nonzero_div-result
nonzero_div-result t c = c.requires.pos

pub overflow_cast-result-2 : goal.overflow_cast-result-2
overflow_cast-result-2 t c = record { fits = omega (arith, (step t c).room) }

pub overflow_sub-result : goal.overflow_sub-result
overflow_sub-result t c = le_of_lt (step t c).room

pub returns : goal.returns
returns t c = inverse_is (step t c).undoes
