-- `prime::is_odd_prime` meets its contract: every number from 2 on and below d has failed to divide n.
-- The measure is n less d. Assumes nothing.
use mathlib.Core.Path.{sym}
use native.Mathlib.Nat.{div-mul_cancel, div-mul-le_self}
use native.Mathlib.Omega.{arith}
use Rattle.field.proofs.Primes.{trial_start, trial_more, trial_ends, trial_room, trial_found, prime_iff}
use Rattle.field.proofs.prime.is_odd_prime.Goals as goal

pub loop-d-init : goal.loop-d-init
loop-d-init c = trial_start c.requires.odd

pub returns-then-q-d : goal.returns-then-q-d
returns-then-q-d c = sym ((prime_iff c.args.n).1 (trial_ends (omega arith) c.loop-d.invariant c.if-q-d.true))

pub overflow_mul-q : goal.overflow_mul-q
overflow_mul-q c = record {
  fits = omega (arith, div-mul-le_self c.args.n c.loop-d.d);
}

pub returns-then-q-d-2 : goal.returns-then-q-d-2
returns-then-q-d-2 c = sym (trial_found c.loop-d.invariant c.if-q-d.false c.if-q-d-2.true)

pub overflow_add-d : goal.overflow_add-d
overflow_add-d c = record {
  fits = omega (arith, trial_room c.loop-d.invariant c.if-q-d.false);
}

pub loop-d-smaller : goal.loop-d-smaller
loop-d-smaller c = omega (arith, trial_room c.loop-d.invariant c.if-q-d.false)

pub loop-d-preserved : goal.loop-d-preserved
loop-d-preserved c = trial_more
    c.requires.odd
    (λ divides. c.if-q-d-2.false (div-mul_cancel c.loop-d.d divides))
    c.loop-d.invariant
