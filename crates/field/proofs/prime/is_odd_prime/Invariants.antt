-- `prime::is_odd_prime` meets its contract: every number from 2 on and below d has failed to divide n.
-- The measure is n less d. Assumes nothing.
use Prim.Native.Nat.{◌-◌}
use Rattle.field.proofs.Primes.{Trial}
use Rattle.field.proofs.prime.is_odd_prime.Given as goal

abbrev pub invariant-loop-d : goal.invariant-loop-d
invariant-loop-d l = Trial l.n l.d

abbrev pub decreases-loop-d : goal.decreases-loop-d
decreases-loop-d l = l.n - l.d
