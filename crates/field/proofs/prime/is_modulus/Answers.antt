-- `prime::is_modulus` meets its contract: the largest was computed, the even numbers but 2 are no primes.
-- Assumes nothing.
use mathlib.Core.Path.{sym, ◌∙◌}
use native.Mathlib.Omega.{arith}
use Rattle.field.specs.Prime.{largest}
use Rattle.field.proofs.Largest.{largest_modulus}
use Rattle.field.proofs.Primes.{not_modulus, modulus_below, even_modulus}
use Rattle.field.proofs.prime.is_modulus.Goals as goal

pub returns-then-p-eq-LARGEST : goal.returns-then-p-eq-LARGEST
returns-then-p-eq-LARGEST c = sym (largest_modulus c.if-p-eq-LARGEST.true)

pub returns-then-p-gt-LARGEST : goal.returns-then-p-gt-LARGEST
returns-then-p-gt-LARGEST c = sym (not_modulus c.args.p (λ prime most. omega arith))

pub returns-then-p-lt2 : goal.returns-then-p-lt2
returns-then-p-lt2 c = sym (not_modulus c.args.p (λ prime most. omega arith))

pub returns-then-p-eq0 : goal.returns-then-p-eq0
returns-then-p-eq0 c = even_modulus c.args.p c.if-p-lt2.false c.if-p-eq0.true

pub is_odd_prime-requires : goal.is_odd_prime-requires
unfolding largest
is_odd_prime-requires c = record {
  least = omega (arith, c.if-p-eq0.false);
  most = c.if-p-gt-LARGEST.false;
  odd = omega (arith, c.if-p-eq0.false);
}

pub returns : goal.returns
returns c = c.is_odd_prime.ensures
    ∙ modulus_below c.args.p c.if-p-gt-LARGEST.false
