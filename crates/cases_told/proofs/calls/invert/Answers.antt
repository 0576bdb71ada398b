-- `invert` may ask for the inverse: p is a prime, by the test, and a is one of its residues other than 0.
-- Assumes nothing.
use mathlib.Core.Path.{sym, ◌∙◌}
use native.Mathlib.Omega.{arith}
use Rattle.field.proofs.Inverses.{prime_invertible}
use Rattle.field.proofs.Primes.{modulus_iff}
use Rattle.cases_told.proofs.calls.invert.Goals as goal

pub inverse-requires : goal.inverse-requires
inverse-requires c = prime_invertible
    ((modulus_iff _).0 (sym c.is_modulus.ensures ∙ c.if-is_modulus.true)).0
    (omega arith)
    (omega arith)
