-- The measure of Euclid's step: the second argument, which falls to a remainder by it.
use Rattle.field.proofs.inverse.+inverse.Given as goal

abbrev pub decreases-inverse : goal.decreases-inverse
decreases-inverse l = l.a
