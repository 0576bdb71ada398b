-- `digits` is safe and ends: what is left of the text gets shorter.
use Rattle.std.proofs.Common.{◌≤◌, length}
use Rattle.words.proofs.digits.Given as goal

abbrev pub invariant-loop-rest : goal.invariant-loop-rest
invariant-loop-rest l = length l.rest ≤ length l.text

abbrev pub decreases-loop-rest : goal.decreases-loop-rest
decreases-loop-rest l = length l.rest
