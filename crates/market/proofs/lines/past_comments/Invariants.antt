-- `lines::past_comments` meets its contract. The loop's invariant: what follows the comments from place i on follows those from `at` on.
use mathlib.Core.Path.{◌≡◌}
use mathlib.Core.Bool.{false}
use lib.ListN.{drop}
use Rattle.market.specs.Parse.{uncomment}
use Rattle.market.proofs.lines.past_comments.Given as goal

abbrev pub invariant-loop-i : goal.invariant-loop-i
invariant-loop-i l = uncomment l.within (drop l.i l.text) ≡ uncomment false (drop l.at l.text)
