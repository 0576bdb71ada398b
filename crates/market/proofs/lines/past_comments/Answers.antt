-- `lines::past_comments` meets its contract. The loop's invariant: what follows the comments from place i on follows those from `at` on.
use mathlib.Core.Path.{refl, sym, ◌∙◌}
use native.Mathlib.Omega.{arith}
use lib.ListN.{length}
use Rattle.market.specs.Grammar.{feed, percent}
use Rattle.market.proofs.Fronts.{comments_end, comments_within, comments_more, comments_none}
use Rattle.market.proofs.Places.{none_left}
use Rattle.market.proofs.lines.past_comments.Goals as goal

pub loop-i-init : goal.loop-i-init
loop-i-init c = refl

pub loop-i-preserved-then-within : goal.loop-i-preserved-then-within
unfolding feed
loop-i-preserved-then-within c = sym (comments_within _ _ c.loop-i-test.true) ∙ rw c.if-within.true at c.loop-i.invariant

pub returns-then-byte-ne37 : goal.returns-then-byte-ne37
unfolding percent
returns-then-byte-ne37 c = comments_none _ _ c.loop-i-test.true c.if-byte-ne37.true ∙ rw c.if-within.false at c.loop-i.invariant

pub loop-i-preserved : goal.loop-i-preserved
unfolding percent
loop-i-preserved c = sym (comments_more _ _ c.loop-i-test.true c.if-byte-ne37.false) ∙ rw c.if-within.false at c.loop-i.invariant

pub returns : goal.returns
returns c =
    let text = c.args.text.now in
    none_left text (length text) (omega arith) ∙ sym (none_left text c.loop-i.i c.loop-i-test.false) ∙ comments_end _ _ _ c.loop-i-test.false ∙ c.loop-i.invariant
