-- `lines::size_line` meets its contract.
use mathlib.Core.Path.{◌≡◌, ap, sym, ◌∙◌}
use Rattle.market.specs.Grammar.{banner}
use Rattle.market.specs.Parse.{past}
use Rattle.market.specs.Places.{front_read, line_read}
use Rattle.market.proofs.Fronts.{front_starts}
use Rattle.market.proofs.Threes.{unsized, sized}
use Rattle.market.proofs.lines.size_line.Goals as goal
use Rattle.market.proofs.lines.size_line.Goals.{After-starts_with}

-- std's answer says what follows the first line
started : (c : After-starts_with) → front_read c.args.text.now 49 c.starts_with.result ≡ past banner c.args.text.now
unfolding banner
started c = ap (front_read c.args.text.now 49) c.starts_with.ensures.value ∙ front_starts banner c.args.text.now

pub returns-then-starts_with : goal.returns-then-starts_with
unfolding banner
returns-then-starts_with c = sized _ c.past_comments.result _ (ap (front_read _ 49) (sym c.if-starts_with.true) ∙ started (goal.at.returns-then-starts_with c).After-starts_with) c.past_comments.ensures c.line_at.ensures

pub returns : goal.returns
unfolding banner line_read
returns c = unsized _ (ap (front_read _ 49) (sym c.if-starts_with.false) ∙ started (goal.at.returns c).After-starts_with)
