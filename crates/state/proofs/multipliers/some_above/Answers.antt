-- `some_above` meets its contract: std's `any` over the first columns.
-- Assumes nothing.
use mathlib.Core.Path.{sym, ◌∙◌}
use borrow.Author.Rules.{rules}
use borrow.Author.Tests.{tests}
use lib.Dec.{leb}
use lib.ListN.{take}
use Rattle.std.proofs.lemmas.Iterator.{YieldsList-from_slice}
use Rattle.std.proofs.lemmas.Iterator.Search.{any_from_yields_List}
use Rattle.lists.proofs.Chains.{any_front}
use Rattle.state.proofs.multipliers.some_above.Goals as goal

pub returns : goal.returns
returns c =
    any_from_yields_List (leb c.args.rank) _ _ _ c.any.ensures.ran (YieldsList-from_slice (take c.args.fill c.args.cols.now) cc) (λ x b q k. search (rules, tests))
    ∙ sym (any_front (leb c.args.rank) 0 c.args.cols.now c.args.fill c.requires)
