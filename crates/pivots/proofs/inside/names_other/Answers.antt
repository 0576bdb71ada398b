-- `names_other` meets its contract: one of the kept passes where one is kept and passes.
-- Assumes nothing.
use mathlib.Core.Path.{sym, ◌∙◌}
use mathlib.Core.Bool.{not, ◌&&◌}
use borrow.Author.Rules.{rules}
use borrow.Author.Tests.{tests}
use lib.Dec.{leb, eqb}
use Rattle.std.proofs.lemmas.Iterator.{YieldsList-from_slice}
use Rattle.std.proofs.lemmas.Iterator.Search.{any_from_yields_List}
use Rattle.sparse.specs.Pivots.{mark, named}
use Rattle.lists.proofs.Scans.{any_kept}
use Rattle.lists.proofs.Chains.{any_is}
use Rattle.pivots.proofs.inside.names_other.Goals as goal

pub returns : goal.returns
unfolding named mark
returns c =
    any_from_yields_List (λ r. not (eqb r mark) && leb c.args.nrows r) _ _ _ c.any.ensures.ran (YieldsList-from_slice c.args.pivots.now cc) (λ x b q k. search (rules, tests))
    ∙ sym (any_kept (λ r. not (eqb r mark)) (leb c.args.nrows) 0 c.args.pivots.now ∙ any_is (λ r. not (eqb r mark) && leb c.args.nrows r) 0 c.args.pivots.now)
