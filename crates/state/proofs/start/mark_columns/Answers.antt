-- `mark_columns` meets its contract: the front is filled with the mark.
-- Assumes nothing.
use mathlib.Core.Path.{◌≡◌, ap, ◌∙◌}
use Prim.Native.Nat.{ℕ}
use lib.ListN.{replicate}
use lib.Seq.{length-take-le}
use Rattle.lists.specs.Onto.{◌onto◌}
use Rattle.lists.specs.Table.{table}
use Rattle.lists.proofs.Tables.{length-table}
use Rattle.lists.proofs.Chains.{same_table}
use Rattle.sparse.specs.Pivots.{mark}
use Rattle.state.proofs.start.mark_columns.Goals as goal

pub returns : goal.returns
unfolding mark ◌onto◌
returns c =
    let n = c.args.ncols in
    let old = c.args.pivots.now in
    let filled : c.fill.new.self ≡ table n (λ i. mark) = c.fill.ensures.after (λ y e. e) ∙ ap (λ (k : ℕ). replicate k mark) (length-take-le n old c.requires) ∙ same_table n mark in
    rw (filled, length-table n (λ i. mark))
