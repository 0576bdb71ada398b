-- `last_at` meets its contract: nothing where the mark stands, else what the row holds.
-- Assumes nothing.
use mathlib.Core.Path.{◌≡◌, sym, ◌∙◌}
use Prim.Native.Nat.{◌<◌}
use native.Mathlib.Omega.{arith}
use Rattle.sparse.specs.Matrix.{part, row, seen}
use Rattle.sparse.specs.Pivots.{mark}
use Rattle.readers.proofs.Identities.{row_climbing}
use Rattle.lasts.specs.Gathers.{held}
use Rattle.lasts.proofs.Sources.{RowIn, source_row, row_within, taken_none, taken_last, last_of_row}
use Rattle.lasts.proofs.gather.last_at.Goals as goal
use Rattle.lasts.proofs.gather.last_at.Goals.{Else-row}

-- past the mark: the source is a row
is_row : (c : Else-row) → c.source-row.result < (seen c.args.matrix).nrows
unfolding mark
is_row c = rw c.source-row.ensures (source_row c.args.order (seen c.args.matrix) c.args.pivots.now c.args.k c.requires (λ e. omega (arith, c.if-row.false, c.source-row.ensures)))

lies : (c : Else-row) → RowIn (seen c.args.matrix) c.source-row.result
lies c = row_within (seen c.args.matrix) _ c.requires.from.whole (is_row c)

pub returns-then-row : goal.returns-then-row
unfolding held mark
returns-then-row c =
    let at_mark : c.source-row.result ≡ 4294967295 = omega (arith, c.if-row.true) in
    sym (taken_none _ _ _ _ (sym c.source-row.ensures ∙ at_mark))

pub bounds-row_ptrs-row : goal.bounds-row_ptrs-row
bounds-row_ptrs-row c = omega (arith, lies (goal.at.bounds-row_ptrs-row c).Else-row)

pub bounds-row_ptrs-row-2 : goal.bounds-row_ptrs-row-2
bounds-row_ptrs-row-2 c = omega (arith, lies (goal.at.bounds-row_ptrs-row-2 c).Else-row)

pub offset_bounds-col_idcs-start : goal.offset_bounds-col_idcs-start
offset_bounds-col_idcs-start c = omega (arith, lies (goal.at.offset_bounds-col_idcs-start c).Else-row)

pub slice_bounds-last_in-count : goal.slice_bounds-last_in-count
slice_bounds-last_in-count c = omega (arith, lies (goal.at.slice_bounds-last_in-count c).Else-row)

pub slice_bounds-last_in-start : goal.slice_bounds-last_in-start
slice_bounds-last_in-start c = omega (arith, lies (goal.at.slice_bounds-last_in-start c).Else-row)

pub slice_bounds-last_in-end : goal.slice_bounds-last_in-end
slice_bounds-last_in-end c = omega (arith, lies (goal.at.slice_bounds-last_in-end c).Else-row)

pub offset_bounds-values-start : goal.offset_bounds-values-start
offset_bounds-values-start c = omega (arith, lies (goal.at.offset_bounds-values-start c).Else-row)

pub slice_bounds-last_in-count-2 : goal.slice_bounds-last_in-count-2
slice_bounds-last_in-count-2 c = omega (arith, lies (goal.at.slice_bounds-last_in-count-2 c).Else-row)

pub slice_bounds-last_in-start-2 : goal.slice_bounds-last_in-start-2
slice_bounds-last_in-start-2 c = omega (arith, lies (goal.at.slice_bounds-last_in-start-2 c).Else-row)

pub slice_bounds-last_in-end-2 : goal.slice_bounds-last_in-end-2
slice_bounds-last_in-end-2 c = omega (arith, lies (goal.at.slice_bounds-last_in-end-2 c).Else-row)

pub last_in-requires : goal.last_in-requires
unfolding row part
last_in-requires c = row_climbing (seen c.args.matrix) c.requires.from.whole _ (is_row (goal.at.last_in-requires c).Else-row)

pub returns : goal.returns
unfolding row part mark
returns c = c.last_in.ensures c.args.k
    ∙ sym (last_of_row (seen c.args.matrix) _ c.requires.from.whole (is_row (goal.at.returns c).Else-row) c.args.k)
    ∙ rw c.source-row.ensures (sym (taken_last c.args.order (seen c.args.matrix) c.args.pivots.now c.args.k (λ q. let at_mark : c.source-row.result ≡ 4294967295 = c.source-row.ensures ∙ q in c.if-row.false (omega (arith, at_mark)))))
