-- `row_fault` meets its contract: step 1, then the next L row.
-- Assumes nothing.
use native.Mathlib.Omega.{arith}
use Rattle.sparse.specs.Matrix.{part, row}
use Rattle.telling.specs.Answers.{none}
use Rattle.checking.proofs.Turns.{row_at_once, row_none_left, next_within, next_columns, row_judges, row_judged}
use Rattle.checking.proofs.rows.row_fault.Goals as goal

pub returns-then-is_at_once : goal.returns-then-is_at_once
unfolding none
returns-then-is_at_once c = row_at_once c.requires _ _ c.is_at_once.ensures c.if-is_at_once.true

pub returns-then-l_ptrs-used : goal.returns-then-l_ptrs-used
returns-then-l_ptrs-used c = row_none_left c.requires _ _ c.is_at_once.ensures c.if-is_at_once.false c.if-l_ptrs-used.true

pub offset_bounds-l_cols-start : goal.offset_bounds-l_cols-start
offset_bounds-l_cols-start c = omega (arith, next_within c.requires c.args.used c.args.answer c.is_at_once.ensures c.if-l_ptrs-used.false, next_columns c.requires c.args.used c.args.answer c.is_at_once.ensures c.if-l_ptrs-used.false)

pub slice_bounds-l_row-count : goal.slice_bounds-l_row-count
slice_bounds-l_row-count c = omega (arith, next_within c.requires c.args.used c.args.answer c.is_at_once.ensures c.if-l_ptrs-used.false)

pub slice_bounds-l_row-start : goal.slice_bounds-l_row-start
slice_bounds-l_row-start c = omega (arith, next_within c.requires c.args.used c.args.answer c.is_at_once.ensures c.if-l_ptrs-used.false)

pub slice_bounds-l_row-end : goal.slice_bounds-l_row-end
slice_bounds-l_row-end c = omega (arith, next_columns c.requires c.args.used c.args.answer c.is_at_once.ensures c.if-l_ptrs-used.false)

pub offset_bounds-l_vals-start : goal.offset_bounds-l_vals-start
offset_bounds-l_vals-start c = omega (arith, next_within c.requires c.args.used c.args.answer c.is_at_once.ensures c.if-l_ptrs-used.false)

pub slice_bounds-factors-count : goal.slice_bounds-factors-count
slice_bounds-factors-count c = omega (arith, next_within c.requires c.args.used c.args.answer c.is_at_once.ensures c.if-l_ptrs-used.false)

pub slice_bounds-factors-start : goal.slice_bounds-factors-start
slice_bounds-factors-start c = omega (arith, next_within c.requires c.args.used c.args.answer c.is_at_once.ensures c.if-l_ptrs-used.false)

pub slice_bounds-factors-end : goal.slice_bounds-factors-end
slice_bounds-factors-end c = omega (arith, next_within c.requires c.args.used c.args.answer c.is_at_once.ensures c.if-l_ptrs-used.false)

pub judge_row-requires : goal.judge_row-requires
unfolding row part
judge_row-requires c = row_judges c.requires _ c.args.answer c.is_at_once.ensures c.if-l_ptrs-used.false

pub returns : goal.returns
unfolding row part
returns c = row_judged c.requires _ _ c.is_at_once.ensures c.if-l_ptrs-used.false c.if-is_at_once.false c.judge_row.ensures
