-- `last_row` meets its contract: the row is copied from where it starts on.
-- Assumes nothing.
use Rattle.std.specs.Prelude.{Ok}
use mathlib.Core.Path.{◌≡◌, sym, ◌∙◌}
use Prim.Native.Nat.{◌-◌, ◌≤◌, ◌<◌}
use native.Mathlib.Omega.{arith}
use borrow.Author.Tests.{eq-eqb, ne_eqb}
use lib.ListN.{length, get_or, length-take, length-drop}
use Rattle.sparse.specs.Lent.{lent_vector, vector_room_test, unless}
use Rattle.sparse.specs.Matrix.{seen}
use Rattle.sparse.specs.Tests.{well_formed}
use Rattle.sparse.proofs.Firsts.{handed}
use Rattle.sparse.proofs.Cuts.{Laid, formed_laid}
use Rattle.readers.specs.Readers.{last_row, row_found}
use Rattle.readers.proofs.LastRows.{starts_within, last_long, last_cols, last_values, room_fits}
use Rattle.readers.proofs.rows.last_row.Goals as goal
use Rattle.readers.proofs.rows.last_row.Goals.{Else-nrows-eq0, In_ok-well_formed, In_ok-vector_room_test}

-- past the tests: they found nothing
formed : (c : In_ok-well_formed) → well_formed 65536 c.args.p (seen c.args.matrix) ≡ Ok tt
formed c = sym c.well_formed-2.ensures ∙ c.in_ok-well_formed.was

lays : (c : In_ok-well_formed) → Laid (seen c.args.matrix)
lays c = formed_laid 65536 c.args.p (seen c.args.matrix) (formed c)

-- there is a row
some_row : (c : Else-nrows-eq0) → 0 < (seen c.args.matrix).nrows
some_row c = let n : c.args.matrix.nrows ≡ 0 → ⊥ = c.if-nrows-eq0.false in omega arith

within : (c : Else-nrows-eq0) → get_or (seen c.args.matrix).row_ptrs ((seen c.args.matrix).nrows - 1) 0 ≤ length (seen c.args.matrix).values
within c = starts_within (seen c.args.matrix) (formed_laid 65536 c.args.p (seen c.args.matrix) (sym c.well_formed-2.ensures ∙ c.in_ok-well_formed.was)) (some_row c)

-- past the room: there is enough
roomy : (c : In_ok-vector_room_test) → let m = (seen c.args.matrix) in let a = c.args in vector_room_test (length m.values - get_or m.row_ptrs (m.nrows - 1) 0) (lent_vector a.out_idcs.now a.out_vals.now) ≡ Ok tt
roomy c = sym c.vector_room_test.ensures ∙ c.in_ok-vector_room_test.was

pub returns-in_err-well_formed : goal.returns-in_err-well_formed
unfolding last_row unless
returns-in_err-well_formed c = rw (handed c.from_residual.ensures.1) (rw (← c.well_formed-2.ensures, c.in_err-well_formed.was))

pub returns-then-nrows-eq0 : goal.returns-then-nrows-eq0
unfolding last_row unless
returns-then-nrows-eq0 c = rw (formed (goal.at.returns-then-nrows-eq0 c).In_ok-well_formed, eq-eqb _ _ c.if-nrows-eq0.true)

pub bounds-row_ptrs-row : goal.bounds-row_ptrs-row
bounds-row_ptrs-row c = omega (arith, some_row (goal.at.bounds-row_ptrs-row c).Else-nrows-eq0, (lays (goal.at.bounds-row_ptrs-row c).In_ok-well_formed).shape.many)

pub overflow_sub-values : goal.overflow_sub-values
overflow_sub-values c = omega (arith, within (goal.at.overflow_sub-values c).Else-nrows-eq0)

pub returns-in_err-vector_room_test : goal.returns-in_err-vector_room_test
unfolding last_row unless
returns-in_err-vector_room_test c = rw (handed c.from_residual-in_err-vector_room_test.ensures.1) (rw (formed (goal.at.returns-in_err-vector_room_test c).In_ok-well_formed, ne_eqb _ _ c.if-nrows-eq0.false, last_long (seen c.args.matrix) (lays (goal.at.returns-in_err-vector_room_test c).In_ok-well_formed) (some_row (goal.at.returns-in_err-vector_room_test c).Else-nrows-eq0), ← c.vector_room_test.ensures, c.in_err-vector_room_test.was))

pub offset_bounds-col_idcs-start : goal.offset_bounds-col_idcs-start
offset_bounds-col_idcs-start c = omega (arith, within (goal.at.offset_bounds-col_idcs-start c).Else-nrows-eq0, (lays (goal.at.offset_bounds-col_idcs-start c).In_ok-well_formed).shape.col_each)

pub slice_bounds-copy-count : goal.slice_bounds-copy-count
slice_bounds-copy-count c = omega (arith, within (goal.at.slice_bounds-copy-count c).Else-nrows-eq0, (lays (goal.at.slice_bounds-copy-count c).In_ok-well_formed).shape.col_each)

pub slice_bounds-copy-start : goal.slice_bounds-copy-start
slice_bounds-copy-start c = omega (arith, within (goal.at.slice_bounds-copy-start c).Else-nrows-eq0, (lays (goal.at.slice_bounds-copy-start c).In_ok-well_formed).shape.col_each)

pub copy-requires : goal.copy-requires
copy-requires c = simp (length-take, length-drop) (omega (arith, within (goal.at.copy-requires c).Else-nrows-eq0, (lays (goal.at.copy-requires c).In_ok-well_formed).shape.col_each, (room_fits _ _ (roomy (goal.at.copy-requires c).In_ok-vector_room_test)).0))

pub offset_bounds-values-start : goal.offset_bounds-values-start
offset_bounds-values-start c = omega (arith, within (goal.at.offset_bounds-values-start c).Else-nrows-eq0, (lays (goal.at.offset_bounds-values-start c).In_ok-well_formed).shape.col_each)

pub slice_bounds-copy-count-2 : goal.slice_bounds-copy-count-2
slice_bounds-copy-count-2 c = omega (arith, within (goal.at.slice_bounds-copy-count-2 c).Else-nrows-eq0, (lays (goal.at.slice_bounds-copy-count-2 c).In_ok-well_formed).shape.col_each)

pub slice_bounds-copy-start-2 : goal.slice_bounds-copy-start-2
slice_bounds-copy-start-2 c = omega (arith, within (goal.at.slice_bounds-copy-start-2 c).Else-nrows-eq0, (lays (goal.at.slice_bounds-copy-start-2 c).In_ok-well_formed).shape.col_each)

pub copy-requires-2 : goal.copy-requires-2
copy-requires-2 c = simp (length-take, length-drop) (omega (arith, within (goal.at.copy-requires-2 c).Else-nrows-eq0, (room_fits _ _ (roomy (goal.at.copy-requires-2 c).In_ok-vector_room_test)).1))

pub overflow_sub-result : goal.overflow_sub-result
overflow_sub-result c = omega (arith, within (goal.at.overflow_sub-result c).Else-nrows-eq0)

pub returns : goal.returns
unfolding last_row unless row_found
returns c = rw (formed (goal.at.returns c).In_ok-well_formed, ne_eqb _ _ c.if-nrows-eq0.false, last_long (seen c.args.matrix) (lays (goal.at.returns c).In_ok-well_formed) (some_row (goal.at.returns c).Else-nrows-eq0), roomy (goal.at.returns c).In_ok-vector_room_test, last_cols (seen c.args.matrix) (lays (goal.at.returns c).In_ok-well_formed) (some_row (goal.at.returns c).Else-nrows-eq0), last_values (seen c.args.matrix) (lays (goal.at.returns c).In_ok-well_formed) (some_row (goal.at.returns c).Else-nrows-eq0), c.copy.ensures, c.copy-2.ensures)
