-- `add_row` meets its contract: a refusal leaves the memory as it came, and what passes is written.
-- Assumes nothing.
use Rattle.sparse.proofs.Firsts.{handed}
use Rattle.std.specs.Prelude.{Ok}
use mathlib.Core.Path.{◌≡◌, sym, ap, ◌∙◌}
use mathlib.Core.List.{List, ◌++◌}
use native.Mathlib.Omega.{arith}
use Rattle.sparse.specs.Lent.{lent}
use Rattle.sparse.specs.Matrix.{seen}
use Rattle.sparse.specs.Put.{put_rows}
use Rattle.sparse.specs.Rows.{Entry, rows_of}
use Rattle.writing.proofs.Puttings.{put_refused, put_no_room, put_made}
use Rattle.below.specs.Below.{add_row, add_row_test}
use Rattle.below.specs.Parts.{rows_in}
use Rattle.below.proofs.Appends.{row_alone}
use Rattle.below.proofs.Passed.{added_sized, row_small, added_fits}
use Rattle.below.proofs.single.add_row.Goals as goal
use Rattle.below.proofs.single.add_row.Goals.{In_ok-add_row_test}

tested : (c : In_ok-add_row_test) → add_row_test c.args.p (seen c.args.matrix) c.args.cols.now c.args.vals.now ≡ Ok tt
tested c = sym c.add_row_test.ensures ∙ c.in_ok-add_row_test.was

pub returns-in_err-add_row_test : goal.returns-in_err-add_row_test
unfolding add_row
returns-in_err-add_row_test c = rw (handed c.from_residual.ensures.1) (put_refused _ _ c.add_row_test.ensures c.in_err-add_row_test.was)

pub overflow_add-nrows : goal.overflow_add-nrows
overflow_add-nrows c = let few = row_small c.args.p (seen c.args.matrix) c.args.cols.now c.args.vals.now (tested (goal.at.overflow_add-nrows c).In_ok-add_row_test) in
    omega arith

pub returns-in_err-room_test : goal.returns-in_err-room_test
unfolding add_row
returns-in_err-room_test c = rw (handed c.from_residual-in_err-room_test.ensures.1) (let good = tested (goal.at.returns-in_err-room_test c).In_ok-add_row_test in
    put_no_room _ _ good (added_sized c.args.p (seen c.args.matrix) c.args.cols.now c.args.vals.now good) c.room_test.ensures c.in_err-room_test.was)

pub write_rows-requires : goal.write_rows-requires
write_rows-requires c = added_fits c.args.p (seen c.args.matrix) c.args.cols.now c.args.vals.now (tested (goal.at.write_rows-requires c).In_ok-add_row_test) _ c.room_test.ensures c.in_ok-room_test.was

pub returns : goal.returns
unfolding add_row rows_of rows_in
returns c = let good = tested (goal.at.returns c).In_ok-add_row_test in
    put_made _ _ good (added_sized c.args.p (seen c.args.matrix) c.args.cols.now c.args.vals.now good) c.room_test.ensures c.in_ok-room_test.was
    (c.write_rows.ensures ∙ ap (λ (rs : List (List Entry)). put_rows (rows_of (seen c.args.matrix) ++ rs) (lent c.args.out_ptrs.now c.args.out_cols.now c.args.out_vals.now)) (row_alone c.args.cols.now c.args.vals.now))
