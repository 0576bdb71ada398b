-- `sort_rows_by_pivot` meets its contract: a refusal leaves the memory as it came, and what passes is written.
-- Assumes nothing.
use Rattle.sparse.proofs.Firsts.{handed}
use Rattle.std.specs.Prelude.{Ok}
use mathlib.Core.Path.{◌≡◌, sym, ◌∙◌}
use Rattle.sparse.specs.Matrix.{seen}
use Rattle.writing.proofs.Puttings.{put_refused, put_no_room, put_made}
use Rattle.pivots.specs.Tables.{table_test}
use Rattle.moves.specs.Moves.{sort_rows_by_pivot}
use Rattle.moves.proofs.SortPassed.{sort_sized, sort_rows, sort_fits}
use Rattle.moves.proofs.sorted.sort_rows_by_pivot.Goals as goal
use Rattle.moves.proofs.sorted.sort_rows_by_pivot.Goals.{In_ok-table_test}

tested : (c : In_ok-table_test) → table_test c.args.p (seen c.args.matrix) c.args.pivots.now ≡ Ok tt
tested c = sym c.table_test.ensures ∙ c.in_ok-table_test.was

pub returns-in_err-table_test : goal.returns-in_err-table_test
unfolding sort_rows_by_pivot
returns-in_err-table_test c = rw (handed c.from_residual.ensures.1) (put_refused _ _ c.table_test.ensures c.in_err-table_test.was)

pub returns-in_err-room_test : goal.returns-in_err-room_test
unfolding sort_rows_by_pivot
returns-in_err-room_test c = rw (handed c.from_residual-in_err-room_test.ensures.1) (let good = tested (goal.at.returns-in_err-room_test c).In_ok-table_test in
    put_no_room _ _ good (sort_sized _ _ _ good) c.room_test.ensures c.in_err-room_test.was)

pub write_named-requires : goal.write_named-requires
write_named-requires c = sort_fits _ _ _ (tested (goal.at.write_named-requires c).In_ok-table_test) _ c.room_test.ensures c.in_ok-room_test.was

pub returns : goal.returns
unfolding sort_rows_by_pivot
returns c = let good = tested (goal.at.returns c).In_ok-table_test in
    put_made _ _ good (sort_sized _ _ _ good) c.room_test.ensures c.in_ok-room_test.was (rw (sort_rows _ _ _ good) at c.write_named.ensures)
