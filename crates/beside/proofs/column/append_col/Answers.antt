-- `append_col` meets its contract: a refusal leaves the memory as it came, and what passes is written.
-- Assumes nothing.
use Rattle.sparse.proofs.Firsts.{handed}
use Rattle.std.specs.Prelude.{Ok}
use mathlib.Core.Path.{◌≡◌, sym, ◌∙◌}
use Rattle.sparse.specs.Matrix.{seen}
use Rattle.writing.proofs.Puttings.{put_refused, put_no_room, put_made}
use Rattle.beside.specs.Beside.{append_col, append_col_test}
use Rattle.beside.proofs.Passed.{col_sized, col_fits}
use Rattle.beside.proofs.column.append_col.Goals as goal
use Rattle.beside.proofs.column.append_col.Goals.{In_ok-append_col_test}

tested : (c : In_ok-append_col_test) → append_col_test c.args.p (seen c.args.matrix) c.args.len c.args.idcs.now c.args.col_values.now ≡ Ok tt
tested c = sym c.append_col_test.ensures ∙ c.in_ok-append_col_test.was

pub returns-in_err-append_col_test : goal.returns-in_err-append_col_test
unfolding append_col
returns-in_err-append_col_test c = rw (handed c.from_residual.ensures.1) (put_refused _ _ c.append_col_test.ensures c.in_err-append_col_test.was)

pub returns-in_err-room_test : goal.returns-in_err-room_test
unfolding append_col
returns-in_err-room_test c = rw (handed c.from_residual-in_err-room_test.ensures.1) (let good = tested (goal.at.returns-in_err-room_test c).In_ok-append_col_test in
    put_no_room _ _ good (col_sized _ _ _ _ _ good) c.room_test.ensures c.in_err-room_test.was)

pub write_column-requires : goal.write_column-requires
write_column-requires c = col_fits _ _ _ _ _ (tested (goal.at.write_column-requires c).In_ok-append_col_test) _ c.room_test.ensures c.in_ok-room_test.was

pub returns : goal.returns
unfolding append_col
returns c = let good = tested (goal.at.returns c).In_ok-append_col_test in
    put_made _ _ good (col_sized _ _ _ _ _ good) c.room_test.ensures c.in_ok-room_test.was c.write_column.ensures
