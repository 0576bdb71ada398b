-- `append` meets its contract: a refusal leaves the memory as it came, and what passes is written.
-- Assumes nothing.
use Rattle.sparse.proofs.Firsts.{handed}
use Rattle.std.specs.Prelude.{Ok}
use mathlib.Core.Path.{◌≡◌, sym, ◌∙◌}
use native.Mathlib.Omega.{arith}
use Rattle.sparse.specs.Matrix.{seen}
use Rattle.sparse.specs.Rows.{rows_of}
use Rattle.writing.proofs.Puttings.{put_refused, put_no_room, put_made}
use Rattle.below.specs.Below.{append, append_test}
use Rattle.below.specs.Parts.{rows_in}
use Rattle.below.proofs.Passed.{append-sized, append-small, append-fits}
use Rattle.below.proofs.matrices.append.Goals as goal
use Rattle.below.proofs.matrices.append.Goals.{In_ok-append_test}

tested : (c : In_ok-append_test) → append_test c.args.p (seen c.args.matrix) (seen c.args.other) ≡ Ok tt
tested c = sym c.append_test.ensures ∙ c.in_ok-append_test.was

pub returns-in_err-append_test : goal.returns-in_err-append_test
unfolding append
returns-in_err-append_test c = rw (handed c.from_residual.ensures.1) (put_refused _ _ c.append_test.ensures c.in_err-append_test.was)

pub overflow_add-nrows : goal.overflow_add-nrows
overflow_add-nrows c = let few = append-small c.args.p (seen c.args.matrix) (seen c.args.other) (tested (goal.at.overflow_add-nrows c).In_ok-append_test) in
    omega arith

pub returns-in_err-room_test : goal.returns-in_err-room_test
unfolding append
returns-in_err-room_test c = rw (handed c.from_residual-in_err-room_test.ensures.1) (let good = tested (goal.at.returns-in_err-room_test c).In_ok-append_test in
    put_no_room _ _ good (append-sized c.args.p (seen c.args.matrix) (seen c.args.other) good) c.room_test.ensures c.in_err-room_test.was)

pub write_rows-requires : goal.write_rows-requires
write_rows-requires c = append-fits c.args.p (seen c.args.matrix) (seen c.args.other) (tested (goal.at.write_rows-requires c).In_ok-append_test) _ c.room_test.ensures c.in_ok-room_test.was

pub returns : goal.returns
unfolding append rows_of rows_in
returns c = let good = tested (goal.at.returns c).In_ok-append_test in
    put_made _ _ good (append-sized c.args.p (seen c.args.matrix) (seen c.args.other) good) c.room_test.ensures c.in_ok-room_test.was c.write_rows.ensures
