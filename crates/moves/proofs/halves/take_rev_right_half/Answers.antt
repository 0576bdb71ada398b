-- `take_rev_right_half` meets its contract: a refusal leaves the memory as it came, and what passes is written.
-- Assumes nothing.
use Rattle.sparse.proofs.Firsts.{handed}
use Rattle.std.specs.Prelude.{Ok}
use mathlib.Core.Path.{◌≡◌, sym, ◌∙◌}
use Rattle.sparse.specs.Matrix.{seen}
use Rattle.writing.proofs.Puttings.{put_refused, put_no_room, put_made}
use Rattle.moves.specs.Moves.{half, take_rev_test, take_rev_right_half}
use Rattle.moves.proofs.HalfRows.{half_sized, half_rows, half_fits}
use Rattle.moves.proofs.halves.take_rev_right_half.Goals as goal
use Rattle.moves.proofs.halves.take_rev_right_half.Goals.{In_ok-take_rev_test}

tested : (c : In_ok-take_rev_test) → take_rev_test c.args.p (seen c.args.matrix) ≡ Ok tt
tested c = sym c.take_rev_test.ensures ∙ c.in_ok-take_rev_test.was

pub returns-in_err-take_rev_test : goal.returns-in_err-take_rev_test
unfolding take_rev_right_half
returns-in_err-take_rev_test c = rw (handed c.from_residual.ensures.1) (put_refused _ _ c.take_rev_test.ensures c.in_err-take_rev_test.was)

pub returns-in_err-room_test : goal.returns-in_err-room_test
unfolding take_rev_right_half half
returns-in_err-room_test c = rw (handed c.from_residual-in_err-room_test.ensures.1) (let good = tested (goal.at.returns-in_err-room_test c).In_ok-take_rev_test in
    put_no_room _ _ good (half_sized _ _ good c.count_from-entries.ensures) c.room_test.ensures c.in_err-room_test.was)

pub write_right-requires : goal.write_right-requires
unfolding half
write_right-requires c = half_fits _ _ (tested (goal.at.write_right-requires c).In_ok-take_rev_test) _ c.count_from-entries.ensures c.room_test.ensures c.in_ok-room_test.was

pub returns : goal.returns
unfolding take_rev_right_half half
returns c = let good = tested (goal.at.returns c).In_ok-take_rev_test in
    put_made _ _ good (half_sized _ _ good c.count_from-entries.ensures) c.room_test.ensures c.in_ok-room_test.was (rw (half_rows _ _ good) at c.write_right.ensures)
