-- `gather` meets its contract: 14 is decided by the count, before anything is written.
-- Assumes nothing.
use mathlib.Core.Path.{sym, ◌∙◌}
use native.Mathlib.Omega.{arith}
use Rattle.sparse.proofs.Firsts.{handed}
use Rattle.readers.proofs.LastRows.{room_fits}
use Rattle.lasts.proofs.Vectors.{vector_no_room, vector_made}
use Rattle.lasts.proofs.gather.gather.Goals as goal

pub returns-in_err-vector_room_test : goal.returns-in_err-vector_room_test
returns-in_err-vector_room_test c = rw (handed c.from_residual.ensures.1) (vector_no_room _ _ c.count_last-entries.ensures c.vector_room_test.ensures c.in_err-vector_room_test.was)

pub write_last-requires : goal.write_last-requires
write_last-requires c = let many = c.count_last-entries.ensures in
    let fits = room_fits _ _ (sym c.vector_room_test.ensures ∙ c.in_ok-vector_room_test.was) in
    record { from = c.requires; indices = omega (arith, many, fits.0); numbers = omega (arith, many, fits.1) }

pub returns : goal.returns
returns c = vector_made _ _ c.count_last-entries.ensures c.vector_room_test.ensures c.in_ok-vector_room_test.was c.write_last.ensures
