-- `from_triplets` meets its contract: a refusal leaves the memory as it came, and what passes is written.
-- Assumes nothing.
use Rattle.sparse.proofs.Firsts.{handed}
use Rattle.std.specs.Prelude.{Ok}
use mathlib.Core.Path.{◌≡◌, sym, ap, ◌∙◌}
use lib.ListN.{length}
use Rattle.sparse.specs.Lent.{lent, room_test, outcome, unless}
use Rattle.sparse.specs.Refusals.{◌else◌, lowest}
use Rattle.triplets.specs.Triplets.{triplets_test, from_triplets}
use Rattle.triplets.proofs.Passed.{writable}
use Rattle.triplets.proofs.from_triplets.Goals as goal
use Rattle.triplets.proofs.from_triplets.Goals.{In_ok-triplets_test, In_ok-room_test}

tested : (c : In_ok-triplets_test) → let a = c.args in triplets_test a.p a.nrows a.ncols a.rows.now a.cols.now a.vals.now ≡ Ok tt
tested c = sym c.triplets_test.ensures ∙ c.in_ok-triplets_test.was

roomy : (c : In_ok-room_test) → let a = c.args in room_test a.nrows (length a.vals.now) (lent a.row_ptrs.now a.col_idcs.now a.values.now) ≡ Ok tt
roomy c = sym c.room_test.ensures ∙ c.in_ok-room_test.was

pub returns-in_err-triplets_test : goal.returns-in_err-triplets_test
unfolding from_triplets unless lowest ◌else◌
returns-in_err-triplets_test c = rw (handed c.from_residual.ensures.1) (rw (← c.triplets_test.ensures, c.in_err-triplets_test.was))

pub returns-in_err-room_test : goal.returns-in_err-room_test
unfolding from_triplets unless lowest ◌else◌
returns-in_err-room_test c = rw (handed c.from_residual-in_err-room_test.ensures.1) (rw (tested (goal.at.returns-in_err-room_test c).In_ok-triplets_test, ← c.room_test.ensures, c.in_err-room_test.was))

pub write_triplets-requires : goal.write_triplets-requires
write_triplets-requires c = writable _ _ _ _ _ _ _ (tested (goal.at.write_triplets-requires c).In_ok-triplets_test) (roomy (goal.at.write_triplets-requires c).In_ok-room_test)

pub returns : goal.returns
unfolding from_triplets unless lowest ◌else◌
returns c = rw (tested (goal.at.returns c).In_ok-triplets_test, roomy (goal.at.returns c).In_ok-room_test) (ap (outcome (Ok _)) c.write_triplets.ensures)
