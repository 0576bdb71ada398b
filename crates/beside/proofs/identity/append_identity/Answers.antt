-- `append_identity` meets its contract: a refusal leaves the memory as it came, and what passes is written.
-- Assumes nothing.
use Rattle.sparse.proofs.Firsts.{handed}
use Rattle.std.specs.Prelude.{Ok}
use mathlib.Core.Path.{◌≡◌, sym, ◌∙◌}
use Rattle.sparse.specs.Matrix.{seen}
use Rattle.writing.proofs.Puttings.{put_refused, put_no_room, put_made}
use Rattle.beside.specs.Beside.{append_identity, append_identity_test}
use Rattle.beside.proofs.Passed.{ones_laid, ones_fit}
use Rattle.beside.proofs.Sizes.{ones_sized}
use Rattle.beside.proofs.identity.append_identity.Goals as goal
use Rattle.beside.proofs.identity.append_identity.Goals.{In_ok-append_identity_test}

tested : (c : In_ok-append_identity_test) → append_identity_test c.args.p (seen c.args.matrix) ≡ Ok tt
tested c = sym c.append_identity_test.ensures ∙ c.in_ok-append_identity_test.was

pub returns-in_err-append_identity_test : goal.returns-in_err-append_identity_test
unfolding append_identity
returns-in_err-append_identity_test c = rw (handed c.from_residual.ensures.1) (put_refused _ _ c.append_identity_test.ensures c.in_err-append_identity_test.was)

pub returns-in_err-room_test : goal.returns-in_err-room_test
unfolding append_identity
returns-in_err-room_test c = rw (handed c.from_residual-in_err-room_test.ensures.1) (let good = tested (goal.at.returns-in_err-room_test c).In_ok-append_identity_test in
    put_no_room _ _ good (ones_sized _ (ones_laid _ _ good)) c.room_test.ensures c.in_err-room_test.was)

pub write_identity-requires : goal.write_identity-requires
write_identity-requires c = ones_fit _ _ (tested (goal.at.write_identity-requires c).In_ok-append_identity_test) _ c.room_test.ensures c.in_ok-room_test.was

pub returns : goal.returns
unfolding append_identity
returns c = let good = tested (goal.at.returns c).In_ok-append_identity_test in
    put_made _ _ good (ones_sized _ (ones_laid _ _ good)) c.room_test.ensures c.in_ok-room_test.was c.write_identity.ensures
