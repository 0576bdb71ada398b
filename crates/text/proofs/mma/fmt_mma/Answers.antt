-- `mma::fmt_mma` meets its contract: a matrix is tested, counted and then written.
-- Assumes nothing.
use mathlib.Core.Path.{sym, ◌∙◌}
use Rattle.sparse.proofs.Firsts.{handed}
use Rattle.text.specs.Mma.{fmt_mma}
use Rattle.text.proofs.Texts.{matrix_ask, refused_tests, refused_room, printed}
use Rattle.text.proofs.mma.fmt_mma.Goals as goal

pub returns-in_err-try_from_csr : goal.returns-in_err-try_from_csr
unfolding fmt_mma
returns-in_err-try_from_csr c = rw (handed c.from_residual.ensures.1) (refused_tests _ c.try_from_csr.ensures c.in_err-try_from_csr.was)

pub put_matrix-bytes-requires : goal.put_matrix-bytes-requires
put_matrix-bytes-requires c = matrix_ask _ _ (sym c.try_from_csr.ensures ∙ c.in_ok-try_from_csr.was)

pub returns-in_err-room_test : goal.returns-in_err-room_test
unfolding fmt_mma
returns-in_err-room_test c = rw (handed c.from_residual-in_err-room_test.ensures.1) (refused_room _ c.try_from_csr.ensures c.in_ok-try_from_csr.was c.put_matrix-bytes.ensures
    c.room_test.ensures c.in_err-room_test.was)

pub put_matrix-requires : goal.put_matrix-requires
put_matrix-requires c = matrix_ask _ _ (sym c.try_from_csr.ensures ∙ c.in_ok-try_from_csr.was)

pub returns : goal.returns
unfolding fmt_mma
returns c = printed _ c.try_from_csr.ensures c.in_ok-try_from_csr.was c.put_matrix-bytes.ensures
    c.room_test.ensures c.in_ok-room_test.was c.put_matrix.ensures
