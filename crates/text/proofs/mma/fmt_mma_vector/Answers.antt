-- `mma::fmt_mma_vector` meets its contract: a vector is tested, counted and then written.
-- Assumes nothing.
use mathlib.Core.Path.{sym, ◌∙◌}
use Rattle.sparse.proofs.Firsts.{handed}
use Rattle.text.specs.Mma.{fmt_mma_vector}
use Rattle.text.proofs.Texts.{vector_ask, refused_tests, refused_room, printed}
use Rattle.text.proofs.mma.fmt_mma_vector.Goals as goal

pub returns-in_err-try_from_csr_vector : goal.returns-in_err-try_from_csr_vector
unfolding fmt_mma_vector
returns-in_err-try_from_csr_vector c = rw (handed c.from_residual.ensures.1) (refused_tests _ c.try_from_csr_vector.ensures c.in_err-try_from_csr_vector.was)

pub put_vector-bytes-requires : goal.put_vector-bytes-requires
put_vector-bytes-requires c = vector_ask _ _ _ _ (sym c.try_from_csr_vector.ensures ∙ c.in_ok-try_from_csr_vector.was)

pub returns-in_err-room_test : goal.returns-in_err-room_test
unfolding fmt_mma_vector
returns-in_err-room_test c = rw (handed c.from_residual-in_err-room_test.ensures.1) (refused_room _ c.try_from_csr_vector.ensures c.in_ok-try_from_csr_vector.was c.put_vector-bytes.ensures
    c.room_test.ensures c.in_err-room_test.was)

pub put_vector-requires : goal.put_vector-requires
put_vector-requires c = vector_ask _ _ _ _ (sym c.try_from_csr_vector.ensures ∙ c.in_ok-try_from_csr_vector.was)

pub returns : goal.returns
unfolding fmt_mma_vector
returns c = printed _ c.try_from_csr_vector.ensures c.in_ok-try_from_csr_vector.was c.put_vector-bytes.ensures
    c.room_test.ensures c.in_ok-room_test.was c.put_vector.ensures
