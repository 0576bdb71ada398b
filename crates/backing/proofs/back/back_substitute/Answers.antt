-- `back_substitute` meets its contract: a refusal leaves all lent memory as it came, and what passes is built.
-- Assumes nothing.
use mathlib.Core.Path.{sym, ◌∙◌}
use lib.Seq.{length-take-le}
use Rattle.sparse.proofs.Firsts.{handed}
use Rattle.backing.proofs.Makes.{back_refused, back_made}
use Rattle.backing.proofs.Passed.{passed, passed_builds}
use Rattle.backing.proofs.back.back_substitute.Goals as goal

pub returns-in_err-back_test : goal.returns-in_err-back_test
returns-in_err-back_test c = rw (handed c.from_residual.ensures.1) (back_refused _ _ _ _ c.back_test.ensures c.in_err-back_test.was)

pub slice_bounds-front-end : goal.slice_bounds-front-end
slice_bounds-front-end c = (passed _ _ _ _ (sym c.back_test.ensures ∙ c.in_ok-back_test.was)).long

pub slice_bounds-front-end-2 : goal.slice_bounds-front-end-2
slice_bounds-front-end-2 c = sym (length-take-le _ _ (passed _ _ _ _ (sym c.back_test.ensures ∙ c.in_ok-back_test.was)).long)

pub build-fill-requires : goal.build-fill-requires
build-fill-requires c = passed_builds _ _ _ _ (passed _ _ _ _ (sym c.back_test.ensures ∙ c.in_ok-back_test.was)) _ c.wipe.ensures

pub returns : goal.returns
returns c = back_made _ _ _ _ c.back_test.ensures c.in_ok-back_test.was c.wipe.ensures c.build-fill.ensures c.back_counts.ensures
