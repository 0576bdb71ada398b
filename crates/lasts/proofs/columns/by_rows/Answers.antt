-- `by_rows` meets its contract: past the tests each row is a source.
-- Assumes nothing.
use Rattle.sparse.proofs.Firsts.{handed}
use Rattle.std.specs.Prelude.{Ok}
use mathlib.Core.Path.{◌≡◌, refl, sym, ◌∙◌}
use Rattle.sparse.specs.Matrix.{seen}
use Rattle.sparse.specs.Tests.{well_formed}
use Rattle.lasts.proofs.Vectors.{vector_refused, vector_same}
use Rattle.lasts.proofs.Ways.{rows_sourced}
use Rattle.lasts.proofs.columns.by_rows.Goals as goal
use Rattle.lasts.proofs.columns.by_rows.Goals.{In_ok-well_formed}

-- past the tests: they found nothing
formed : (c : In_ok-well_formed) → let a = c.args in well_formed 65536 a.p (seen a.matrix) ≡ Ok tt
formed c = sym c.well_formed-2.ensures ∙ c.in_ok-well_formed.was

pub returns-in_err-well_formed : goal.returns-in_err-well_formed
returns-in_err-well_formed c = rw (handed c.from_residual.ensures.1) (vector_refused _ _ c.well_formed-2.ensures c.in_err-well_formed.was)

pub gather-requires : goal.gather-requires
gather-requires c = rows_sourced _ _ _ _ (formed (goal.at.gather-requires c).In_ok-well_formed) c.requires

pub returns : goal.returns
returns c = vector_same _ _ (sym (formed (goal.at.returns c).In_ok-well_formed)) refl c.gather.ensures
