-- `is_one` meets its contract: each `return` goes by the tests before it.
-- Assumes nothing.
use Rattle.sparse.proofs.Firsts.{handed}
use Rattle.std.specs.Prelude.{Ok}
use mathlib.Core.Path.{◌≡◌, sym, ◌∙◌}
use borrow.Author.Tests.{eq-eqb, ne_eqb}
use Rattle.sparse.specs.Matrix.{seen}
use Rattle.sparse.specs.Tests.{well_formed}
use Rattle.readers.specs.Readers.{is_identity, judged, is_one}
use Rattle.readers.proofs.Identities.{formed_readable}
use Rattle.readers.proofs.identity.is_one.Goals as goal
use Rattle.readers.proofs.identity.is_one.Goals.{In_ok-well_formed}

-- past the tests: they found nothing
formed : (c : In_ok-well_formed) → let a = c.args in well_formed 65536 a.p (seen a.matrix) ≡ Ok tt
formed c = sym c.well_formed-2.ensures ∙ c.in_ok-well_formed.was

pub returns-in_err-well_formed : goal.returns-in_err-well_formed
unfolding is_one judged
returns-in_err-well_formed c = rw (handed c.from_residual.ensures.1) (rw (← c.well_formed-2.ensures, c.in_err-well_formed.was))

pub returns-then-nrows-ncols : goal.returns-then-nrows-ncols
unfolding is_one judged is_identity
returns-then-nrows-ncols c = rw (formed (goal.at.returns-then-nrows-ncols c).In_ok-well_formed, ne_eqb _ _ c.if-nrows-ncols.true)

pub some_row_off-requires : goal.some_row_off-requires
some_row_off-requires c = record { whole = formed_readable 65536 _ _ (formed (goal.at.some_row_off-requires c).In_ok-well_formed); same = c.if-nrows-ncols.false }

pub returns : goal.returns
unfolding is_one judged is_identity
returns c = rw (formed (goal.at.returns c).In_ok-well_formed, eq-eqb _ _ c.if-nrows-ncols.false, ← c.some_row_off.ensures)
