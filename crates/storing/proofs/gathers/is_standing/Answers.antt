-- `is_standing` meets its contract, variant by variant.
-- Assumes nothing.
use mathlib.Core.Path.{ap}
use mathlib.Core.Bool.{not, and-true}
use borrow.Author.Tests.{ne_eqb}
use Rattle.storing.specs.Gathers.{stands}
use Rattle.storing.proofs.Gathering.{stands_zero}
use Rattle.storing.proofs.gathers.is_standing.Goals as goal

pub returns-then-dense-col-eq0 : goal.returns-then-dense-col-eq0
returns-then-dense-col-eq0 c = stands_zero c.args.part _ _ _ _ c.if-dense-col-eq0.true

pub returns-in-Row : goal.returns-in-Row
unfolding stands
returns-in-Row c = rw (c.in-Row.is, ne_eqb _ _ c.if-dense-col-eq0.false, and-true) c.is_over-pivoted.ensures

pub returns-in-Multiple : goal.returns-in-Multiple
unfolding stands
returns-in-Multiple c = rw (c.in-Multiple.is, ne_eqb _ _ c.if-dense-col-eq0.false, and-true) c.is_over-pivoted.ensures

pub returns-in-Column : goal.returns-in-Column
unfolding stands
returns-in-Column c = rw (c.in-Column.is, ne_eqb _ _ c.if-dense-col-eq0.false, and-true) (ap not c.is_over-pivoted.ensures)
