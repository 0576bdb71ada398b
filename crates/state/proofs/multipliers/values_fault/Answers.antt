-- `values_fault` meets its contract: each `return` goes by the parts of the test before it.
-- Assumes nothing.
use Rattle.std.specs.Prelude.{is_err}
use mathlib.Core.Path.{ap, ◌∙◌}
use borrow.Author.Tests.{lt-ltb, le-ltb}
use Rattle.state.specs.Memory.{places}
use Rattle.state.specs.State.{values_fault}
use Rattle.state.proofs.Faults.{taken_places, found}
use Rattle.state.proofs.multipliers.values_fault.Goals as goal

pub returns-then-places-fill : goal.returns-then-places-fill
unfolding values_fault places
returns-then-places-fill c = rw (← c.places.ensures, lt-ltb _ _ c.if-places-fill.true)

pub slice_bounds-values_test-end : goal.slice_bounds-values_test-end
slice_bounds-values_test-end c = taken_places _ c.places.ensures c.if-places-fill.false

pub returns-then-is_err : goal.returns-then-is_err
unfolding values_fault places
returns-then-is_err c = rw (← c.places.ensures, le-ltb _ _ c.if-places-fill.false, found c.values_test.ensures c.is_err.ensures.value c.if-is_err.true)

pub slice_bounds-values_test-end-2 : goal.slice_bounds-values_test-end-2
slice_bounds-values_test-end-2 c = taken_places _ c.places.ensures c.if-places-fill.false

pub returns : goal.returns
unfolding values_fault places
returns c = rw (← c.places.ensures, le-ltb _ _ c.if-places-fill.false, found c.values_test.ensures c.is_err.ensures.value c.if-is_err.false) (c.is_err-2.ensures.value ∙ ap is_err c.values_test-2.ensures)
