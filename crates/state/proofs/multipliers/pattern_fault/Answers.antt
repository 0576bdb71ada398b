-- `pattern_fault` meets its contract: each `return` goes by the parts of the test before it.
-- Assumes nothing.
use mathlib.Core.Path.{sym, ◌∙◌}
use native.Mathlib.Omega.{arith}
use borrow.Author.Tests.{le-leb, lt-leb, lt-ltb, le-ltb}
use Rattle.state.specs.Memory.{places}
use Rattle.state.specs.State.{pattern_fault}
use Rattle.state.proofs.Faults.{held}
use Rattle.state.proofs.multipliers.pattern_fault.Goals as goal

pub returns-then-places-rows : goal.returns-then-places-rows
unfolding pattern_fault places
returns-then-places-rows c = rw (← c.places.ensures, le-leb _ _ c.if-places-rows.true)

pub returns-then-places-fill : goal.returns-then-places-fill
unfolding pattern_fault places
returns-then-places-fill c = rw (← c.places.ensures, lt-leb _ _ c.if-places-rows.false, ← c.places-2.ensures, lt-ltb _ _ c.if-places-fill.true)

pub is_crooked-requires : goal.is_crooked-requires
is_crooked-requires c = omega (arith, held c.places.ensures, c.if-places-rows.false)

pub returns-then-is_crooked : goal.returns-then-is_crooked
unfolding pattern_fault places
returns-then-is_crooked c = rw (← c.places.ensures, lt-leb _ _ c.if-places-rows.false, ← c.places-2.ensures, le-ltb _ _ c.if-places-fill.false, sym c.is_crooked.ensures ∙ c.if-is_crooked.true)

pub some_above-requires : goal.some_above-requires
some_above-requires c = omega (arith, held c.places-2.ensures, c.if-places-fill.false)

pub returns : goal.returns
unfolding pattern_fault places
returns c = rw (← c.places.ensures, lt-leb _ _ c.if-places-rows.false, ← c.places-2.ensures, le-ltb _ _ c.if-places-fill.false, sym c.is_crooked.ensures ∙ c.if-is_crooked.false) c.some_above.ensures
