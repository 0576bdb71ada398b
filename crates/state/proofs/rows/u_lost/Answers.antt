-- `u_lost` meets its contract: each `return` goes by the parts of the clause before it.
-- Assumes nothing.
use borrow.Author.Tests.{le-leb, lt-leb, lt-ltb, le-ltb}
use Rattle.state.specs.Memory.{places}
use Rattle.state.specs.State.{u_lost}
use Rattle.state.proofs.rows.u_lost.Goals as goal

pub returns-then-places-rank : goal.returns-then-places-rank
unfolding u_lost places
returns-then-places-rank c = rw (← c.places.ensures, le-leb _ _ c.if-places-rank.true)

pub returns-then-places-fill : goal.returns-then-places-fill
unfolding u_lost places
returns-then-places-fill c = rw (← c.places.ensures, lt-leb _ _ c.if-places-rank.false, ← c.places-2.ensures, lt-ltb _ _ c.if-places-fill.true)

pub returns : goal.returns
unfolding u_lost places
returns c = rw (← c.places.ensures, lt-leb _ _ c.if-places-rank.false, ← c.places-2.ensures, le-ltb _ _ c.if-places-fill.false, c.places-3.ensures)
