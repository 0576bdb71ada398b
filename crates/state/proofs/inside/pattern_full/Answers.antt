-- `pattern_full` meets its contract: each `return` goes by the parts of the clause before it.
-- Assumes nothing.
use borrow.Author.Tests.{le-leb, lt-leb}
use Rattle.state.specs.Memory.{places}
use Rattle.state.specs.Room.{pattern_full}
use Rattle.state.proofs.Rooms.{leb_left, ltb_one}
use Rattle.state.proofs.inside.pattern_full.Goals as goal

pub returns-then-free-rank : goal.returns-then-free-rank
unfolding pattern_full places
returns-then-free-rank c = rw (ltb_one, ← c.free.ensures, le-leb _ _ c.if-free-rank.true)

pub returns : goal.returns
unfolding pattern_full places
returns c = rw (ltb_one, ← c.free.ensures, lt-leb _ _ c.if-free-rank.false, ← leb_left _ _ 1, c.free-2.ensures)
