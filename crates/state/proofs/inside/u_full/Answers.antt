-- `u_full` meets its contract: each `return` goes by the parts of the clause before it.
-- Assumes nothing.
use borrow.Author.Tests.{lt-ltb, le-ltb}
use Rattle.state.specs.Memory.{places}
use Rattle.state.specs.Room.{u_full}
use Rattle.state.proofs.Rooms.{leb_left}
use Rattle.state.proofs.inside.u_full.Goals as goal

pub returns-then-free-ncols : goal.returns-then-free-ncols
unfolding u_full places
returns-then-free-ncols c = rw (← c.free.ensures, lt-ltb _ _ c.if-free-ncols.true)

pub returns-then-free-ncols-2 : goal.returns-then-free-ncols-2
unfolding u_full places
returns-then-free-ncols-2 c = rw (← c.free.ensures, le-ltb _ _ c.if-free-ncols.false, ← c.free-2.ensures, lt-ltb _ _ c.if-free-ncols-2.true)

pub returns : goal.returns
unfolding u_full places
returns c = rw (← c.free.ensures, le-ltb _ _ c.if-free-ncols.false, ← c.free-2.ensures, le-ltb _ _ c.if-free-ncols-2.false, ← leb_left _ _ 1, c.free-3.ensures)
