-- A state, taken apart and put together: its parts pass the test again, and U's rows stand one by one.
-- Assumes nothing.
use Rattle.std.specs.Prelude.{Ok}
use mathlib.Core.Path.{◌≡◌}
use Rattle.sparse.specs.Refusals.{refuse}
use Rattle.state.specs.Memory.{Memory}
use Rattle.state.specs.State.{u_of, state_test}
use Rattle.state.specs.declared.Counts.{Counts}
use Rattle.walk.specs.Step as S
use Rattle.stepping.specs.Asks.{Stands}
use Rattle.stepping.specs.Take.{Lists}
use Rattle.stepping.proofs.Room.{Parts}
use Rattle.stepping.proofs.Walks.{parts, heads}
use Rattle.keeping.proofs.Uppers.{Upright, state_upright}

-- U in memory, as a row meets it
abbrev pub rows_in : Memory → S.Upper
rows_in m = S.upper m.u_cols m.u_vals m.u_ptrs m.pivots

-- 13 finds nothing where none of its parts does
pub parts_state : {c : Counts} {m : Memory} → Parts c m → state_test c m ≡ Ok tt
unfolding state_test u_of refuse
parts_state p = rw (p.lost, p.fault, p.multipliers)

pub stands_upright : (c : Counts) (o : Lists) (s : Stands c o) → Upright c.modulus c.ncols c.rank c.u_fill o.memory.u_cols o.memory.u_vals o.memory.u_ptrs (heads c o s)
unfolding heads
stands_upright c o s = state_upright c.modulus c.ncols c.rank c.u_fill o.memory.u_cols o.memory.u_vals o.memory.u_ptrs o.memory.pivots s.opened (parts c o s).lost (parts c o s).fault
