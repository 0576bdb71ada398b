-- `take_row` meets its contract: refused for want of room, or taken.
-- Assumes nothing.
use mathlib.Core.Path.{sym, ◌∙◌}
use Rattle.sparse.proofs.Firsts.{handed}
use Rattle.running.proofs.Nexts.{offers_ready, offers_refused, offers_taken}
use Rattle.running.proofs.rows.take_row.Goals as goal

pub returns-in_err-room_asked : goal.returns-in_err-room_asked
returns-in_err-room_asked c = rw (handed c.from_residual.ensures.1) (offers_refused c.requires _ c.room_asked.ensures c.in_err-room_asked.was)

pub step_row-requires : goal.step_row-requires
step_row-requires c = offers_ready c.requires (sym c.room_asked.ensures ∙ c.in_ok-room_asked.was)

pub returns : goal.returns
returns c = offers_taken c.requires _ c.room_asked.ensures c.in_ok-room_asked.was c.step_row.ensures
