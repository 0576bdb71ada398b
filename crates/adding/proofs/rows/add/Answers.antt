-- `add` meets its contract: refused by its tests, for want of room, or taken.
-- Assumes nothing.
use mathlib.Core.Path.{sym, ◌∙◌}
use Rattle.sparse.proofs.Firsts.{handed}
use Rattle.adding.proofs.Takes.{add_same, add_takeable, add_refused, add_no_room, add_answered}
use Rattle.adding.proofs.rows.add.Goals as goal

pub returns-in_err-add_row_test : goal.returns-in_err-add_row_test
returns-in_err-add_row_test c = rw (handed c.from_residual.ensures.1) (add_refused _ _ _ _ _ c.add_row_test.ensures c.in_err-add_row_test.was)

pub room_asked-requires : goal.room_asked-requires
room_asked-requires c = add_same _ _ _ _ (sym c.add_row_test.ensures ∙ c.in_ok-add_row_test.was)

pub returns-in_err-room_asked : goal.returns-in_err-room_asked
returns-in_err-room_asked c = rw (handed c.from_residual-in_err-room_asked.ensures.1) (add_no_room _ _ _ _ _ c.add_row_test.ensures c.in_ok-add_row_test.was c.room_asked.ensures c.in_err-room_asked.was)

pub take-requires : goal.take-requires
take-requires c = add_takeable _ _ _ _ (sym c.add_row_test.ensures ∙ c.in_ok-add_row_test.was) (sym c.room_asked.ensures ∙ c.in_ok-room_asked.was)

pub returns : goal.returns
returns c = add_answered _ _ _ _ _ c.add_row_test.ensures c.in_ok-add_row_test.was c.room_asked.ensures c.in_ok-room_asked.was c.take.ensures
