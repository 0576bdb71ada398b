-- `room_asked` meets its contract: step 1 needs none.
-- Assumes nothing.
use Rattle.stepping.proofs.Walks.{not_asked, asked}
use Rattle.stepping.proofs.rows.room_asked.Goals as goal

pub returns-then-is_at_once : goal.returns-then-is_at_once
returns-then-is_at_once c = not_asked _ _ _ _ c.requires c.is_at_once.ensures c.if-is_at_once.true

pub returns : goal.returns
returns c = asked _ _ _ _ c.requires c.is_at_once.ensures c.if-is_at_once.false c.room_test.ensures
