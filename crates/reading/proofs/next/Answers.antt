-- `next` meets its contract: what `step_at` answers is read, and its place is the reader's next one.
use Rattle.reading.specs.Read.{next_of}
use Rattle.reading.proofs.next.Goals as goal

pub returns : goal.returns
unfolding next_of
returns c = rw (← c.step_at-step.ensures)
