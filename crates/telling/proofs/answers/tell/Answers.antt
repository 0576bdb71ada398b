-- `tell` meets its contract: the pivot column is written, or None's number.
-- Assumes nothing.
use Rattle.std.specs.Option.{unwrap_or}
use Rattle.std.specs.Prelude.{Some, None}
use mathlib.Core.Path.{◌≡◌, refl}
use Rattle.walk.specs.Step.{Answer}
use Rattle.telling.specs.Answers.{none, number}
use Rattle.telling.proofs.answers.tell.Goals as goal

numbered : (a : Answer) → unwrap_or a 4294967295 ≡ number a
unfolding number none
numbered (Some c) = refl
numbered None = refl

pub returns-then-at-answers : goal.returns-then-at-answers
returns-then-at-answers c = rw (c.unwrap_or.ensures, numbered c.args.answer)
