-- What telling a text's report asks for.
use Rattle.std.specs.Prelude.{◌≡◌, List, ℕ, Ok}
use Rattle.market.specs.declared.lines.Numbers.{Numbers}
use Rattle.reporting.specs.Said.{Passed}
use Rattle.report.specs.Work.{Work, work_test}

-- a text that passed its tests, by its size line, and memory that isn't too short
pub record Tellable (text : List ℕ) (size : Numbers) (w : Work) : Type 0 where
  pub passed : Passed text size
  pub room : work_test w ≡ Ok tt
