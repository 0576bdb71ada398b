-- What a call of many rows has come to.
use Rattle.std.specs.Prelude.{ℕ, Bool, ◌&&◌, cond}
use Rattle.sparse.specs.declared.Refusal.{Refusal}
use Rattle.state.specs.declared.Counts.{Counts}
use Rattle.walk.specs.Step.{is_none, Answer}
use Rattle.telling.specs.declared.Reduced.{Reduced}
use Rattle.telling.specs.declared.Reduced.TheVariants.{Taken, Dependent}
use Rattle.telling.specs.declared.Run.{Run}
use Rattle.telling.specs.declared.Stop.{Stop}

-- how many rows were taken, and the counts after them
abbrev pub run : ℕ → Counts → Run
run k c = record { taken = k; counts = c }

abbrev pub stop : Refusal → Run → Stop
stop why r = record { why = why; run = r }

-- a call that checks for dependence ends at the first None; others go on
unfoldable pub ended : Bool → Answer → Run → Reduced
ended check a r = cond (check && is_none a) (Dependent r) (Taken r)
