-- `gather` meets its contract. The loop's invariant: what stands below `col` is written.
-- Assumes nothing.
use Rattle.storing.specs.Gathers.{stands, told}
use Rattle.storing.proofs.Gathering.{Gathered}
use Rattle.storing.proofs.gathers.gather.Given as goal

abbrev pub invariant-loop-col : goal.invariant-loop-col
invariant-loop-col l = Gathered (stands l.part l.pivots l.dense l.limit) (told l.part l.pivots l.dense) l.initial.out l.out l.len l.col
