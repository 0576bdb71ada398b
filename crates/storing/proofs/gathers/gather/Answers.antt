-- `gather` meets its contract. The loop's invariant: what stands below `col` is written.
-- Assumes nothing.
use mathlib.Core.Path.{sym, ap₂, ◌∙◌}
use native.Mathlib.Omega.{arith}
use Rattle.storing.specs.Gathers.{gathered}
use Rattle.storing.specs.Counted.{counted}
use Rattle.storing.proofs.Gathering.{gathered_none, gathered_miss, gathered_slot, gathered_hit, gathered_all}
use Rattle.storing.proofs.gathers.gather.Goals as goal
use Rattle.storing.proofs.gathers.gather.Goals.{then-is_standing, else-is_standing}

pub loop-col-init : goal.loop-col-init
loop-col-init c = gathered_none _ _ _ _ c.requires.before

pub is_standing-requires : goal.is_standing-requires
is_standing-requires c = record { narrow = omega (arith, c.loop-col-test.true, c.requires.narrow); column = omega (arith, c.loop-col-test.true, c.requires.columns); pivot = omega (arith, c.loop-col-test.true, c.requires.table) }

pub telling-requires : goal.telling-requires
telling-requires c = record { narrow = omega (arith, c.loop-col-test.true, c.requires.narrow); column = omega (arith, c.loop-col-test.true, c.requires.columns); pivot = omega (arith, c.loop-col-test.true, c.requires.table) }

pub offset_bounds-out-len : goal.offset_bounds-out-len
unfolding gathered
offset_bounds-out-len c = omega (arith, gathered_slot _ _ _ _ c.loop-col.invariant c.loop-col-test.true c.requires.room (sym c.is_standing.ensures ∙ c.if-is_standing.true))

pub bounds-out-len : goal.bounds-out-len
unfolding gathered
bounds-out-len c = omega (arith, gathered_slot _ _ _ _ c.loop-col.invariant c.loop-col-test.true c.requires.room (sym c.is_standing.ensures ∙ c.if-is_standing.true))

pub overflow_add-len : goal.overflow_add-len
unfolding gathered
overflow_add-len c = omega (arith, gathered_slot _ _ _ _ c.loop-col.invariant c.loop-col-test.true c.requires.room (sym c.is_standing.ensures ∙ c.if-is_standing.true))

pub loop-col-preserved : goal.loop-col-preserved
unfolding gathered
loop-col-preserved c =
    elim c.if-is_standing.branch [
      | then-is_standing w ↦ rw (w.out-is, w.len-is) (gathered_hit _ _ _ _ c.loop-col.invariant c.loop-col-test.true c.requires.room (sym c.is_standing.ensures ∙ w.if-is_standing.true) w.telling.ensures)
      | else-is_standing w ↦ rw (w.out-is, w.len-is) (gathered_miss _ _ _ _ c.loop-col.invariant c.loop-col-test.true (sym c.is_standing.ensures ∙ w.if-is_standing.false))
    ]

pub returns : goal.returns
unfolding gathered
returns c = let h = gathered_all _ _ _ _ c.loop-col.invariant (omega (arith, c.loop-col-test.false, c.requires.rises)) in ap₂ counted h.0 h.1
