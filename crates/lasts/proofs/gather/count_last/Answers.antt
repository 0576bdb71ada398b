-- `count_last` meets its contract. The loop's invariant: the indices before k are counted.
use Rattle.sparse.specs.Matrix.{seen}
use Rattle.lasts.specs.Asks.{At}
use Rattle.lasts.specs.Gathers.{gathered}
use Rattle.lasts.proofs.Gathering.{tally_none, tally_one, tally_skip, tally_all}
use Rattle.lasts.proofs.Sources.{taken_many, one_of, found_one, found_none}
use Rattle.lasts.proofs.gather.count_last.Goals as goal
use Rattle.lasts.proofs.gather.count_last.Goals.{In-loop-k, in-Some, in_default}

-- index k is one of them
at_index : (c : In-loop-k) → let a = c.args in At a.order (seen a.matrix) a.pivots.now c.loop-k.k
at_index c = record { from = c.requires; within = rw (← c.indices-size.ensures) c.loop-k-test.true }

pub indices-size-requires : goal.indices-size-requires
indices-size-requires c = c.requires.few

pub loop-k-init : goal.loop-k-init
loop-k-init c = tally_none _

pub last_at-last-requires : goal.last_at-last-requires
last_at-last-requires c = at_index (goal.at.last_at-last-requires c).In-loop-k

pub loop-k-preserved : goal.loop-k-preserved
loop-k-preserved c =
    let here = at_index (goal.at.loop-k-preserved c).In-loop-k in
    elim c.match-last.branch [
      | in-Some w ↦ rw w.found-is (tally_one _ _ _ c.loop-k.invariant (one_of here) (found_one here c.last_at-last.ensures w.in-Some.is))
      | in_default w ↦ rw w.found-is (tally_skip _ _ _ c.loop-k.invariant (one_of here) (found_none here c.last_at-last.ensures w.in_default.is))
    ]

pub returns : goal.returns
unfolding gathered
returns c = tally_all _ _ _ c.loop-k.invariant (rw (taken_many, ← c.indices-size.ensures) c.loop-k-test.false)
