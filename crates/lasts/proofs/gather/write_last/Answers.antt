-- `write_last` meets its contract. The loop's invariant: what goes to the indices before k is written.
use Prim.Native.Nat.{◌<◌}
use native.Mathlib.Omega.{arith}
use lib.ListN.{length}
use Rattle.sparse.specs.Lent.{lent_vector}
use Rattle.sparse.specs.Matrix.{seen}
use Rattle.lasts.specs.Asks.{At}
use Rattle.lasts.specs.Gathers.{taken, gathered}
use Rattle.lasts.proofs.Gathering.{Fits, tally_room, gathering_none, gathering_one, gathering_skip, gathering_all, idcs_keep, vals_keep}
use Rattle.lasts.proofs.Sources.{taken_many, one_of, found_one, found_none, room_for}
use Rattle.lasts.proofs.gather.write_last.Goals as goal
use Rattle.lasts.proofs.gather.write_last.Goals.{After-indices-size, In-Some, In-loop-k, in-Some, in_default}

-- index k is one of them
at_index : (c : In-loop-k) → let a = c.args in At a.order (seen a.matrix) a.pivots.now c.loop-k.k
at_index c = record { from = c.requires.from; within = rw (← c.indices-size.ensures) c.loop-k-test.true }

-- what is gathered fits
fits : (c : After-indices-size) → let a = c.args in Fits (taken a.order (seen a.matrix) a.pivots.now) (lent_vector a.out_idcs.now a.out_vals.now)
fits c = room_for c.requires

-- there is a place for the entry
place : (c : In-Some) → let l = c.loop-k in (l.at < length l.out_idcs) × (l.at < length l.out_vals)
place c = let inv = c.loop-k.invariant in
    let f = (room_for c.requires) in
    let i = (let it : let a = c.args in At a.order (seen a.matrix) a.pivots.now c.loop-k.k = record { from = c.requires.from; within = rw (← c.indices-size.ensures) c.loop-k-test.true } in it) in
    let room = tally_room _ _ _ inv.tally (one_of i) (found_one i c.last_at-last.ensures c.in-Some.is) in
    (omega (arith, room, f.indices, idcs_keep f inv), omega (arith, room, f.numbers, vals_keep f inv))

pub indices-size-requires : goal.indices-size-requires
indices-size-requires c = c.requires.from.few

pub loop-k-init : goal.loop-k-init
loop-k-init c = gathering_none _ _

pub last_at-last-requires : goal.last_at-last-requires
last_at-last-requires c = at_index (goal.at.last_at-last-requires c).In-loop-k

pub bounds-out_idcs-at : goal.bounds-out_idcs-at
bounds-out_idcs-at c = (place (goal.at.bounds-out_idcs-at c).In-Some).0

pub bounds-out_vals-at : goal.bounds-out_vals-at
bounds-out_vals-at c = (place (goal.at.bounds-out_vals-at c).In-Some).1

pub loop-k-preserved : goal.loop-k-preserved
loop-k-preserved c =
    let here = at_index (goal.at.loop-k-preserved c).In-loop-k in
    let room = fits (goal.at.loop-k-preserved c).After-indices-size in
    elim c.match-last.branch [
      | in-Some w ↦ rw (w.at-is, w.out_idcs-is, w.out_vals-is) (gathering_one room c.loop-k.invariant (one_of here) (found_one here c.last_at-last.ensures w.in-Some.is))
      | in_default w ↦ rw (w.at-is, w.out_idcs-is, w.out_vals-is) (gathering_skip room c.loop-k.invariant (one_of here) (found_none here c.last_at-last.ensures w.in_default.is))
    ]

pub shape_of-out_idcs : goal.shape_of-out_idcs
shape_of-out_idcs c = idcs_keep (fits (goal.at.shape_of-out_idcs c).After-indices-size) c.loop-k.invariant

pub shape_of-out_vals : goal.shape_of-out_vals
shape_of-out_vals c = vals_keep (fits (goal.at.shape_of-out_vals c).After-indices-size) c.loop-k.invariant

pub returns : goal.returns
unfolding gathered
returns c = gathering_all (fits (goal.at.returns c).After-indices-size) c.loop-k.invariant (rw (taken_many, ← c.indices-size.ensures) c.loop-k-test.false)
