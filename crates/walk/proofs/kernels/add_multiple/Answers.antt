-- `add_multiple` meets its contract. The loop's invariant: the entries before are added.
-- Assumes nothing.
use mathlib.Core.Path.{◌∙◌}
use native.Mathlib.Omega.{arith}
use lib.ListN.{length-append}
use Rattle.std.proofs.lemmas.Slice.Zip.{zip_turn, zip_end}
use Rattle.walk.proofs.DenseLaws.{add_none, add_more, add_all}
use Rattle.walk.proofs.kernels.add_multiple.Goals as goal

pub loop-col-init : goal.loop-col-init
loop-col-init c = add_none _ _ _ _ _ c.requires.small

pub loop-col-preserved : goal.loop-col-preserved
loop-col-preserved c =
    let xs = c.loop-col.yielded in
    let turn = zip_turn c.args.cols.now c.args.vals.now xs _ _ c.next.new.self _ (cc) (cc) c.loop-col.yielded_by _ c.in-Some.is c.next.ensures.steps in
    rw (length-append xs, c.plus.ensures, c.loop-col.invariant, turn.2 0, turn.3 0) (add_more _ _ _ c.requires.climbs _ turn.0 _ _ _)

pub returns : goal.returns
returns c =
    let end = zip_end c.args.cols.now c.args.vals.now c.loop-col.yielded _ _ c.next.new.self _ (cc) (cc) c.loop-col.yielded_by c.in-None.is c.next.ensures.steps in
    c.loop-col.invariant ∙ add_all _ _ _ _ _ _ (omega (arith, end, c.requires.same))
