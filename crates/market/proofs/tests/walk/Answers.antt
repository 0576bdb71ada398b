-- `tests::walk` meets its contract. The loop's invariant: a pass over the lines that are left, from the faults so far, comes to the whole pass.
use mathlib.Core.Path.{◌≡◌, sym, ap, ◌∙◌}
use Prim.Native.Nat.{◌+◌, ◌-◌}
use native.Mathlib.Numerals.{unary_clauses}
use native.Mathlib.Omega.{arith}
use Rattle.market.specs.Faults.{none, walk_read}
use Rattle.market.specs.Parse.{whole}
use Rattle.market.proofs.Passes.{walk_broken, walk_more, walk_over, walk_end}
use Rattle.market.proofs.tests.walk.Goals as goal

pub loop-init : goal.loop-init
unfolding none
loop-init c = simp unary_clauses

pub returns-in_err-entry : goal.returns-in_err-entry
unfolding walk_read whole
returns-in_err-entry c = rw c.from_residual.ensures (ap whole (sym (walk_broken _ _ _ _ c.loop.at (c.args.size.value - c.loop.counter) (omega arith) c.line_at.ensures c.in_err-entry.was) ∙ c.loop.invariant))

pub loop-preserved : goal.loop-preserved
loop-preserved c =
    let one_less : c.args.size.value - c.loop.counter - 1 ≡ c.args.size.value - (c.loop.counter + 1) = omega arith in
    rw (c.noted-faults.ensures, ← one_less) (sym (walk_more _ _ _ _ c.loop.at (c.args.size.value - c.loop.counter) (omega arith) c.line_at.ensures c.in_ok-entry.was) ∙ c.loop.invariant)

pub returns-then-at-text : goal.returns-then-at-text
unfolding walk_read
returns-then-at-text c = sym (walk_over _ _ _ _ _ (c.args.size.value - c.loop.counter) (omega arith) c.if-at-text.true) ∙ ap whole c.loop.invariant

pub returns : goal.returns
unfolding walk_read
returns c = sym (walk_end _ _ _ _ _ (c.args.size.value - c.loop.counter) (omega arith) c.if-at-text.false) ∙ ap whole c.loop.invariant
