-- `holds_other` meets its contract: each turn tests one entry.
use native.Mathlib.Omega.{arith}
use borrow.Author.Tests.{eq-eqb, ne_eqb}
use lib.ListN.{length, length-append}
use Rattle.std.proofs.lemmas.Slice.Zip.{zip_turn}
use Rattle.lists.proofs.Scans.{clear_none, clear_next, clear_stop}
use Rattle.readers.proofs.identity.holds_other.Goals as goal
use Rattle.readers.proofs.identity.holds_other.Goals.{else-here-col-via-then-here-col+else-value-ne0, else-here-col-via-else-here-col}

pub loop-here-init : goal.loop-here-init
loop-here-init c = clear_none _ _

pub returns-then-value-ne0 : goal.returns-then-value-ne0
returns-then-value-ne0 c =
    let turn = zip_turn c.args.cols.now c.args.vals.now c.loop-here.yielded _ _ c.next.new.self c.next.result (cc) (cc) c.loop-here.yielded_by _ c.in-Some.is c.next.ensures.steps in
    clear_stop c.loop-here.invariant turn.0 (rw (← turn.2 0, ← turn.3 0, ne_eqb c.in-Some.field-0-0.now c.args.col c.if-here-col.true, ne_eqb c.in-Some.field-0-1.now 0 (λ e. c.if-value-ne0.true (omega arith))))

pub loop-here-preserved : goal.loop-here-preserved
loop-here-preserved c =
    let turn = zip_turn c.args.cols.now c.args.vals.now c.loop-here.yielded _ _ c.next.new.self c.next.result (cc) (cc) c.loop-here.yielded_by _ c.in-Some.is c.next.ensures.steps in
    simp length-append (clear_next c.loop-here.invariant turn.0 (rw (← turn.2 0, ← turn.3 0)
    (elim c.else-here-col.branch [
      | else-here-col-via-then-here-col+else-value-ne0 w ↦ rw (ne_eqb c.in-Some.field-0-0.now c.args.col w.if-here-col.true, eq-eqb c.in-Some.field-0-1.now 0 (omega (arith, w.if-value-ne0.false, turn.3 0, c.type_inv.vals (length c.loop-here.yielded))))
      | else-here-col-via-else-here-col w ↦ rw (eq-eqb c.in-Some.field-0-0.now c.args.col w.if-here-col.false)
    ])))
