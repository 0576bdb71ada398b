-- `multiply` meets its contract: each turn adds one entry's multiple of a row of U.
use mathlib.Core.Path.{sym, ap, ◌∙◌}
use native.Mathlib.Omega.{arith}
use lib.ListN.{length, length-append}
use Rattle.std.proofs.lemmas.Slice.Zip.{zip_turn, zip_end}
use Rattle.lists.proofs.Tables.{length-table}
use Rattle.judging.proofs.Multiples.{multiplied_none, multiplied_more, multiplied_all, multiplied_small, multiplied_long}
use Rattle.judging.proofs.products.multiply.Goals as goal

pub loop-row-init : goal.loop-row-init
loop-row-init c = multiplied_none c.requires.zero

pub add_u_row-requires : goal.add_u_row-requires
add_u_row-requires c =
    let turn = zip_turn c.args.l_cols.now c.args.l_vals.now c.loop-row.yielded _ _ c.next.new.self c.next.result (cc) (cc) c.loop-row.yielded_by _ c.in-Some.is c.next.ensures.steps in
    record { pivot = c.requires.rows.each _ (rw (turn.2 0) (c.requires.names _ turn.0)); long = multiplied_long c.loop-row.invariant; small = multiplied_small c.loop-row.invariant c.requires.positive }

pub loop-row-preserved : goal.loop-row-preserved
loop-row-preserved c =
    let turn = zip_turn c.args.l_cols.now c.args.l_vals.now c.loop-row.yielded _ _ c.next.new.self c.next.result (cc) (cc) c.loop-row.yielded_by _ c.in-Some.is c.next.ensures.steps in
    simp length-append (multiplied_more c.loop-row.invariant turn.0 (rw (← turn.2 0, ← turn.3 0) c.add_u_row.ensures))

pub shape_of-dense : goal.shape_of-dense
shape_of-dense c = multiplied_long c.loop-row.invariant ∙ sym (ap length c.requires.zero ∙ length-table _ _)

pub returns : goal.returns
returns c =
    let all = zip_end c.args.l_cols.now c.args.l_vals.now c.loop-row.yielded _ _ c.next.new.self c.next.result (cc) (cc) c.loop-row.yielded_by c.in-None.is c.next.ensures.steps in
    multiplied_all c.loop-row.invariant c.requires.same (omega (arith, all, c.requires.same))
