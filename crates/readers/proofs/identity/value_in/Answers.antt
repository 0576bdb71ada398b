-- `value_in` meets its contract: the value beside the column asked for, or 0 where no column is.
use mathlib.Core.Path.{sym, ap, ◌∙◌}
use native.Mathlib.Omega.{arith}
use Rattle.std.proofs.lemmas.Slice.Zip.{zip_turn, zip_end}
use Rattle.sparse.specs.Matrix.{value_in}
use Rattle.meaning.proofs.Values.{columns_climb, value_there, value_elsewhere}
use Rattle.readers.proofs.identity.value_in.Goals as goal

pub returns-then-here-col : goal.returns-then-here-col
returns-then-here-col c =
    let turn = zip_turn c.args.cols.now c.args.vals.now c.loop-here.yielded _ _ c.next.new.self c.next.result (cc) (cc) c.loop-here.yielded_by _ c.in-Some.is c.next.ensures.steps in
    turn.3 0
    ∙ sym (value_there c.args.ncols c.args.cols.now c.args.vals.now (columns_climb _ _ c.requires.good) _ turn.0)
    ∙ ap (value_in c.args.cols.now c.args.vals.now) (sym (turn.2 0) ∙ c.if-here-col.true)

pub returns : goal.returns
returns c =
    let all = zip_end c.args.cols.now c.args.vals.now c.loop-here.yielded _ _ c.next.new.self c.next.result (cc) (cc) c.loop-here.yielded_by c.in-None.is c.next.ensures.steps in
    sym (value_elsewhere _ _ _ (λ j h. c.loop-here.invariant j (omega arith)))
