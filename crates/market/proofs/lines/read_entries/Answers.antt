-- `lines::read_entries` meets its contract. The loop's invariant: the entries before place k are written, and the rest is still to be read.
use mathlib.Core.Path.{◌≡◌}
use Prim.Native.Nat.{◌+◌, ◌-◌}
use native.Mathlib.Numerals.{unary_clauses}
use native.Mathlib.Omega.{arith}
use Rattle.market.proofs.Readings.{reading_none, reading_rows, reading_cols, reading_vals, reading_all, reading_line, reading_fit, reading_more}
use Rattle.market.proofs.lines.read_entries.Goals as goal

pub loop-k-init : goal.loop-k-init
loop-k-init c = simp unary_clauses (reading_none _ _ _ _ _ _ c.requires)

pub shape_of-rows-in_default : goal.shape_of-rows-in_default
shape_of-rows-in_default c = reading_rows _ _ _ _ _ c.loop-k.invariant

pub shape_of-cols-in_default : goal.shape_of-cols-in_default
shape_of-cols-in_default c = reading_cols _ _ _ _ _ c.loop-k.invariant

pub shape_of-vals-in_default : goal.shape_of-vals-in_default
shape_of-vals-in_default c = reading_vals _ _ _ _ _ c.loop-k.invariant

pub returns-in_default : goal.returns-in_default
returns-in_default c = absurd (reading_line _ _ _ _ _ c.loop-k.invariant (omega arith) c.line_at.ensures c.in_default.is)

pub overflow_sub-rows : goal.overflow_sub-rows
overflow_sub-rows c = let f = reading_fit _ _ _ _ _ c.loop-k.invariant (omega arith) c.line_at.ensures c.in-Some.is in omega (arith, f.row_from)

pub overflow_cast-rows : goal.overflow_cast-rows
overflow_cast-rows c = let f = reading_fit _ _ _ _ _ c.loop-k.invariant (omega arith) c.line_at.ensures c.in-Some.is in omega (arith, f.row_to)

pub overflow_sub-cols : goal.overflow_sub-cols
overflow_sub-cols c = let f = reading_fit _ _ _ _ _ c.loop-k.invariant (omega arith) c.line_at.ensures c.in-Some.is in omega (arith, f.col_from)

pub overflow_cast-cols : goal.overflow_cast-cols
overflow_cast-cols c = let f = reading_fit _ _ _ _ _ c.loop-k.invariant (omega arith) c.line_at.ensures c.in-Some.is in omega (arith, f.col_to)

pub overflow_cast-vals : goal.overflow_cast-vals
overflow_cast-vals c = let f = reading_fit _ _ _ _ _ c.loop-k.invariant (omega arith) c.line_at.ensures c.in-Some.is in omega (arith, f.small)

pub loop-k-preserved : goal.loop-k-preserved
loop-k-preserved c =
    let e : c.args.count - c.loop-k.k - 1 ≡ c.args.count - (c.loop-k.k + 1) = omega arith in
    rw e at (reading_more _ _ _ _ _ c.loop-k.invariant (omega arith) c.line_at.ensures c.in-Some.is)

pub shape_of-rows : goal.shape_of-rows
shape_of-rows c = reading_rows _ _ _ _ _ c.loop-k.invariant

pub shape_of-cols : goal.shape_of-cols
shape_of-cols c = reading_cols _ _ _ _ _ c.loop-k.invariant

pub shape_of-vals : goal.shape_of-vals
shape_of-vals c = reading_vals _ _ _ _ _ c.loop-k.invariant

pub returns : goal.returns
returns c = reading_all _ _ _ _ _ c.loop-k.invariant (omega arith)
