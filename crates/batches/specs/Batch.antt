-- All rows of a matrix taken, in either walk.
use Rattle.std.specs.Prelude.{ℕ, Bool, List}
use Rattle.sparse.specs.Lent.{Outcome, outcome}
use Rattle.sparse.specs.Matrix.{Matrix}
use Rattle.sparse.specs.Rows.{rows_of}
use Rattle.state.specs.Fresh.{counts, Opening, opening, started}
use Rattle.state.specs.Memory.{Memory, memory}
use Rattle.state.specs.declared.Counts.{Counts}
use Rattle.state.specs.declared.Mode.{Mode}
use Rattle.stepping.specs.Take.{cleared}
use Rattle.telling.specs.Runs.{run}
use Rattle.telling.specs.declared.Reduced.{Reduced}
use Rattle.telling.specs.declared.Reduced.TheVariants.{Taken}
use Rattle.running.specs.Rows.{Written, written, take_rows, Night, night}

-- what rows came to, with dense memory
abbrev pub beside : List ℕ → Outcome Reduced Written → Outcome Reduced Night
beside dense o = outcome o.answer (night o.memory.memory o.memory.answers dense)

-- all rows of a matrix taken from some counts and lists; dense memory is zero afterwards
unfoldable pub take_matrix : Bool → Bool → Counts → Matrix → Night → Outcome Reduced Night
take_matrix on check c a w = beside (cleared a.ncols w.dense) (take_rows on check (rows_of a) (outcome (Taken (run 0 c)) (written w.memory w.answers)))

-- the reducer's lists with these first pointers and pivots
abbrev pub opened : Memory → Opening → Memory
opened m o = memory m.u_cols m.u_vals o.u_ptrs m.l_cols m.l_vals o.l_ptrs o.pivots

-- a fresh start in the reducer's lists
unfoldable pub restarted : Mode → ℕ → Memory → Memory
restarted mode n m = opened m (started mode n (opening m.u_ptrs m.l_ptrs m.pivots))

-- a fresh start, then all rows
unfoldable pub take_anew : Bool → Bool → ℕ → Mode → Matrix → Night → Outcome Reduced Night
take_anew on check p mode a w = take_matrix on check (counts mode p a.ncols 0 0 0 0) a (night (restarted mode a.ncols w.memory) w.answers w.dense)
