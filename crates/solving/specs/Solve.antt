-- The determinant, and then the rank and U from a fresh start: U mustn't come from the determinant's reduction, which ends at a None.
use Rattle.std.specs.Prelude.{ℕ, true, false, eqb, None, Some, Option}
use Rattle.sparse.specs.Lent.{Outcome, outcome}
use Rattle.sparse.specs.Matrix.{Matrix}
use Rattle.state.specs.Fresh.{counts}
use Rattle.state.specs.declared.Counts.{Counts}
use Rattle.state.specs.declared.Mode.TheVariants.{None}
use Rattle.stepping.specs.Take.{Lists, lists}
use Rattle.telling.specs.declared.Reduced.{Reduced}
use Rattle.telling.specs.declared.Reduced.TheVariants.{Taken, Dependent, Stopped, Refused}
use Rattle.running.specs.Rows.{Night, night}
use Rattle.anew.specs.Calls.{from_matrix}
use Rattle.determinant.specs.Det.{det}
use Rattle.determinant.specs.declared.Determined.{Determined}
use Rattle.determinant.specs.declared.Determined.TheVariants.{Value, Stopped as Short, Refused as Unfit}
use Rattle.solving.specs.declared.Solved.{Solved}

-- the determinant, where it was asked for
abbrev pub Worth : Type 0
Worth = Option ℕ

-- a determinant's number; a law says that the other two don't occur here
unfoldable pub worth_of : Determined → Worth
worth_of (Value v) = Some v.value
worth_of (Short s) = None
worth_of (Unfit why) = None

-- the determinant of a square matrix
unfoldable pub worth : ℕ → Matrix → Lists → Outcome Worth Lists
worth p a o = elim (eqb a.nrows a.ncols) [
  | true ↦ outcome (worth_of (det p a o).answer) (det p a o).memory
  | false ↦ outcome None o
]

-- the counts after a call of many rows; a law says that all rows were taken
unfoldable pub counts_after : ℕ → ℕ → Reduced → Counts
counts_after p n (Taken r) = r.counts
counts_after p n (Dependent r) = r.counts
counts_after p n (Stopped s) = s.run.counts
counts_after p n (Refused why) = counts None p n 0 0 0 0

-- the rows from a fresh start, by the first walk, in the memory that the determinant's reduction left
unfoldable pub afresh : ℕ → Matrix → Night → Outcome Worth Lists → Outcome Reduced Night
afresh p a w d = from_matrix false false p None a (night d.memory.memory w.answers d.memory.dense)

-- a determinant beside counts
abbrev pub solved_of : Worth → Counts → Solved
solved_of d c = record { det = d; counts = c }

-- both, one after the other
unfoldable pub solve : ℕ → Matrix → Night → Outcome Solved Night
solve p a w =
    let d : Outcome Worth Lists = worth p a (lists w.memory w.dense) in
    let f : Outcome Reduced Night = afresh p a w d in
    outcome (solved_of d.answer (counts_after p a.ncols f.answer)) f.memory
