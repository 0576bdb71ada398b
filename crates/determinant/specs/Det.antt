-- `det`: the first-walk check in Full mode from a fresh start; 0 if it meets None, else the product of L's last entries with its sign.
use Rattle.std.specs.Prelude.{ℕ, true, false, not, ◌||◌, List, [], ◌∷◌, ltb, eqb, length}
use Rattle.sparse.specs.Lent.{Outcome, outcome, unless}
use Rattle.sparse.specs.Matrix.{Matrix}
use Rattle.sparse.specs.Refusals.{refuse, lowest, Tested}
use Rattle.sparse.specs.Tests.{clean}
use Rattle.sparse.specs.declared.Refusal.TheVariants.{NotSquare, Mismatch}
use Rattle.state.specs.Fresh.{start_test}
use Rattle.state.specs.declared.Mode.TheVariants.{Full}
use Rattle.stepping.specs.Take.{Lists, lists}
use Rattle.telling.specs.declared.Reduced.{Reduced}
use Rattle.telling.specs.declared.Reduced.TheVariants.{Taken, Dependent, Stopped as Short, Refused as Unfit}
use Rattle.telling.specs.declared.Run.{Run}
use Rattle.running.specs.Rows.{Night, night}
use Rattle.batches.specs.Batch.{take_anew}
use Rattle.signs.specs.Value.{value_of}
use Rattle.determinant.specs.declared.Determined.{Determined}
use Rattle.determinant.specs.declared.Determined.TheVariants.{Value, Stopped, Refused}

-- 1 to 7 of the rows; 10; 11, dense memory or the pivot table is shorter than the columns; 14 at the fresh start
unfoldable pub det_test : ℕ → Matrix → List ℕ → List ℕ → List ℕ → List ℕ → Tested
det_test p a dense u_ptrs l_ptrs pivots =
    lowest
    (clean 65536 p a
    ∷ refuse (not (eqb a.nrows a.ncols)) NotSquare
    ∷ refuse (ltb (length dense) a.ncols || ltb (length pivots) a.ncols) Mismatch
    ∷ start_test Full u_ptrs l_ptrs
    ∷ [])

abbrev pub value_after : ℕ → Run → Determined
value_after v r = Value (record { value = v; run = r })

-- the value, by what the reduction came to
unfoldable pub valued : ℕ → ℕ → Reduced → List ℕ → List ℕ → List ℕ → Determined
valued p n (Taken r) l_vals l_ptrs pivots = value_after (value_of p n r.counts.l_rows l_vals l_ptrs pivots) r
valued p n (Dependent r) l_vals l_ptrs pivots = value_after 0 r
valued p n (Short s) l_vals l_ptrs pivots = Stopped s
valued p n (Unfit why) l_vals l_ptrs pivots = Refused why

-- the value, and the reducer's lists and dense memory after the reduction
unfoldable pub determined : ℕ → ℕ → Outcome Reduced Night → Outcome Determined Lists
determined p n o = outcome (valued p n o.answer o.memory.memory.l_vals o.memory.memory.l_ptrs o.memory.memory.pivots) (lists o.memory.memory o.memory.dense)

-- refused, or determined; no answers are written
unfoldable pub det : ℕ → Matrix → Lists → Outcome Determined Lists
det p a o =
    unless Refused (det_test p a o.dense o.memory.u_ptrs o.memory.l_ptrs o.memory.pivots) o
    (determined p a.ncols (take_anew false true p Full a (night o.memory [] o.dense)))
