-- The library call of the program: text in, rank, determinant and U out.
use Rattle.text.specs.Mma.{Printed}
use Rattle.std.specs.Prelude.{ℕ, List, [], ◌∷◌, map, length, Err, Ok}
use Rattle.lists.specs.Onto.{◌onto◌}
use Rattle.sparse.specs.Lent.{Outcome, outcome, unless}
use Rattle.sparse.specs.Refusals.{lowest}
use Rattle.triplets.specs.Triplets.{written}
use Rattle.state.specs.Memory.{Memory, memory}
use Rattle.running.specs.Rows.{Night, night}
use Rattle.market.specs.Asks.{from_zero, rows_in, cols_in, values_in}
use Rattle.market.specs.Parse.{Read, nothing, got, Market, market}
use Rattle.market.specs.Tests.{modulus, market_test}
use Rattle.solving.specs.Solve.{solve}
use Rattle.solving.specs.declared.Solved.{Solved}
use Rattle.reporting.specs.Said.{matrix_said}
use Rattle.reporting.specs.Text.{report_text}
use Rattle.report.specs.Work.{Work, work, work_test}

-- the entries wait in lists of U and L until the matrix is built
unfoldable pub waiting : Market → Memory → Memory
waiting m l = memory (rows_in m.entries onto l.u_cols) (values_in m.entries onto l.u_vals) l.u_ptrs (cols_in m.entries onto l.l_cols) l.l_vals l.l_ptrs l.pivots

-- the matrix in its lent memory
unfoldable pub loaded : Market → Work → Work
loaded m w = work (written m.nrows (map from_zero m.entries) w.lent) (night (waiting m w.night.memory) w.night.answers w.night.dense) w.out

-- the output, and all memory after it
unfoldable pub printed : Work → Outcome Solved Night → Outcome Printed Work
printed w o = outcome (Ok (length (report_text o.answer o.memory.memory))) (work w.lent o.memory (report_text o.answer o.memory.memory onto w.out))

-- loaded, solved and written
unfoldable pub reported : Market → Work → Outcome Printed Work
reported m w = printed (loaded m w) (solve modulus (matrix_said m) (loaded m w).night)

-- what the text says; no rows where it says nothing
unfoldable pub said : Read Market → Market
said nothing = record { nrows = 0; ncols = 0; entries = [] }
said (got m later) = m

-- refused by the text or by the memory, else reported
unfoldable pub report : List ℕ → Work → Outcome Printed Work
report text w = unless Err (lowest (market_test text ∷ work_test w ∷ [])) w (reported (said (market text)) w)
