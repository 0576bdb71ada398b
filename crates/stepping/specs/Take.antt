-- One row taken by a reducer: document 01's steps 1 to 4 over the lent memory.
use Rattle.sparse.specs.Refusals.{Tested}
use Rattle.std.specs.Prelude.{ℕ, ◌+◌, Bool, cond, List, length, None, Ok, Some}
use Rattle.lists.specs.Onto.{◌onto◌}
use Rattle.lists.specs.Table.{table}
use Rattle.sparse.specs.Lent.{Outcome, outcome}
use Rattle.sparse.specs.Rows.{Entry}
use Rattle.state.specs.Fresh.{counts, keeps}
use Rattle.state.specs.Memory.{Memory, memory}
use Rattle.state.specs.Room.{room_test}
use Rattle.state.specs.declared.Counts.{Counts}
use Rattle.walk.specs.Step.{is_none, Taken, step, Answer}
use Rattle.walk.specs.Step as S
use Rattle.steps.specs.History.{at_once}
use Rattle.taking.specs.Stores.{Upper, upper, with_u, Lower, lower, with_l, kept_entries}
use Rattle.stepping.specs.declared.Stepped.{Stepped}

-- U's lists and the pivot table, and L's lists
abbrev pub upper_of : Memory → Upper
upper_of m = upper m.u_cols m.u_vals m.u_ptrs m.pivots

abbrev pub lower_of : Memory → Lower
lower_of m = lower m.l_cols m.l_vals m.l_ptrs

abbrev pub together : Upper → Lower → Memory
together u l = memory u.cols u.vals u.ptrs l.cols l.vals l.ptrs u.pivots

-- what is lent: the reducer's lists, and dense memory
pub record Lists : Type 0 where
  pub memory : Memory
  pub dense : List ℕ

abbrev pub lists : Memory → List ℕ → Lists
lists m dense = record { memory = m; dense = dense }

-- the row's answer, and the counts afterwards
abbrev pub stepped : Answer → Counts → Stepped
stepped a c = record { answer = a; counts = c }

-- dense memory, zero in the first n places
unfoldable pub cleared : ℕ → List ℕ → List ℕ
cleared n dense = table n (λ j. 0) onto dense

-- step 2, asked only where step 1 doesn't apply
unfoldable pub room_asked : Counts → List Entry → Memory → Tested
room_asked c es m = cond (at_once c.ncols c.rank es) (Ok tt) (room_test c m)

-- steps 3 and 4: what the row comes to
unfoldable pub step_of : Bool → Counts → List Entry → Memory → Taken
step_of on c es m = step on c.modulus c.ncols c.rank (S.upper m.u_cols m.u_vals m.u_ptrs m.pivots) es

-- the counts after a row: one more in U where it was accepted, one more in a kept L
unfoldable pub counts_after : Counts → Answer → Taken → Counts
counts_after c a t =
    counts c.mode c.modulus c.ncols (c.rank + cond (is_none a) 0 1) (c.u_fill + length t.u) (c.l_rows + cond (keeps c.mode) 1 0) (c.l_fill + kept_entries c.mode t.l)

-- the lists after it
unfoldable pub stored : Counts → Answer → Taken → Memory → Memory
stored c (Some g) t m = together (with_u c.rank c.u_fill g t.u (upper_of m)) (with_l c.mode c.l_rows c.l_fill t.l (lower_of m))
stored c None t m = together (upper_of m) (with_l c.mode c.l_rows c.l_fill t.l (lower_of m))

-- answer, counts and lists after what a row comes to
unfoldable pub took : Counts → Taken → Memory → Outcome Stepped Memory
took c t m = outcome (stepped t.answer (counts_after c t.answer t)) (stored c t.answer t m)

-- step 1: the state stays, L gets no row; else steps 3 and 4
unfoldable pub row_step : Bool → Counts → List Entry → Memory → Outcome Stepped Memory
row_step on c es m = cond (at_once c.ncols c.rank es) (outcome (stepped None c) m) (took c (step_of on c es m) m)

-- the same with dense memory, which is zero afterwards whatever it held
unfoldable pub step_row : Bool → Counts → List Entry → Lists → Outcome Stepped Lists
step_row on c es o = outcome (row_step on c es o.memory).answer (lists (row_step on c es o.memory).memory (cleared c.ncols o.dense))
