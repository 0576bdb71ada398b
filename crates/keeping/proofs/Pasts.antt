-- A run of steps over memory from a fresh start: each leaves a state, and U in memory has the history of the rows taken.
-- Assumes nothing.
use Rattle.std.specs.Prelude.{None, Ok, Some}
use mathlib.Core.Path.{◌≡◌, refl, sym, ap, ◌∙◌}
use mathlib.Core.Bool.{Bool, cond}
use mathlib.Core.List.{List, [], ◌∷◌, ◌++◌}
use Prim.Native.Nat.{ℕ, ◌+◌, ◌≤◌, ◌<◌}
use native.Mathlib.Nat.{add-zero}
use native.Mathlib.Decide.{ℕ_discrete}
use native.Mathlib.Omega.{arith}
use lib.ListN.{length, length-append}
use Rattle.lists.specs.Find.{keep}
use Rattle.lists.specs.Table.{table}
use Rattle.lists.proofs.Ontos.{length-onto}
use Rattle.lists.proofs.Tables.{length-table}
use Rattle.sparse.specs.Pivots.{mark}
use Rattle.sparse.specs.Rows.{Entry, entries}
use Rattle.sparse.proofs.Cuts.{small}
use Rattle.sparse.proofs.Firsts.{lowest_good}
use Rattle.state.specs.Fresh.{Opening, counts, started, new_test}
use Rattle.state.specs.Memory.{memory}
use Rattle.state.specs.declared.Counts.{Counts}
use Rattle.state.specs.declared.Mode.{Mode}
use Rattle.state.proofs.FreshStates.{fresh_state}
use Rattle.state.proofs.Starts.{startable}
use Rattle.walk.specs.Step.{is_none, pivot_at, Answer}
use Rattle.steps.specs.History.{Told, told, accepted, History, fresh, more}
use Rattle.steps.specs.Setting.{Echelon}
use Rattle.steps.proofs.Histories.{accepted_same, accepted_more}
use Rattle.stepping.specs.Asks.{Stands, Offered}
use Rattle.stepping.specs.Take.{Lists, lists, room_asked, counts_after, step_row}
use Rattle.stepping.specs.declared.Stepped.{Stepped}
use Rattle.stepping.proofs.Walks.{heads, stands_echelon}
use Rattle.keeping.proofs.Nexts.{step_next}
use Rattle.keeping.proofs.Settings.{rows_in}
use Rattle.keeping.proofs.Ways.{step_ways}

-- what a step leaves of the counts, and the rank by its answer
pub record Counted (c : Counts) (r : Stepped) : Type 0 where
  pub mode : r.counts.mode ≡ c.mode
  pub modulus : r.counts.modulus ≡ c.modulus
  pub ncols : r.counts.ncols ≡ c.ncols
  pub rank : r.counts.rank ≡ c.rank + cond (is_none r.answer) 0 1

pub step_counted : (on : Bool) (c : Counts) (es : List Entry) (o : Lists) → Counted c (step_row on c es o).answer
unfolding counts_after is_none
step_counted on c es o =
    step_ways on c es o (λ r. Counted c r.answer)
    (λ e. record { mode = refl; modulus = refl; ncols = refl; rank = sym (add-zero c.rank) })
    (λ e. record { mode = refl; modulus = refl; ncols = refl; rank = refl })

-- the rows ts, taken from a fresh start, made U in memory; as many as its rank were accepted
pub record Past (ts : List Told) (c : Counts) (o : Lists) : Type 0 where
  pub history : History c.modulus c.ncols ts (rows_in o.memory)
  pub rank : length (accepted ts) ≡ c.rank

accepted_count : (ts : List Told) (es : List Entry) (a : Answer) → length (accepted (ts ++ (told es a ∷ []))) ≡ length (accepted ts) + cond (is_none a) 0 1
unfolding is_none
accepted_count ts es None = ap length (accepted_same ts es) ∙ sym (add-zero (length (accepted ts)))
accepted_count ts es (Some g) = ap length (accepted_more ts es g) ∙ length-append (accepted ts) (es ∷ [])

-- a state without rows is a fresh start
pub empty_past : (c : Counts) (o : Lists) → Stands c o → c.rank ≡ 0 → Past [] c o
unfolding accepted keep
empty_past c o s none = record { history = fresh (rows_in o.memory) (record { wide = e.table.wide; long = e.table.long; marks = λ j l. go j l (ℕ_discrete (pivot_at (rows_in o.memory).pivots j) mark) }); rank = sym none }
  where
    e : Echelon c.modulus c.ncols c.rank (rows_in o.memory) (heads c o s)
    e = stands_echelon c o s

    go : (j : ℕ) → j < c.ncols → Dec (pivot_at (rows_in o.memory).pivots j ≡ mark) → pivot_at (rows_in o.memory).pivots j ≡ mark
    go j l (yes q) = q
    go j l (no q) = absurd (omega (arith, e.table.row j l q))

-- each step adds its row
pub step_past : (on : Bool) (c : Counts) (cols vals : List ℕ) (o : Lists) → Stands c o → Offered c cols vals → room_asked c (entries cols vals) o.memory ≡ Ok tt → (ts : List Told) → Past ts c o
    → Past (ts ++ (told (entries cols vals) (step_row on c (entries cols vals) o).answer.answer ∷ [])) (step_row on c (entries cols vals) o).answer.counts (step_row on c (entries cols vals) o).memory
step_past on c cols vals o s row room ts past = record {
  history = rw (k.modulus, k.ncols) (more ts (rows_in o.memory) past.history on (entries cols vals) row.clean a (rows_in (step_row on c (entries cols vals) o).memory.memory) (rw past.rank (step_next on c cols vals o s row room)));
  rank = accepted_count ts (entries cols vals) a ∙ ap (λ (n : ℕ). n + cond (is_none a) 0 1) past.rank ∙ sym k.rank;
}
  where
    k : Counted c (step_row on c (entries cols vals) o).answer
    k = step_counted on c (entries cols vals) o

    a : Answer
    a = (step_row on c (entries cols vals) o).answer.answer

-- and a fresh start is a state
pub fresh_stands : (p n : ℕ) (mode : Mode) (o : Opening) → new_test p n mode o ≡ Ok tt → (uc uv lc lv dense : List ℕ)
    → Stands (counts mode p n 0 0 0 0) (lists (memory uc uv (started mode n o).u_ptrs lc lv (started mode n o).l_ptrs (started mode n o).pivots) dense)
unfolding new_test started
fresh_stands p n mode o good uc uv lc lv dense = record {
  opened = record {
    modulus = (lowest_good _ _ good).0;
    wide = (small 65536 0 n 0 (lowest_good _ _ (lowest_good _ _ good).1).0).wide;
    table = let fits : n ≤ length o.pivots = (startable p n mode o good).table in omega (arith, length-onto (table n (λ j. mark)) o.pivots (omega (arith, length-table n (λ j. mark))));
  };
  state = fresh_state p n mode o good uc uv lc lv;
}
