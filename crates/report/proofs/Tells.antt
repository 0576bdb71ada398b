-- Loading, solving and writing, one after the other: what each asks for, and what is told.
-- Assumes nothing.
use Rattle.std.specs.Prelude.{Ok}
use mathlib.Core.Path.{◌≡◌, sym, ap, ap₂, subst, ◌∙◌}
use mathlib.Core.List.{List}
use Prim.Native.Nat.{ℕ, ◌+◌, ◌≤◌}
use native.Mathlib.Omega.{arith}
use lib.ListN.{length, take, drop}
use Rattle.lists.specs.Onto.{◌onto◌}
use Rattle.lists.specs.Table.{table}
use Rattle.lists.proofs.Ontos.{length-onto}
use Rattle.lists.proofs.Tables.{length-table}
use Rattle.sparse.specs.Lent.{Lent, lent, Outcome, outcome}
use Rattle.sparse.specs.Matrix.{Matrix, matrix}
use Rattle.state.specs.Memory.{Memory, memory}
use Rattle.state.specs.declared.Mode.TheVariants.{None}
use Rattle.triplets.specs.Triplets.{Triplet, start_of}
use Rattle.text.specs.Writers.{Wrote}
use Rattle.text.proofs.Puts.{wrote_onto}
use Rattle.running.specs.Rows.{Night, night}
use Rattle.market.specs.Asks.{rows_in, cols_in, values_in}
use Rattle.market.specs.Parse.{Market}
use Rattle.market.proofs.Heads.{lines_length}
use Rattle.market.specs.Tests.{modulus}
use Rattle.market.specs.declared.lines.Numbers.{Numbers}
use Rattle.solving.specs.Solve.{solve}
use Rattle.solving.specs.declared.Solved.{Solved}
use Rattle.plenty.specs.Plenty.{Settled}
use Rattle.solving.proofs.Wholes.{Solvable, solve_settled}
use Rattle.reporting.specs.Asks.{Rows}
use Rattle.reporting.specs.Said.{matrix_said, entries_of, said_by, Loadable, Loaded}
use Rattle.reporting.specs.Text.{report_text}
use Rattle.reporting.proofs.Entries.{Small}
use Rattle.reporting.proofs.Fits.{settled_rows, settled_fits}
use Rattle.reporting.proofs.Loads.{front, mapped, within, col_count, value_count}
use Rattle.report.specs.Asks.{Tellable}
use Rattle.report.specs.Report.{waiting, loaded, printed, reported}
use Rattle.report.specs.Work.{Work, work}
use Rattle.report.proofs.Lengths.{Places, places}
use Rattle.report.proofs.Solvables.{solvable}

module _ {text : List ℕ} {size : Numbers} {w : Work} (t : Tellable text size w) where
  abbrev m : Market
  m = said_by text size

  abbrev ts : List Triplet
  ts = entries_of text size

  room : Places w
  room = places w t.room

  pub tell_load : Loadable text size w.night.memory.u_cols w.night.memory.u_vals w.night.memory.l_cols w.lent
  tell_load = record {
    passed = t.passed;
    row_room = omega (arith, room.u_cols);
    value_room = omega (arith, room.u_vals);
    col_room = omega (arith, room.l_cols);
    pointers = room.row_ptrs;
    columns = room.col_idcs;
    numbers = room.values;
  }

  pub tell_small : Small size.row size.col ts
  tell_small = within tell_load

  counted : length ts ≡ size.value
  counted = lines_length size.value (drop size.next text) t.passed.read

  -- what is solved
  ready : Solvable modulus (matrix_said m) (loaded m w).night
  unfolding said_by
  ready = solvable m w t.passed.good t.room

  module _ {uc uv lc : List ℕ} {l : Lent} (done : Loaded m w.night.memory.u_cols w.night.memory.u_vals w.night.memory.l_cols w.lent uc uv lc l) where
    abbrev starts : List ℕ
    starts = table (size.row + 1) (start_of (rows_in ts))

    in_parts : l ≡ lent (starts onto w.lent.row_ptrs) (cols_in ts onto w.lent.col_idcs) (values_in ts onto w.lent.values)
    unfolding said_by
    in_parts = done.matrix ∙ mapped size.row ts w.lent

    pub pointers_long : size.row + 1 ≤ length l.row_ptrs
    pointers_long =
        let many : length starts ≡ size.row + 1 = length-table (size.row + 1) (start_of (rows_in ts)) in
        omega (arith, room.row_ptrs, tell_small.high, ap (λ (y : Lent). length y.row_ptrs) in_parts, length-onto starts w.lent.row_ptrs (omega (arith, many, room.row_ptrs, tell_small.high)))

    pub columns_long : size.value ≤ length l.col_idcs
    columns_long =
        let many : length (cols_in ts) ≡ size.value = col_count tell_load in
        let few : length (cols_in ts) ≤ length w.lent.col_idcs = omega (arith, many, room.col_idcs, tell_small.few, counted) in
        omega (arith, many, few, ap (λ (y : Lent). length y.col_idcs) in_parts, length-onto (cols_in ts) w.lent.col_idcs few)

    pub values_long : size.value ≤ length l.values
    values_long =
        let many : length (values_in ts) ≡ size.value = value_count tell_load in
        let few : length (values_in ts) ≤ length w.lent.values = omega (arith, many, room.values, tell_small.few, counted) in
        omega (arith, many, few, ap (λ (y : Lent). length y.values) in_parts, length-onto (values_in ts) w.lent.values few)

    abbrev a : Matrix
    a = matrix size.row size.col (take (size.row + 1) l.row_ptrs) (take size.value l.col_idcs) (take size.value l.values)

    matrix_is : a ≡ matrix_said m
    unfolding matrix_said said_by
    matrix_is =
        let p : take (size.row + 1) l.row_ptrs ≡ starts = ap (λ (y : Lent). take (size.row + 1) y.row_ptrs) in_parts ∙ front starts w.lent.row_ptrs (size.row + 1) (length-table (size.row + 1) (start_of (rows_in ts))) in
        let c : take size.value l.col_idcs ≡ cols_in ts = ap (λ (y : Lent). take size.value y.col_idcs) in_parts ∙ front (cols_in ts) w.lent.col_idcs size.value (col_count tell_load) in
        let v : take size.value l.values ≡ values_in ts = ap (λ (y : Lent). take size.value y.values) in_parts ∙ front (values_in ts) w.lent.values size.value (value_count tell_load) in
        rw (p, c, v)

    abbrev lists : Memory
    lists = w.night.memory

    night_is : night (memory uc uv lists.u_ptrs lc lists.l_vals lists.l_ptrs lists.pivots) w.night.answers w.night.dense ≡ (loaded m w).night
    unfolding loaded waiting
    night_is = rw (done.row, done.value, done.col)

    module _ {s : Solved} {v : Night} (solved : outcome s v ≡ solve modulus a (night (memory uc uv lists.u_ptrs lc lists.l_vals lists.l_ptrs lists.pivots) w.night.answers w.night.dense)) where
      solved_is : outcome s v ≡ solve modulus (matrix_said m) (loaded m w).night
      solved_is = solved ∙ ap₂ (solve modulus) matrix_is night_is

      settled : Settled modulus size.col None s.counts v.memory
      unfolding matrix_said said_by
      settled = subst (λ (o : Outcome Solved Night). Settled modulus size.col None o.answer.counts o.memory.memory) (sym solved_is) (solve_settled modulus (matrix_said m) (loaded m w).night ready)

      pub tell_rows : Rows s.counts.rank s.counts.u_fill v.memory.u_cols v.memory.u_vals v.memory.u_ptrs
      tell_rows = settled_rows settled tell_small.wide

      pub tell_done : {bytes : ℕ} {out : List ℕ} → Wrote (report_text s v.memory) 0 w.out bytes out → outcome (Ok bytes) (work l v out) ≡ reported m w
      unfolding reported printed loaded
      tell_done {bytes} {out} wrote =
          let many : bytes ≡ length (report_text s v.memory) = omega (arith, wrote.next) in
          let fits : length (report_text s v.memory) ≤ length w.out = omega (arith, settled_fits s settled tell_small.wide, room.out) in
          (λ i. outcome (Ok (many i)) (work (done.matrix i) v (wrote_onto wrote fits i)))
          ∙ ap (printed (loaded m w)) solved_is
