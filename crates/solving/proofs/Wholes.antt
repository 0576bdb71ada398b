-- Where the matrix is clean and there is plenty of room, `solve` comes to a determinant, takes all rows, and leaves a state: its U can be read.
-- Assumes nothing.
use Rattle.std.specs.Prelude.{None, Ok, Some}
use mathlib.Core.Path.{◌≡◌, refl, sym, ap, subst, ◌∙◌}
use mathlib.Core.Bool.{Bool, true, false, and-false}
use Prim.Native.Nat.{ℕ, ◌≤◌}
use native.Mathlib.Omega.{arith}
use borrow.Author.Tests.{le-ltb, eq-eqb, ne_eqb}
use lib.Dec.{eqb}
use lib.ListN.{length}
use Rattle.sparse.specs.Lent.{Outcome, outcome}
use Rattle.sparse.specs.Matrix.{Matrix}
use Rattle.sparse.specs.Tests.{clean}
use Rattle.sparse.specs.declared.Refusal.TheVariants.{NotSquare, Mismatch, Room}
use Rattle.sparse.proofs.Firsts.{refuse_false, lowest_skip, lowest_last}
use Rattle.state.specs.Fresh.{keeps, start_test}
use Rattle.state.specs.Memory.{Memory, places}
use Rattle.state.specs.declared.Mode.{Mode}
use Rattle.state.specs.declared.Mode.TheVariants.{Full, None}
use Rattle.state.proofs.Faults.{held}
use Rattle.stepping.specs.Take.{Lists, lists}
use Rattle.telling.specs.declared.Reduced.{Reduced}
use Rattle.running.specs.Rows.{Night, night}
use Rattle.batches.specs.Tests.{short_test}
use Rattle.anew.specs.Calls.{from_matrix_test}
use Rattle.determinant.specs.Det.{det_test, det}
use Rattle.plenty.specs.Plenty.{Plenty, AllTaken, Settled, SameLengths}
use Rattle.plenty.proofs.Agains.{from_again}
use Rattle.plenty.proofs.Calls.{from_matrix_settled, from_matrix_whole, det_lengths, det_whole}
use Rattle.plenty.proofs.Lengths.{same_itself}
use Rattle.plenty.proofs.Rooms.{plenty_same}
use Rattle.solving.specs.Solve.{worth_of, worth, counts_after, afresh, solve, Worth}

-- a clean matrix, a place for each row and column, and plenty of room
pub record Solvable (p : ℕ) (a : Matrix) (w : Night) : Type 0 where
  pub rows : clean 65536 p a ≡ Ok tt
  pub dense : a.ncols ≤ length w.dense
  pub table : a.ncols ≤ length w.memory.pivots
  pub answers : a.nrows ≤ length w.answers
  pub plenty : Plenty Full a.nrows a.ncols w.memory

-- where L isn't kept no room is needed for it
plenty_none : {rows n : ℕ} {m : Memory} → Plenty Full rows n m → Plenty None rows n m
unfolding keeps
plenty_none p = record {
  u_cols = p.u_cols;
  u_vals = p.u_vals;
  u_ptrs = p.u_ptrs;
  l_cols = λ e. let z : ◌≡◌ {A = ℕ} 0 1 = cc in absurd (omega arith);
  l_vals = λ e. let z : ◌≡◌ {A = ℕ} 0 1 = cc in absurd (omega arith);
  l_ptrs = λ e. let z : ◌≡◌ {A = ℕ} 0 1 = cc in absurd (omega arith);
}

module _ (p : ℕ) (a : Matrix) (w : Night) (s : Solvable p a w) where
  u_first : length w.memory.u_ptrs ≡ 0 → ⊥
  unfolding places
  u_first e = omega (arith, e, s.plenty.u_ptrs, held {n = length w.memory.u_ptrs} refl)

  l_first : length w.memory.l_ptrs ≡ 0 → ⊥
  unfolding places keeps
  l_first e = omega (arith, e, s.plenty.l_ptrs refl, held {n = length w.memory.l_ptrs} refl)

  starts : (mode : Mode) → start_test mode w.memory.u_ptrs w.memory.l_ptrs ≡ Ok tt
  unfolding start_test
  starts mode = refuse_false _ Room (rw (ne_eqb (length w.memory.u_ptrs) 0 u_first, ne_eqb (length w.memory.l_ptrs) 0 l_first) (and-false (keeps mode)))

  from_good : from_matrix_test p None a w.dense w.answers w.memory.u_ptrs w.memory.l_ptrs w.memory.pivots ≡ Ok tt
  unfolding from_matrix_test short_test
  from_good =
      lowest_skip _ s.rows
      ∙ lowest_skip _ (refuse_false _ Mismatch (rw (le-ltb (length w.dense) a.ncols s.dense, le-ltb (length w.memory.pivots) a.ncols s.table, le-ltb (length w.answers) a.nrows s.answers)))
      ∙ sym (lowest_last (sym (starts None)))

  det_good : a.nrows ≡ a.ncols → det_test p a w.dense w.memory.u_ptrs w.memory.l_ptrs w.memory.pivots ≡ Ok tt
  unfolding det_test
  det_good square =
      lowest_skip _ s.rows
      ∙ lowest_skip _ (refuse_false _ NotSquare (rw (eq-eqb a.nrows a.ncols square)))
      ∙ lowest_skip _ (refuse_false _ Mismatch (rw (le-ltb (length w.dense) a.ncols s.dense, le-ltb (length w.memory.pivots) a.ncols s.table)))
      ∙ sym (lowest_last (sym (starts Full)))

  abbrev o : Lists
  o = lists w.memory w.dense

  abbrev first : Outcome Worth Lists
  first = worth p a o

  -- what the rows are then taken in
  abbrev second : Night
  second = night first.memory.memory w.answers first.memory.dense

  abbrev by : Bool → Outcome Worth Lists
  by b = elim b [ true ↦ outcome (worth_of (det p a o).answer) (det p a o).memory | false ↦ outcome None o ]

  -- as long as it came
  worth_lengths : SameLengths second w
  unfolding worth
  worth_lengths = go (eqb a.nrows a.ncols)
    where
      go : (b : Bool) → SameLengths (night (by b).memory.memory w.answers (by b).memory.dense) w
      go true = let l = det_lengths p a o in record { memory = l.memory; answers = refl; dense = l.dense }
      go false = record { memory = same_itself w.memory; answers = refl; dense = refl }

  again : from_matrix_test p None a second.dense second.answers second.memory.u_ptrs second.memory.l_ptrs second.memory.pivots ≡ Ok tt
  again = from_again p a worth_lengths None ∙ from_good

  -- a determinant, where the matrix is square
  pub solve_determined : a.nrows ≡ a.ncols → (v : ℕ) × ((solve p a w).answer.det ≡ Some v)
  unfolding solve worth worth_of
  solve_determined square =
      let d = det_whole p a o (det_good square) s.plenty in
      (d.0.value, ap (λ (b : Bool). (by b).answer) (eq-eqb a.nrows a.ncols square) ∙ ap worth_of d.1)

  -- all rows
  pub solve_takes : AllTaken a.nrows (afresh p a w first).answer
  unfolding afresh
  solve_takes = from_matrix_whole false p None a second again (plenty_same worth_lengths.memory (plenty_none s.plenty))

  -- and a state
  pub solve_settled : Settled p a.ncols None (solve p a w).answer.counts (solve p a w).memory.memory
  unfolding solve afresh counts_after
  solve_settled =
      let t = solve_takes in
      subst (λ (x : Reduced). Settled p a.ncols None (counts_after p a.ncols x) (afresh p a w first).memory.memory) (sym t.is) (from_matrix_settled false false p None a second again t.run t.is)
