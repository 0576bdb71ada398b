-- U in memory, row by row: what its tests say of each row, and that rows of which this holds pass the tests.
-- Assumes nothing.
use Rattle.std.specs.Prelude.{Ok}
use mathlib.Core.Path.{◌≡◌, refl, sym, ap, ap₂, ◌∙◌}
use mathlib.Core.Bool.{false, not, ◌&&◌, ◌||◌}
use mathlib.Core.List.{List}
use Prim.Native.Nat.{ℕ, ◌+◌, ◌≤◌, ◌<◌}
use native.Mathlib.Decide.{ℕ_discrete}
use native.Mathlib.Omega.{arith}
use borrow.Author.Tests.{eq-eqb, ne_eqb, lt-leb, le-ltb}
use lib.Dec.{eqb, leb}
use lib.ListN.{length, get_or, take}
use lib.Seq.{get_or-take, length-take-le}
use Rattle.lists.proofs.Find.{any_none}
use Rattle.sparse.specs.Matrix.{Matrix, matrix, part, row}
use Rattle.sparse.specs.Pivots.{mark}
use Rattle.sparse.specs.Refusals.{refuse, ◌else◌}
use Rattle.sparse.specs.Tests.{modulus_test, size_test, shape_test, columns_test, row_test, rows_test, values_test, rows_values_test, matrix_test, well_formed, clean}
use Rattle.sparse.specs.declared.inside.Clause.{Clause}
use Rattle.sparse.specs.declared.inside.Clause.TheVariants.{Residue, Nonzero}
use Rattle.sparse.proofs.Firsts.{lowest_good, lowest_next, lowest_last, each_good, all_good}
use Rattle.meaning.proofs.RowColumns.{climbs_good}
use Rattle.state.specs.Asks.{Opened}
use Rattle.state.specs.State.{head_of, headless, misplaced, u_fault, u_lost, u_rows}
use Rattle.state.proofs.Faults.{Held, lost_none}
use Rattle.walk.specs.Asks.{PivotRow}
use Rattle.walk.specs.Step.{pivot_at}
use Rattle.steps.specs.Setting.{Tabled}
use Rattle.states.proofs.Echelons.{part_front, state_clean, lies, ptr, within, head_at, state_row}
use Rattle.keeping.proofs.Storables.{Storables, storables_pass, pass_storables}

-- row r has its head of 1 at column h, ends within the fill, and has values in 1..p-1
pub record Fine (p n fill h : ℕ) (cols vals ptrs : List ℕ) (r : ℕ) : Type 0 where
  pub pivot : PivotRow n h cols vals ptrs r
  pub fits : get_or ptrs (r + 1) 0 ≤ fill
  pub values : Storables p (row ptrs vals r)

-- such rows with heads h, one after the other, from 0 to the fill
pub record Upright (p n rank fill : ℕ) (cols vals ptrs : List ℕ) (h : ℕ → ℕ) : Type 0 where
  pub starts : get_or ptrs 0 0 ≡ 0
  pub ends : get_or ptrs rank 0 ≡ fill
  pub rows : (r : ℕ) → r < rank → Fine p n fill (h r) cols vals ptrs r

-- a row of the fronts is the whole lists'
pub row_front : (rows fill : ℕ) (ptrs xs : List ℕ) (r : ℕ) → r < rows → get_or ptrs (r + 1) 0 ≤ fill → fill ≤ length xs → row (take (rows + 1) ptrs) (take fill xs) r ≡ row ptrs xs r
unfolding row
row_front rows fill ptrs xs r h within fits =
    ap₂ (λ (a b : ℕ). part a b (take fill xs)) (get_or-take (rows + 1) ptrs r 0 (omega arith)) (get_or-take (rows + 1) ptrs (r + 1) 0 (omega arith))
    ∙ part_front (get_or ptrs r 0) (get_or ptrs (r + 1) 0) fill xs within fits

-- 6 and 7 find nothing in the rows of a clean matrix
clean_values : (limit p : ℕ) (m : Matrix) → clean limit p m ≡ Ok tt → (c : Clause) → rows_values_test c p m.nrows m.row_ptrs m.values ≡ Ok tt
unfolding clean well_formed matrix_test
clean_values limit p m e Nonzero = (lowest_good _ _ (lowest_good _ _ e).1).0
clean_values limit p m e Residue = (lowest_good _ _ (lowest_good _ _ (lowest_good _ _ (lowest_good _ _ (lowest_good _ _ (lowest_good _ _ (lowest_good _ _ e).0).1).1).0).1).1).0

module _ (p n rank fill : ℕ) (cols vals ptrs pivots : List ℕ) (o : Opened p n pivots)
    (found : u_lost rank fill cols vals ptrs ≡ false) (sound : u_fault p (u_rows n rank fill cols vals ptrs) pivots ≡ false) where
  held : Held rank fill cols vals ptrs
  held = lost_none rank fill cols vals ptrs found

  pub state_upright : Upright p n rank fill cols vals ptrs (head_at p n rank fill cols vals ptrs pivots o found sound)
  unfolding rows_values_test
  state_upright = record {
    starts = sym (ptr p n rank fill cols vals ptrs pivots o found sound 0 (omega arith)) ∙ (lies p n rank fill cols vals ptrs pivots o found sound).shape.starts;
    ends = sym (ptr p n rank fill cols vals ptrs pivots o found sound rank (omega arith)) ∙ (lies p n rank fill cols vals ptrs pivots o found sound).shape.ends ∙ length-take-le fill vals held.numbers;
    rows = fine;
  }
    where
      fine : (r : ℕ) → r < rank → Fine p n fill (head_at p n rank fill cols vals ptrs pivots o found sound r) cols vals ptrs r
      fine r h =
          let inside = within p n rank fill cols vals ptrs pivots o found sound r h in
          let tests : (c : Clause) → rows_values_test c p rank (take (rank + 1) ptrs) (take fill vals) ≡ Ok tt = clean_values 1048576 p (matrix rank n (take (rank + 1) ptrs) (take fill cols) (take fill vals)) (state_clean p n rank fill cols vals ptrs pivots o found sound) in
          record {
            pivot = state_row p n rank fill cols vals ptrs pivots o found sound r h;
            fits = inside.fits;
            values = pass_storables (λ c. ap (values_test c p) (sym (row_front rank fill ptrs vals r h inside.fits held.numbers)) ∙ each_good rank (λ i. values_test c p (row (take (rank + 1) ptrs) (take fill vals) i)) (tests c) r h);
          }

module _ {p n rank fill : ℕ} {cols vals ptrs : List ℕ} {h : ℕ → ℕ} (held : Held rank fill cols vals ptrs) (u : Upright p n rank fill cols vals ptrs h)
    (modulus : modulus_test p ≡ Ok tt) (high : rank ≤ 1024) (wide : n ≤ 1024) where
  abbrev m : Matrix
  m = matrix rank n (take (rank + 1) ptrs) (take fill cols) (take fill vals)

  pointer : (r : ℕ) → r ≤ rank → get_or (take (rank + 1) ptrs) r 0 ≡ get_or ptrs r 0
  pointer r l = get_or-take (rank + 1) ptrs r 0 (omega arith)

  long_cols : length (take fill cols) ≡ fill
  long_cols = length-take-le fill cols held.columns

  long_vals : length (take fill vals) ≡ fill
  long_vals = length-take-le fill vals held.numbers

  sized : size_test 1048576 rank n (length (take fill vals)) ≡ Ok tt
  unfolding size_test refuse
  sized = rw (le-ltb 1024 rank high, le-ltb 1024 n wide, le-ltb 1048576 (length (take fill vals)) (omega (arith, long_vals, held.few)))

  shaped : shape_test m ≡ Ok tt
  unfolding shape_test refuse
  shaped = rw (
    eq-eqb (length (take fill cols)) (length (take fill vals)) (long_cols ∙ sym long_vals),
    eq-eqb (length (take (rank + 1) ptrs)) (rank + 1) (length-take-le (rank + 1) ptrs held.pointers),
    eq-eqb (get_or (take (rank + 1) ptrs) 0 0) 0 (pointer 0 (omega arith) ∙ u.starts),
    eq-eqb (get_or (take (rank + 1) ptrs) rank 0) (length (take fill vals)) (pointer rank (omega arith) ∙ u.ends ∙ sym long_vals),
  )

  lined : rows_test rank n (take (rank + 1) ptrs) (take fill cols) ≡ Ok tt
  unfolding rows_test row_test refuse ◌else◌ row
  lined = all_good rank (λ i. row_test n (take fill cols) (get_or (take (rank + 1) ptrs) i 0) (get_or (take (rank + 1) ptrs) (i + 1) 0)) one
    where
      one : (i : ℕ) → i < rank → row_test n (take fill cols) (get_or (take (rank + 1) ptrs) i 0) (get_or (take (rank + 1) ptrs) (i + 1) 0) ≡ Ok tt
      one i l =
          let a : get_or (take (rank + 1) ptrs) i 0 ≡ get_or ptrs i 0 = pointer i (omega arith) in
          let b : get_or (take (rank + 1) ptrs) (i + 1) 0 ≡ get_or ptrs (i + 1) 0 = pointer (i + 1) (omega arith) in
          rw (
            le-ltb (get_or (take (rank + 1) ptrs) (i + 1) 0) (get_or (take (rank + 1) ptrs) i 0) (omega (arith, (u.rows i l).pivot.filled)),
            le-ltb (length (take fill cols)) (get_or (take (rank + 1) ptrs) (i + 1) 0) (omega (arith, (u.rows i l).fits, long_cols)),
          )
          (ap (columns_test n) (row_front rank fill ptrs cols i l (u.rows i l).fits held.columns) ∙ climbs_good n (row ptrs cols i) (u.rows i l).pivot.climbs)

  valued : (c : Clause) → rows_values_test c p rank (take (rank + 1) ptrs) (take fill vals) ≡ Ok tt
  unfolding rows_values_test
  valued c = all_good rank (λ i. values_test c p (row (take (rank + 1) ptrs) (take fill vals) i)) (λ i l. ap (values_test c p) (row_front rank fill ptrs vals i l (u.rows i l).fits held.numbers) ∙ storables_pass (u.rows i l).values c)

  pub upright_clean : clean 1048576 p m ≡ Ok tt
  unfolding clean well_formed matrix_test
  upright_clean = sym (lowest_next _ refl formed (lowest_last (sym (valued Nonzero))))
    where
      formed : well_formed 1048576 p m ≡ Ok tt
      formed = sym (lowest_next _ refl modulus (lowest_next _ refl sized (lowest_last (lowest_next _ refl shaped (lowest_next _ refl lined (lowest_last (sym (valued Residue))))))))

  head_here : (r : ℕ) → r < rank → head_of m r ≡ h r
  unfolding head_of
  head_here r l =
      ap (λ (k : ℕ). get_or (take fill cols) k 0) (pointer r (omega arith))
      ∙ get_or-take fill cols (get_or ptrs r 0) 0 (omega (arith, (u.rows r l).pivot.filled, (u.rows r l).fits))
      ∙ (u.rows r l).pivot.starts

  module _ {pivots : List ℕ} (table : Tabled n rank h pivots) where
    headed : (r : ℕ) → r < rank → headless m pivots r ≡ false
    unfolding headless pivot_at
    headed r l =
        let a : get_or (take (rank + 1) ptrs) r 0 ≡ get_or ptrs r 0 = pointer r (omega arith) in
        let b : get_or (take (rank + 1) ptrs) (r + 1) 0 ≡ get_or ptrs (r + 1) 0 = pointer (r + 1) (omega arith) in
        let one : get_or (take fill vals) (get_or ptrs r 0) 0 ≡ 1 = get_or-take fill vals (get_or ptrs r 0) 0 (omega (arith, (u.rows r l).pivot.filled, (u.rows r l).fits)) ∙ (u.rows r l).pivot.one in
        rw (
          lt-leb (get_or (take (rank + 1) ptrs) (r + 1) 0) (get_or (take (rank + 1) ptrs) r 0) (omega (arith, (u.rows r l).pivot.filled)),
          eq-eqb (get_or (take fill vals) (get_or (take (rank + 1) ptrs) r 0) 0) 1 (ap (λ (k : ℕ). get_or (take fill vals) k 0) a ∙ one),
          eq-eqb (get_or pivots (head_of m r) 0) r (ap (λ (k : ℕ). get_or pivots k 0) (head_here r l) ∙ table.holds r l),
        )

    placed : (j : ℕ) → j < n → misplaced m pivots j ≡ false
    unfolding misplaced pivot_at
    placed j l = go (ℕ_discrete (get_or pivots j 0) mark)
      where
        go : Dec (get_or pivots j 0 ≡ mark) → (not (eqb (get_or pivots j 0) mark) && (leb rank (get_or pivots j 0) || not (eqb (head_of m (get_or pivots j 0)) j))) ≡ false
        go (yes e) = rw (eq-eqb (get_or pivots j 0) mark e)
        go (no e) =
            let low : get_or pivots j 0 < rank = table.row j l e in
            rw (
              ne_eqb (get_or pivots j 0) mark e,
              lt-leb rank (get_or pivots j 0) low,
              eq-eqb (head_of m (get_or pivots j 0)) j (head_here (get_or pivots j 0) low ∙ table.head j l e),
            )

    -- rows that stand so, and their table, pass U's test
    pub upright_sound : u_fault p (u_rows n rank fill cols vals ptrs) pivots ≡ false
    unfolding u_fault u_rows
    upright_sound = rw (upright_clean, any_none rank (headless m pivots) headed, any_none n (misplaced m pivots) placed)
