-- Ordered triplets within the shape, compressed: none of 3 to 6 applies.
-- Assumes nothing.
use Rattle.std.specs.Prelude.{Ok}
use mathlib.Core.Path.{◌≡◌, refl, sym, ◌∙◌}
use mathlib.Core.Bool.{false, ◌&&◌, ◌||◌, and-false}
use mathlib.Core.List.{List}
use Prim.Native.Nat.{ℕ, ◌+◌, ◌-◌, ◌≤◌, ◌<◌}
use native.Mathlib.Decide.{dec_lt}
use native.Mathlib.Omega.{arith}
use lib.Dec.{leb, ltb}
use lib.ListN.{length, get_or}
use borrow.Author.Tests.{leb-false, lt-leb, le-ltb, eq-eqb}
use Rattle.lists.specs.Table.{table}
use Rattle.lists.proofs.Tables.{length-table, get_or-table}
use Rattle.triplets.specs.Asks.{Parts, Rising}
use Rattle.sparse.specs.Matrix.{matrix, part, row}
use Rattle.sparse.specs.Refusals.{refuse, ◌else◌}
use Rattle.sparse.specs.Tests.{shape_test, column_test, columns_test, row_test, rows_test, value_test, values_test, rows_values_test, matrix_test}
use Rattle.triplets.specs.Triplets.{triplets, at, place_test, places_test, order_test, start_of}
use Rattle.sparse.specs.declared.Refusal.TheVariants.{Column, Value, Outside}
use Rattle.sparse.specs.declared.inside.Clause.TheVariants.{Residue}
use Rattle.sparse.proofs.Firsts.{refuse_false, refuse_good, neither, lowest_skip, lowest_last, each_good, all_good}
use Rattle.meaning.proofs.Parts.{length_part, get_d_part}
use Rattle.triplets.proofs.Orders.{Before, lower, beside, ordered, rising}
use Rattle.triplets.proofs.Starts.{start_zero, start_within, start_rises, start_all, row_at_lem}
use Rattle.triplets.proofs.TripletLists.{length-triplets, at_triplets}

-- by 8 each triplet lies within the shape
pub within : (nrows ncols : ℕ) (rows cols vals : List ℕ) → places_test nrows ncols (triplets rows cols vals) ≡ Ok tt → (k : ℕ) → k < length vals → (get_or rows k 0 < nrows) × (get_or cols k 0 < ncols)
unfolding places_test place_test
within nrows ncols rows cols vals good k h =
    let one = each_good (length (triplets rows cols vals)) (λ k. place_test nrows ncols (at (triplets rows cols vals) k)) good k (rw length-triplets h) in
    let none = neither (leb nrows (get_or rows k 0)) (leb ncols (get_or cols k 0)) (refuse_good _ Outside (rw (at_triplets rows cols vals k h) at one)) in
    (leb-false _ _ none.0, leb-false _ _ none.1)

-- by 6 each value is below p
pub below_p : (p : ℕ) (vals : List ℕ) → values_test Residue p vals ≡ Ok tt → (k : ℕ) → k < length vals → get_or vals k 0 < p
unfolding values_test value_test
below_p p vals good k h = leb-false _ _ (refuse_good _ Value (each_good (length vals) (λ k. value_test Residue p (get_or vals k 0)) good k h))

-- and so in each part of the values
part_values : (p a b : ℕ) (vals : List ℕ) → b ≤ length vals → ((k : ℕ) → k < length vals → get_or vals k 0 < p) → values_test Residue p (part a b vals) ≡ Ok tt
unfolding values_test value_test
part_values p a b vals fits low = all_good (length (part a b vals)) (λ k. value_test Residue p (get_or (part a b vals) k 0)) one
  where
    one : (k : ℕ) → k < length (part a b vals) → refuse (leb p (get_or (part a b vals) k 0)) Value ≡ Ok tt
    one k h =
        let h' : k < b - a = rw (length_part a b vals fits) at h in
        rw (get_d_part a b vals k 0 h') (refuse_false _ Value (lt-leb p (get_or vals (a + k) 0) (low (a + k) (omega arith))))

-- columns of a part that rise within the column count
part_columns : (n a b : ℕ) (cols : List ℕ) → b ≤ length cols → ((k : ℕ) → k < length cols → get_or cols k 0 < n) → ((k : ℕ) → a ≤ k → k + 1 < b → get_or cols k 0 < get_or cols (k + 1) 0) → columns_test n (part a b cols) ≡ Ok tt
unfolding columns_test column_test
part_columns n a b cols fits low rise = all_good (length (part a b cols)) (column_test n (part a b cols)) one
  where
    above : (k : ℕ) → k < b - a → Dec (0 < k) → (ltb 0 k && leb (get_or (part a b cols) k 0) (get_or (part a b cols) (k - 1) 0)) ≡ false
    above k h (no first) = rw (le-ltb 0 k (omega arith))
    above k h (yes later) =
        let h' : k - 1 < b - a = omega arith in
        let next : a + (k - 1) + 1 ≡ a + k = omega arith in
        let up : get_or cols (a + (k - 1)) 0 < get_or cols (a + k) 0 = rw next at (rise (a + (k - 1)) (omega arith) (omega arith)) in
        rw (get_d_part a b cols k 0 h, get_d_part a b cols (k - 1) 0 h', lt-leb _ _ up) (and-false (ltb 0 k))

    one : (k : ℕ) → k < length (part a b cols) → refuse (leb n (get_or (part a b cols) k 0) || ltb 0 k && leb (get_or (part a b cols) k 0) (get_or (part a b cols) (k - 1) 0)) Column ≡ Ok tt
    one k h =
        let h' : k < b - a = rw (length_part a b cols fits) at h in
        let under : leb n (get_or (part a b cols) k 0) ≡ false = rw (get_d_part a b cols k 0 h') (lt-leb n (get_or cols (a + k) 0) (low (a + k) (omega arith))) in
        refuse_false _ Column (rw under (above k h' (dec_lt 0 k)))

module _ (p nrows ncols : ℕ) (rows cols vals : List ℕ) (parts : Parts rows cols vals) (residues : values_test Residue p vals ≡ Ok tt) (places : places_test nrows ncols (triplets rows cols vals) ≡ Ok tt) (order : order_test (triplets rows cols vals) ≡ Ok tt) where
  abbrev ptrs : List ℕ
  ptrs = table (nrows + 1) (start_of rows)

  up : Rising rows
  up = rising rows cols vals order parts

  ptr_at : (i : ℕ) → i < nrows + 1 → get_or ptrs i 0 ≡ start_of rows i
  ptr_at i h = get_or-table (nrows + 1) (start_of rows) i 0 h

  shape : shape_test (matrix nrows ncols ptrs cols vals) ≡ Ok tt
  unfolding shape_test refuse
  shape =
      let last : get_or ptrs nrows 0 ≡ length vals = ptr_at nrows (omega arith) ∙ start_all rows nrows up (λ k h. (within nrows ncols rows cols vals places k (omega arith)).0) ∙ parts.row_each in
      rw (eq-eqb (length cols) (length vals) parts.col_each, eq-eqb (length ptrs) (nrows + 1) (length-table (nrows + 1) (start_of rows)), eq-eqb (get_or ptrs 0 0) 0 (ptr_at 0 (omega arith) ∙ start_zero rows), eq-eqb (get_or ptrs nrows 0) (length vals) last)

  -- columns rise within a row
  col_step : (i k : ℕ) → start_of rows i ≤ k → k + 1 < start_of rows (i + 1) → get_or cols k 0 < get_or cols (k + 1) 0
  col_step i k past below = go (ordered rows cols vals order k (omega (arith, start_within rows (i + 1))))
    where
      go : Before (get_or rows k 0) (get_or cols k 0) (get_or rows (k + 1) 0) (get_or cols (k + 1) 0) → get_or cols k 0 < get_or cols (k + 1) 0
      go (beside e b) = b
      go (lower b) = absurd (omega (arith, row_at_lem rows i k up past (omega arith), row_at_lem rows i (k + 1) up (omega arith) below))

  row_good : (i : ℕ) → i < nrows → row_test ncols cols (get_or ptrs i 0) (get_or ptrs (i + 1) 0) ≡ Ok tt
  unfolding row_test ◌else◌ refuse
  row_good i h =
      let order' = start_rises rows i (i + 1) up (omega arith) in
      let fits : start_of rows (i + 1) ≤ length cols = omega (arith, start_within rows (i + 1)) in
      rw (ptr_at i (omega arith), ptr_at (i + 1) (omega arith), le-ltb _ _ order', le-ltb _ _ fits)
      (part_columns ncols (start_of rows i) (start_of rows (i + 1)) cols fits (λ k b. (within nrows ncols rows cols vals places k (omega arith)).1) (col_step i))

  values_good : (i : ℕ) → i < nrows → values_test Residue p (row ptrs vals i) ≡ Ok tt
  unfolding row
  values_good i h =
      let fits : start_of rows (i + 1) ≤ length vals = omega (arith, start_within rows (i + 1)) in
      rw (ptr_at i (omega arith), ptr_at (i + 1) (omega arith))
      (part_values p (start_of rows i) (start_of rows (i + 1)) vals fits (below_p p vals residues))

  pub form_good : matrix_test p (matrix nrows ncols (table (nrows + 1) (start_of rows)) cols vals) ≡ Ok tt
  unfolding matrix_test rows_test rows_values_test
  form_good =
      lowest_skip _ shape
      ∙ lowest_skip _ (all_good nrows (λ i. row_test ncols cols (get_or ptrs i 0) (get_or ptrs (i + 1) 0)) row_good)
      ∙ sym (lowest_last refl)
      ∙ all_good nrows (λ i. values_test Residue p (row ptrs vals i)) values_good
