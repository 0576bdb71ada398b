-- The matrix that a text says is clean, where its entries have passed the tests.
-- Assumes nothing.
use Rattle.std.specs.Prelude.{Ok}
use mathlib.Core.Path.{◌≡◌, refl, sym, ap, ◌∙◌}
use mathlib.Core.Bool.{not}
use mathlib.Core.List.{List}
use Prim.Native.Nat.{ℕ, ◌+◌, ◌-◌, ◌≤◌, ◌<◌}
use native.Mathlib.Omega.{arith}
use lib.Dec.{eqb}
use lib.ListN.{length, get_or}
use borrow.Author.Tests.{le-ltb, ne_eqb}
use Rattle.field.proofs.Largest.{largest_modulus}
use Rattle.lists.specs.Table.{table}
use Rattle.sparse.specs.Matrix.{Matrix, matrix, part, row}
use Rattle.sparse.specs.Refusals.{refuse}
use Rattle.sparse.specs.Tests.{modulus_test, size_test, value_test, values_test, rows_values_test, well_formed, clean}
use Rattle.sparse.specs.declared.Refusal.TheVariants.{Modulus, Size, Zero}
use Rattle.sparse.specs.declared.inside.Clause.TheVariants.{Nonzero}
use Rattle.sparse.proofs.Cuts.{formed_laid}
use Rattle.sparse.proofs.Firsts.{refuse_false, lowest_skip, lowest_last, all_good}
use Rattle.meaning.proofs.BuiltForm.{form_good}
use Rattle.meaning.proofs.Parts.{length_part, get_d_part}
use Rattle.triplets.specs.Triplets.{Triplet, at, start_of}
use Rattle.market.specs.Asks.{rows_in, cols_in, values_in}
use Rattle.market.specs.Parse.{market_of}
use Rattle.market.specs.Tests.{modulus, entries_test}
use Rattle.reporting.specs.Said.{matrix_said}
use Rattle.reporting.proofs.Entries.{Small, small, placed, value_at_lem, many, parts, residues, places, order}

-- 2^31 - 1 is a modulus
modulus_good : modulus_test modulus ≡ Ok tt
unfolding modulus_test modulus
modulus_good = refuse_false _ Modulus (ap not (largest_modulus refl))

module _ (nrows ncols : ℕ) (ts : List Triplet) (good : entries_test nrows ncols ts ≡ Ok tt) where
  abbrev vals : List ℕ
  vals = values_in ts

  abbrev ptrs : List ℕ
  ptrs = table (nrows + 1) (start_of (rows_in ts))

  abbrev a : Matrix
  a = matrix nrows ncols ptrs (cols_in ts) vals

  sizes : size_test 65536 nrows ncols (length vals) ≡ Ok tt
  unfolding size_test
  sizes =
      let s : Small nrows ncols ts = small nrows ncols ts good in
      refuse_false _ Size (rw (le-ltb 1024 nrows (omega (arith, s.high)), le-ltb 1024 ncols (omega (arith, s.wide)), le-ltb 65536 (length vals) (omega (arith, s.few, many nrows ncols ts good))))

  formed : well_formed 65536 modulus a ≡ Ok tt
  unfolding well_formed
  formed =
      lowest_skip _ modulus_good
      ∙ lowest_skip _ sizes
      ∙ sym (lowest_last refl)
      ∙ form_good modulus nrows ncols (rows_in ts) (cols_in ts) vals (parts nrows ncols ts good) (residues nrows ncols ts good) (places nrows ncols ts good) (order nrows ncols ts good)

  stored : (i : ℕ) → i < nrows → values_test Nonzero modulus (row ptrs vals i) ≡ Ok tt
  unfolding values_test value_test row
  stored i h = all_good (length (part from to vals)) (λ k. value_test Nonzero modulus (get_or (part from to vals) k 0)) one
    where
      from : ℕ
      from = get_or ptrs i 0

      to : ℕ
      to = get_or ptrs (i + 1) 0

      fits : to ≤ length vals
      fits = (formed_laid 65536 modulus a formed).rows.within i h

      one : (k : ℕ) → k < length (part from to vals) → refuse (eqb (get_or (part from to vals) k 0) 0) Zero ≡ Ok tt
      one k l =
          let short : k < to - from = omega (arith, length_part from to vals fits) in
          let here : get_or (part from to vals) k 0 ≡ (at ts (from + k)).value = get_d_part from to vals k 0 short ∙ value_at_lem nrows ncols ts good (from + k) in
          rw here (refuse_false _ Zero (ne_eqb _ 0 (placed nrows ncols ts good (from + k) (omega (arith, fits, many nrows ncols ts good))).stored))

  pub said_clean : clean 65536 modulus (matrix_said (market_of nrows ncols ts)) ≡ Ok tt
  unfolding clean rows_values_test matrix_said
  said_clean = lowest_skip _ formed ∙ sym (lowest_last refl) ∙ all_good nrows (λ i. values_test Nonzero modulus (row ptrs vals i)) stored
