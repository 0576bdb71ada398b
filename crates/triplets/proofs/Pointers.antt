-- Row pointers as they are written: the first, one more, and all.
-- Assumes nothing.
use mathlib.Core.Path.{◌≡◌, sym, ap, ◌∙◌}
use mathlib.Core.List.{List, ◌++◌}
use Prim.Native.Nat.{ℕ, ◌+◌, ◌<◌}
use native.Mathlib.Omega.{arith}
use lib.ListN.{length, set}
use lib.Seq.{drop-set-lt}
use Rattle.lists.specs.Onto.{◌onto◌}
use Rattle.lists.specs.Table.{table}
use Rattle.lists.proofs.Tables.{length-table, table_none, table_more}
use Rattle.triplets.specs.Triplets.{start_of}
use Rattle.triplets.proofs.Starts.{start_zero}

-- what is written over doesn't matter
onto_over {ℓ} : {A : Type ℓ} (new old : List A) (i : ℕ) (a : A) → i < length new → new onto set old i a ≡ new onto old
unfolding ◌onto◌
onto_over new old i a h = ap (λ l. new ++ l) (drop-set-lt (length new) old i a h)

module _ (rows old : List ℕ) where
  -- pointers over memory whose first is 0 already
  over_first : (n : ℕ) → table (n + 1) (start_of rows) onto set old 0 0 ≡ table (n + 1) (start_of rows) onto old
  over_first n = onto_over (table (n + 1) (start_of rows)) old 0 0 (rw length-table (omega arith))

  pub pointers_first : 0 < length old → set old 0 0 ≡ table (0 + 1) (start_of rows) onto set old 0 0
  pointers_first h =
      ap (λ (x : ℕ). set old 0 x) (sym (start_zero rows))
      ∙ ap (λ (l : List ℕ). set l 0 (start_of rows 0)) (table_none (start_of rows) old)
      ∙ table_more 0 (start_of rows) old h
      ∙ sym (over_first 0)

  pub pointers_more : (ptrs : List ℕ) (row start : ℕ) → ptrs ≡ table (row + 1) (start_of rows) onto old → start ≡ start_of rows (row + 1) → row + 1 < length old → set ptrs (row + 1) start ≡ table (row + 1 + 1) (start_of rows) onto old
  pointers_more ptrs row start front next h =
      ap (λ (x : ℕ). set ptrs (row + 1) x) next
      ∙ ap (λ (l : List ℕ). set l (row + 1) (start_of rows (row + 1))) front
      ∙ table_more (row + 1) (start_of rows) old h

  pub pointers_all : (ptrs : List ℕ) (row n : ℕ) → ptrs ≡ table (row + 1) (start_of rows) onto set old 0 0 → row ≡ n → ptrs ≡ table (n + 1) (start_of rows) onto old
  pointers_all ptrs row n done end = done ∙ over_first row ∙ ap (λ (k : ℕ). table (k + 1) (start_of rows) onto old) end
