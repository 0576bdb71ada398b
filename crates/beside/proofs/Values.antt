-- What is joined beside a matrix, read as a matrix: which row stands where, and what value lies at each place.
-- Assumes nothing.
use mathlib.Core.Path.{◌≡◌, sym, ap, ap₂, ◌∙◌}
use mathlib.Core.Bool.{cond, ◌&&◌, and-true, and-false}
use mathlib.Core.List.{List, [], ◌∷◌, ◌++◌, map, map-map}
use Prim.Native.Nat.{ℕ, ◌+◌, ◌<◌}
use native.Mathlib.Decide.{ℕ_discrete}
use native.Mathlib.Nat.{add-zero, zero-add}
use native.Mathlib.Omega.{arith}
use lib.Dec.{eqb}
use lib.ListN.{length, get_or}
use borrow.Author.Tests.{eq-eqb, ne_eqb}
use Rattle.lists.specs.Find.{keep}
use Rattle.lists.specs.Sum.{Σ}
use Rattle.lists.specs.Table.{table}
use Rattle.lists.proofs.Sums.{sum-ext, sum-zero}
use Rattle.lists.proofs.Tables.{get_or-table, length-table}
use Rattle.sparse.specs.Matrix.{Matrix, value_in, value_at}
use Rattle.sparse.specs.Rows.{Entry, entry, entries, row_at, compressed}
use Rattle.meaning.proofs.Kept.{value_kept}
use Rattle.meaning.proofs.RowLists.{length-entries}
use Rattle.writing.proofs.Written.{row_of_rows, Given, value_past, value_more, value_written, value_of, stored, value_single}
use Rattle.beside.specs.Beside.{with_one, with_column}

module _ (k : ℕ) (m : Matrix) (i : ℕ) (h : i < m.nrows) where
  pub identity_row : row_at (compressed k (table m.nrows (with_one m))) i ≡ with_one m i
  identity_row = row_of_rows k (table m.nrows (with_one m)) i ∙ get_or-table m.nrows (with_one m) i [] h

  pub column_row : (v : List Entry) → row_at (compressed k (table m.nrows (with_column m v))) i ≡ with_column m v i
  column_row v = row_of_rows k (table m.nrows (with_column m v)) i ∙ get_or-table m.nrows (with_column m v) i [] h

module _ (m : Matrix) (g : Given m) (i j : ℕ) (h : i < m.nrows) where
  -- with f i beside row i, its values are added
  beside_value : (n : ℕ) (f : ℕ → List Entry) → value_at (compressed n (table m.nrows (λ i. row_at m i ++ f i))) i j ≡ value_at m i j + value_of (f i) j
  beside_value n f =
      value_written n (table m.nrows (λ i. row_at m i ++ f i)) i j (rw length-table h)
      ∙ ap (λ (es : List Entry). value_of es j) (get_or-table m.nrows (λ i. row_at m i ++ f i) i [] h)
      ∙ value_more (row_at m i) (f i) j
      ∙ ap (λ (x : ℕ). x + value_of (f i) j) (sym (stored m g i j h))

  -- `append_identity`: 1 at n + i, else what the matrix has, which past its columns is 0
  pub identity_value : value_at (compressed (m.ncols + m.nrows) (table m.nrows (with_one m))) i j ≡ cond (eqb (m.ncols + i) j) 1 (value_at m i j)
  unfolding with_one
  identity_value = beside_value (m.ncols + m.nrows) (λ i. entry (m.ncols + i) 1 ∷ []) ∙ ap (λ (x : ℕ). value_at m i j + x) (value_single (m.ncols + i) 1 j) ∙ go (ℕ_discrete (m.ncols + i) j)
    where
      go : Dec (m.ncols + i ≡ j) → value_at m i j + cond (eqb (m.ncols + i) j) 1 0 ≡ cond (eqb (m.ncols + i) j) 1 (value_at m i j)
      go (yes e) = rw (eq-eqb (m.ncols + i) j e) (ap (λ (x : ℕ). x + 1) (value_past m i j g.rows h (omega arith)))
      go (no e) = rw (ne_eqb (m.ncols + i) j e) (add-zero (value_at m i j))

  -- `append_col`: in column n what the vector has at i, else what the matrix has
  pub column_value : (idcs nums : List ℕ) → length idcs ≡ length nums → value_at (compressed (m.ncols + 1) (table m.nrows (with_column m (entries idcs nums)))) i j ≡ cond (eqb m.ncols j) (value_in idcs nums i) (value_at m i j)
  unfolding with_column value_in entries
  column_value idcs nums each = beside_value (m.ncols + 1) (λ i. map (λ e. entry m.ncols e.value) (keep (λ e. eqb e.col i) v)) ∙ go (ℕ_discrete m.ncols j)
    where
      v : List Entry
      v = entries idcs nums

      kept : List Entry
      kept = keep (λ e. eqb e.col i) v

      -- the sum over the vector's entries, those of index i in column n
      each_of : ℕ → ℕ
      each_of k = cond (eqb (get_or v k (entry 0 0)).col i && eqb m.ncols j) (get_or v k (entry 0 0)).value 0

      added : value_of (map (λ e. entry m.ncols e.value) kept) j ≡ Σ (length v) each_of
      added =
          ap₂ (λ (c w : List ℕ). value_in c w j) (map-map _ _ kept) (map-map _ _ kept)
          ∙ value_kept (λ (e : Entry). eqb e.col i) (λ e. m.ncols) (λ e. e.value) v (entry 0 0) j

      elsewhere : (m.ncols ≡ j → ⊥) → Σ (length v) each_of ≡ 0
      elsewhere e = sum-zero (length v) each_of (λ k l. ap (λ b. cond b (get_or v k (entry 0 0)).value 0) (ap (λ b. eqb (get_or v k (entry 0 0)).col i && b) (ne_eqb m.ncols j e) ∙ and-false (eqb (get_or v k (entry 0 0)).col i)))

      there : m.ncols ≡ j → Σ (length v) each_of ≡ value_in idcs nums i
      there e =
          ap (λ (n : ℕ). Σ n each_of) (length-entries idcs nums ∙ sym each)
          ∙ sum-ext (length idcs) each_of (λ k. cond (eqb (get_or idcs k 0) i) (get_or nums k 0) 0) (λ k l.
          ap (λ (x : Entry). cond (eqb x.col i && eqb m.ncols j) x.value 0) (get_or-table (length nums) (λ k. entry (get_or idcs k 0) (get_or nums k 0)) k (entry 0 0) (omega arith))
          ∙ ap (λ b. cond b (get_or nums k 0) 0) (ap (λ b. eqb (get_or idcs k 0) i && b) (eq-eqb m.ncols j e) ∙ and-true (eqb (get_or idcs k 0) i)))

      go : Dec (m.ncols ≡ j) → value_at m i j + value_of (map (λ e. entry m.ncols e.value) kept) j ≡ cond (eqb m.ncols j) (value_in idcs nums i) (value_at m i j)
      go (yes e) = rw (eq-eqb m.ncols j e) (ap₂ (λ (x y : ℕ). x + y) (value_past m i j g.rows h (omega arith)) (added ∙ there e) ∙ zero-add (value_in idcs nums i))
      go (no e) = rw (ne_eqb m.ncols j e) (ap (λ (x : ℕ). value_at m i j + x) (added ∙ elsewhere e) ∙ add-zero (value_at m i j))
