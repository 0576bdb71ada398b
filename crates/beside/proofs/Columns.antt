-- `append_col`: what the cursor over the vector's entries finds at row i, and how many entries the result has.
-- Assumes nothing.
use mathlib.Core.Path.{◌≡◌, refl, sym, ap, ap₂, ◌∙◌}
use mathlib.Core.List.{List, [], ◌∷◌, map, map-id, flatten}
use Prim.Native.Nat.{ℕ, ◌+◌, ◌≤◌, ◌<◌}
use native.Mathlib.Nat.{add-zero}
use native.Mathlib.Omega.{arith}
use lib.Dec.{ltb, eqb}
use lib.ListN.{length, get_or}
use Rattle.lists.specs.Find.{count, keep}
use Rattle.lists.specs.Table.{table}
use Rattle.lists.proofs.Counts.{count_map}
use Rattle.lists.proofs.Tables.{length-table, get_or-table}
use Rattle.sparse.specs.Matrix.{Matrix}
use Rattle.sparse.specs.Rows.{Entry, entry, entries, row_at}
use Rattle.sparse.proofs.Cuts.{Laid}
use Rattle.meaning.proofs.RowLists.{length-entries, entry_cols}
use Rattle.writing.proofs.MatrixRows.{rows_each, rows_long}
use Rattle.writing.proofs.Puttings.{Sized}
use Rattle.joining.specs.Asks.{Strict}
use Rattle.beside.specs.Asks.{Cursor}
use Rattle.beside.specs.Beside.{with_column}
use Rattle.beside.specs.Parts.{in_column}
use Rattle.beside.proofs.Cursors.{count_up, count_all, kept_all, keep_one, keep_met, keep_missed, keep_ended}
use Rattle.beside.proofs.Sizes.{length-beside}

-- where the cursor stands after row i
module _ {idcs : List ℕ} {i k : ℕ} (c : Cursor idcs i k) where
  strict : Strict (map (λ (x : ℕ). x) idcs)
  strict = rw (map-id idcs) c.strict

  next : (n : ℕ) → length (keep (λ (x : ℕ). eqb x i) idcs) ≡ n → k + n ≡ count (λ x. ltb x (i + 1)) idcs
  next n e = ap₂ (λ (a b : ℕ). a + b) c.stands (sym e) ∙ sym (count_up (λ (x : ℕ). x) i idcs)

  pub cursor_met : k < length idcs → get_or idcs k 0 ≡ i → k + 1 ≡ count (λ x. ltb x (i + 1)) idcs
  cursor_met h e = next 1 (keep_met (λ (x : ℕ). x) i k idcs 0 strict c.stands h e)

  pub cursor_missed : k < length idcs → (get_or idcs k 0 ≡ i → ⊥) → k ≡ count (λ x. ltb x (i + 1)) idcs
  cursor_missed h e = sym (add-zero k) ∙ next 0 (keep_missed (λ (x : ℕ). x) i k idcs 0 strict c.stands h e)

  pub cursor_ended : length idcs ≤ k → k ≡ count (λ x. ltb x (i + 1)) idcs
  cursor_ended h = sym (add-zero k) ∙ next 0 (keep_ended (λ (x : ℕ). x) i k idcs strict c.stands h)

module _ (idcs nums : List ℕ) (each : length idcs ≡ length nums) where
  abbrev v : List Entry
  v = entries idcs nums

  -- counted among the indices, or among the entries
  count_entries : (i : ℕ) → count (λ x. ltb x i) idcs ≡ count (λ (e : Entry). ltb e.col i) v
  count_entries i = ap (count (λ x. ltb x i)) (sym (entry_cols idcs nums each)) ∙ count_map (λ x. ltb x i) (λ (e : Entry). e.col) v

  -- what the vector adds to row i, by how far the cursor moves
  module _ {i k after : ℕ} (c : Cursor idcs i k) (moves : after ≡ count (λ x. ltb x (i + 1)) idcs) where
    many : after ≡ k + length (keep (λ (e : Entry). eqb e.col i) v)
    many = moves ∙ count_entries (i + 1) ∙ count_up (λ (e : Entry). e.col) i v ∙ ap (λ (n : ℕ). n + length (keep (λ (e : Entry). eqb e.col i) v)) (sym (c.stands ∙ count_entries i))

    pub column_none : (n : ℕ) → after ≡ k → in_column n v i ≡ []
    unfolding in_column
    column_none n e = nil (keep (λ (x : Entry). eqb x.col i) v) (omega (arith, many)) (λ (x : Entry). entry n x.value)
      where
        nil : (l : List Entry) → length l ≡ 0 → (g : Entry → Entry) → map g l ≡ []
        nil [] h g = refl
        nil (x ∷ xs) h g = absurd (omega arith)

    pub column_one : (n : ℕ) → (after ≡ k → ⊥) → (k < length nums) × (in_column n v i ≡ entry n (get_or nums k 0) ∷ [])
    unfolding in_column entries
    column_one n ne =
        let strict : Strict (map (λ (e : Entry). e.col) v) = rw (entry_cols idcs nums each) c.strict in
        let one = keep_one (λ (e : Entry). e.col) i k v (entry 0 0) strict (c.stands ∙ count_entries i) (λ z. ne (omega (arith, many))) in
        let below : k < length nums = rw length-entries at one.0 in
        (below, ap (map (λ (x : Entry). entry n x.value)) one.1 ∙ ap (λ (x : Entry). entry n x.value ∷ []) (get_or-table (length nums) (λ j. entry (get_or idcs j 0) (get_or nums j 0)) k (entry 0 0) below))

  -- how many entries the result has
  pub column_sized : (m : Matrix) → Laid m → ((k : ℕ) → k < length idcs → get_or idcs k 0 < m.nrows) → Sized (table m.nrows (with_column m v)) m.nrows (length m.values + length nums)
  unfolding with_column
  column_sized m h below = record {
    many = length-table m.nrows (with_column m v);
    long =
        length-beside m.nrows (row_at m) (λ i. map (λ e. entry m.ncols e.value) (keep (λ e. eqb e.col i) v))
        ∙ ap₂ (λ (a b : ℕ). a + b) (ap (λ (rs : List (List Entry)). length (flatten rs)) (rows_each m) ∙ rows_long m h)
        (kept_all (λ (e : Entry). e.col) (λ e. entry m.ncols e.value) m.nrows v
        ∙ count_all (λ (e : Entry). e.col) m.nrows v (rw (entry_cols idcs nums each) below)
        ∙ length-entries idcs nums);
  }
