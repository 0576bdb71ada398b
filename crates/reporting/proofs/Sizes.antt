-- How long the output is: within 64 rows and columns a piece with its comma has at most 30 bytes, and U at most 64 × 64 pieces.
-- Assumes nothing.
use Rattle.std.specs.Prelude.{Ok}
use mathlib.Core.Path.{◌≡◌, refl, ap, ◌∙◌}
use mathlib.Core.List.{List, [], ◌∷◌, ◌++◌, map, flatten}
use Prim.Native.Nat.{ℕ, zero, suc, ◌+◌, ◌*◌, ◌/◌, ◌%◌, ◌≤◌, ◌<◌}
use native.Mathlib.Decide.{dec_lt}
use native.Mathlib.Omega.{arith}
use lib.ListN.{length, get_or, length-append}
use Rattle.lists.specs.Table.{table}
use Rattle.lists.proofs.Tables.{get_or-table}
use Rattle.sparse.specs.Matrix.{Matrix, row}
use Rattle.sparse.specs.Rows.{Entry, entry, entries, rows_of, row_at}
use Rattle.sparse.specs.Tests.{clean}
use Rattle.meaning.proofs.CleanRows.{clean_row, clean_entries}
use Rattle.meaning.proofs.RowLists.{flatten_snoc, length-entries}
use Rattle.steps.proofs.Entries.{climbs_few}
use Rattle.text.specs.Decimals.{decimal, glyph}
use Rattle.text.specs.Mma.{piece, commas, mma, matrix_text}
use Rattle.text.proofs.Digits.{decimal_most, decimal_low, decimal_high}

-- a number below 100 has at most two digits
decimal_two : (n : ℕ) → n < 100 → length (decimal n) ≤ 2
decimal_two n h = go (dec_lt n 10)
  where
    go : Dec (n < 10) → length (decimal n) ≤ 2
    go (yes low) = omega (arith, ap length (decimal_low n low))
    go (no high) =
        let tenth : n / 10 < 10 = omega arith in
        omega (arith, ap length (decimal_high n (omega arith) (omega arith)), length-append (decimal (n / 10)) (glyph (n % 10) ∷ []), ap length (decimal_low (n / 10) tenth))

piece_short : (i j v : ℕ) → i < 64 → j < 64 → length (piece i j v) ≤ 29
unfolding piece
piece_short i j v h l = simp length-append (omega (arith, decimal_two (i + 1) (omega arith), decimal_two (j + 1) (omega arith), decimal_most v))

-- the bytes of pieces, a comma to each
unfoldable weight : List (List ℕ) → ℕ
weight [] = 0
weight (x ∷ xs) = length x + 1 + weight xs

commas_few : (xs : List (List ℕ)) → length (commas xs) ≤ weight xs
unfolding commas weight
commas_few [] = omega arith
commas_few (x ∷ []) = omega arith
commas_few (x ∷ y ∷ ys) = omega (arith, commas_few (y ∷ ys), length-append x (44 ∷ commas (y ∷ ys)))

weight_append : (xs ys : List (List ℕ)) → weight (xs ++ ys) ≡ weight xs + weight ys
unfolding weight
weight_append [] ys = omega arith
weight_append (x ∷ xs) ys = omega (arith, weight_append xs ys)

-- the pieces of a row
row_weight : (i : ℕ) → i < 64 → (es : List Entry) → ((k : ℕ) → k < length es → (get_or es k (entry 0 0)).col < 64) → weight (map (λ (e : Entry). piece i e.col e.value) es) ≤ 30 * length es
unfolding weight
row_weight i h [] low = omega arith
row_weight i h (e ∷ es) low = omega (arith, piece_short i e.col e.value h (low 0 (omega arith)), row_weight i h es (λ k l. low (suc k) (omega arith)))

module _ (limit p : ℕ) (m : Matrix) (good : clean limit p m ≡ Ok tt) (high : m.nrows ≤ 64) (wide : m.ncols ≤ 64) where
  abbrev row_pieces : ℕ → List (List ℕ)
  row_pieces i = map (λ (e : Entry). piece i e.col e.value) (row_at m i)

  abbrev cs : ℕ → List ℕ
  cs i = row m.row_ptrs m.col_idcs i

  abbrev vs : ℕ → List ℕ
  vs i = row m.row_ptrs m.values i

  row_is : (i : ℕ) → i < m.nrows → row_at m i ≡ entries (cs i) (vs i)
  unfolding row_at rows_of
  row_is i h = get_or-table m.nrows (row m.row_ptrs (entries m.col_idcs m.values)) i [] h ∙ clean_entries limit p m good i h

  one_row_lem : (i : ℕ) → i < m.nrows → weight (row_pieces i) ≤ 1920
  unfolding entries
  one_row_lem i h =
      let c = clean_row limit p m good i h in
      let few : length (vs i) ≤ 64 = omega (arith, climbs_few c.climbs, c.many) in
      let w = row_weight i (omega arith) (entries (cs i) (vs i)) (λ k l.
      let l' : k < length (vs i) = omega (arith, length-entries (cs i) (vs i)) in
      let here : (get_or (entries (cs i) (vs i)) k (entry 0 0)).col ≡ get_or (cs i) k 0 = ap (λ (e : Entry). e.col) (get_or-table (length (vs i)) (λ k. entry (get_or (cs i) k 0) (get_or (vs i) k 0)) k (entry 0 0) l') in
      omega (arith, here, c.climbs.below k (omega (arith, c.many)))) in
      rw (row_is i h) (omega (arith, w, length-entries (cs i) (vs i)))

  rows_weight : (i : ℕ) → i ≤ m.nrows → weight (flatten (table i row_pieces)) ≤ 1920 * i
  unfolding table flatten weight
  rows_weight zero h = let none : weight (flatten (table 0 row_pieces)) ≡ 0 = refl in omega arith
  rows_weight (suc i) h = omega (arith, rows_weight i (omega arith), one_row_lem i h, ap weight (flatten_snoc (table i row_pieces) (row_pieces i)), weight_append (flatten (table i row_pieces)) (row_pieces i))

  pub text_fits : length (matrix_text m) ≤ 122932
  unfolding matrix_text mma
  text_fits = simp length-append (omega (arith, commas_few (flatten (table m.nrows row_pieces)), rows_weight m.nrows (omega arith), decimal_most m.nrows, decimal_most m.ncols))
