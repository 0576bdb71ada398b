-- Rows that are written, read as a matrix: each row is the one that was written, and what value lies at each place.
-- Assumes nothing.
use Rattle.std.specs.Prelude.{Ok}
use mathlib.Core.Path.{◌≡◌, sym, ap, ap₂, ◌∙◌}
use mathlib.Core.Bool.{cond}
use mathlib.Core.List.{List, [], ◌∷◌, ◌++◌, map, map-append, flatten}
use Prim.Native.Nat.{ℕ, ◌+◌, ◌≤◌, ◌<◌}
use native.Mathlib.Nat.{zero-add}
use native.Mathlib.Omega.{arith}
use lib.Dec.{eqb}
use lib.ListN.{length, get_or, length-append, length-map, get_or-append}
use lib.Seq.{get_or-append-add}
use Rattle.lists.specs.Sum.{Σ}
use Rattle.lists.specs.Table.{table}
use Rattle.lists.proofs.Sums.{sum-ext, sum-split}
use Rattle.lists.proofs.Tables.{get_or-table}
use Rattle.sparse.specs.Matrix.{Matrix, row, part, value_in, value_at}
use Rattle.sparse.specs.Rows.{Entry, entry, entries, row_at, offset, compressed}
use Rattle.sparse.specs.Tests.{row_test, rows_test, matrix_test, well_formed}
use Rattle.sparse.proofs.Cuts.{Laid, formed_laid}
use Rattle.sparse.proofs.Firsts.{else_good, each_good, lowest_good}
use Rattle.meaning.proofs.Parts.{length_part}
use Rattle.meaning.proofs.RowLists.{rows_compressed, entry_cols, entry_values, part_entries}
use Rattle.meaning.proofs.Values.{columns_climb, value_elsewhere}
use Rattle.writing.proofs.RowPuts.{row_at_lem}
use Rattle.writing.proofs.Writing.{offset_most}

-- row i of the matrix that is written, by its rows
pub row_of_rows : (n : ℕ) (rs : List (List Entry)) (i : ℕ) → row_at (compressed n rs) i ≡ get_or rs i []
unfolding row_at
row_of_rows n rs i = ap (λ (l : List (List Entry)). get_or l i []) (rows_compressed n rs)

-- the value at column j among a row's entries
abbrev pub value_of : List Entry → ℕ → ℕ
value_of es j = value_in (map (λ e. e.col) es) (map (λ e. e.value) es) j

-- the columns and the values of row i are those of its entries
pub record RowParts (m : Matrix) (i : ℕ) : Type 0 where
  pub cols : part (get_or m.row_ptrs i 0) (get_or m.row_ptrs (i + 1) 0) m.col_idcs ≡ map (λ e. e.col) (row_at m i)
  pub vals : part (get_or m.row_ptrs i 0) (get_or m.row_ptrs (i + 1) 0) m.values ≡ map (λ e. e.value) (row_at m i)

pub row_parts : (m : Matrix) (i : ℕ) → i < m.nrows → length m.col_idcs ≡ length m.values → get_or m.row_ptrs (i + 1) 0 ≤ length m.values → RowParts m i
unfolding row
row_parts m i h same within =
    let x : ℕ = get_or m.row_ptrs i 0 in
    let y : ℕ = get_or m.row_ptrs (i + 1) 0 in
    let cs : List ℕ = part x y m.col_idcs in
    let vs : List ℕ = part x y m.values in
    let long : length cs ≡ length vs = length_part x y m.col_idcs (omega (arith, same)) ∙ sym (length_part x y m.values within) in
    let here : entries cs vs ≡ row_at m i = part_entries x y m.col_idcs m.values same within ∙ sym (row_at_lem m i h) in
    record { cols = sym (entry_cols cs vs long) ∙ ap (map (λ (e : Entry). e.col)) here; vals = sym (entry_values cs vs) ∙ ap (map (λ (e : Entry). e.value)) here }

-- a value of a matrix, by the entries of its row
pub value_row : (m : Matrix) (i j : ℕ) → i < m.nrows → length m.col_idcs ≡ length m.values → get_or m.row_ptrs (i + 1) 0 ≤ length m.values → value_at m i j ≡ value_of (row_at m i) j
unfolding value_at row
value_row m i j h same within = let r = row_parts m i h same within in ap₂ (λ (c v : List ℕ). value_in c v j) r.cols r.vals

-- a value of the matrix that is written
pub value_written : (n : ℕ) (rs : List (List Entry)) (i j : ℕ) → i < length rs → value_at (compressed n rs) i j ≡ value_of (get_or rs i []) j
unfolding compressed
value_written n rs i j h =
    let es : List Entry = flatten rs in
    let vals = length-map es (λ (e : Entry). e.value) in
    let place : get_or (table (length rs + 1) (offset rs)) (i + 1) 0 ≤ length (map (λ (e : Entry). e.value) es) = rw (get_or-table (length rs + 1) (offset rs) (i + 1) 0 (omega arith)) (rw vals (offset_most rs (i + 1))) in
    value_row (compressed n rs) i j h (length-map es (λ (e : Entry). e.col) ∙ sym vals) place
    ∙ ap (λ (l : List Entry). value_of l j) (row_of_rows n rs i)

-- entries after others add their values
pub value_more : (xs ys : List Entry) (j : ℕ) → value_of (xs ++ ys) j ≡ value_of xs j + value_of ys j
unfolding value_in
value_more xs ys j =
    simp (map-append, length-append)
    (sum-split (length (map (λ (e : Entry). e.col) xs)) (length (map (λ (e : Entry). e.col) ys)) _
    ∙ ap₂ (λ (a b : ℕ). a + b) (sum-ext _ _ _ (λ k l. ap₂ (λ (c v : ℕ). cond (eqb c j) v 0) (front (λ e. e.col) k l) (front (λ e. e.value) k (long l))))
    (sum-ext _ _ _ (λ k l. ap₂ (λ (c v : ℕ). cond (eqb c j) v 0) (back (λ e. e.col) k) (back_value k))))
  where
    long : {k : ℕ} → k < length (map (λ (e : Entry). e.col) xs) → k < length (map (λ (e : Entry). e.value) xs)
    long l = omega (arith, length-map xs (λ (e : Entry). e.col), length-map xs (λ (e : Entry). e.value))

    front : (g : Entry → ℕ) (k : ℕ) → k < length (map g xs) → get_or (map g xs ++ map g ys) k 0 ≡ get_or (map g xs) k 0
    front g k l = get_or-append (map g xs) (map g ys) 0 k l

    back : (g : Entry → ℕ) (k : ℕ) → get_or (map g xs ++ map g ys) (length (map g xs) + k) 0 ≡ get_or (map g ys) k 0
    back g k = get_or-append-add (map g xs) (map g ys) k 0

    back_value : (k : ℕ) → get_or (map (λ (e : Entry). e.value) xs ++ map (λ (e : Entry). e.value) ys) (length (map (λ (e : Entry). e.col) xs) + k) 0 ≡ get_or (map (λ (e : Entry). e.value) ys) k 0
    back_value k = ap (λ (n : ℕ). get_or (map (λ (e : Entry). e.value) xs ++ map (λ (e : Entry). e.value) ys) (n + k) 0) (length-map xs (λ (e : Entry). e.col) ∙ sym (length-map xs (λ (e : Entry). e.value))) ∙ back (λ e. e.value) k

pub value_single : (c v j : ℕ) → value_of (entry c v ∷ []) j ≡ cond (eqb c j) v 0
unfolding value_in Σ
value_single c v j = zero-add (cond (eqb c j) v 0)

-- past the columns of a matrix lies nothing
pub value_past : (m : Matrix) (i j : ℕ) → rows_test m.nrows m.ncols m.row_ptrs m.col_idcs ≡ Ok tt → i < m.nrows → m.ncols ≤ j → value_at m i j ≡ 0
unfolding value_at row rows_test row_test
value_past m i j good h l =
    let climbs = columns_climb m.ncols _ (else_good _ _ (each_good m.nrows (λ i. row_test m.ncols m.col_idcs (get_or m.row_ptrs i 0) (get_or m.row_ptrs (i + 1) 0)) good i h)).1 in
    value_elsewhere _ _ j (λ k b e. omega (arith, climbs.below k b))

-- what the tests of a matrix leave, for its values
pub record Given (m : Matrix) : Type 0 where
  pub matrix_laid : Laid m
  pub rows : rows_test m.nrows m.ncols m.row_ptrs m.col_idcs ≡ Ok tt

pub well_formed_lem : (p : ℕ) (m : Matrix) → well_formed 65536 p m ≡ Ok tt → Given m
unfolding well_formed matrix_test
well_formed_lem p m e = record {
  matrix_laid = formed_laid 65536 p m e;
  rows = (lowest_good _ _ (lowest_good _ _ (lowest_good _ _ (lowest_good _ _ (lowest_good _ _ e).1).1).0).1).0;
}

-- the values of a matrix, by its rows
module _ (m : Matrix) (g : Given m) (i j : ℕ) (h : i < m.nrows) where
  pub stored : value_at m i j ≡ value_of (row_at m i) j
  stored = value_row m i j h g.matrix_laid.shape.col_each (g.matrix_laid.rows.within i h)
