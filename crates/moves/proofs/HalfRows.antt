-- The right half of a matrix, its rows reversed: how many rows and entries it has, and a loop that writes it.
-- Assumes nothing.
use Rattle.std.specs.Prelude.{Ok}
use mathlib.Core.Path.{◌≡◌, refl, sym, ap, ◌∙◌}
use mathlib.Core.Bool.{Bool}
use mathlib.Core.List.{List, [], flatten}
use Prim.Native.Nat.{ℕ, zero, suc, ◌+◌, ◌-◌, ◌<◌}
use native.Mathlib.Omega.{arith}
use lib.Dec.{leb}
use lib.ListN.{length, get_or, set}
use Rattle.sparse.specs.Refusals.{Tested}
use Rattle.lists.specs.Find.{count}
use Rattle.lists.specs.Sum.{Σ}
use Rattle.lists.specs.Table.{table}
use Rattle.lists.proofs.Counts.{count_append, count_map}
use Rattle.lists.proofs.Sums.{sum-ext, sum_first}
use Rattle.lists.proofs.Tables.{length-table, get_or-table, table_ext}
use Rattle.sparse.specs.Lent.{Lent, lent, room_test}
use Rattle.sparse.specs.Matrix.{Matrix, row}
use Rattle.sparse.specs.Rows.{Entry, entries, rows_of, row_at, compressed}
use Rattle.sparse.proofs.Cuts.{Laid, formed_laid}
use Rattle.sparse.proofs.Firsts.{lowest_good}
use Rattle.meaning.proofs.RowLists.{flatten_snoc, compressed_rows}
use Rattle.writing.specs.Puts.{put, more}
use Rattle.writing.proofs.MatrixRows.{rows_each}
use Rattle.writing.proofs.Puttings.{Sized, room_known}
use Rattle.writing.proofs.RowLoops.{rows_fit, rows_next}
use Rattle.writing.proofs.RowPuts.{row_at_lem}
use Rattle.writing.proofs.Writing.{Writing}
use Rattle.moves.specs.Asks.{RightRow, RightsFit}
use Rattle.moves.specs.Moves.{half, right_of, reversed_right, take_rev_test}
use Rattle.moves.specs.Parts.{right_rows}
use Rattle.moves.proofs.Rights.{right_long}
use Rattle.moves.proofs.Totals.{length-rows}

-- a sum from the last term to the first
sum-reversed : (n : ℕ) (f : ℕ → ℕ) → Σ n (λ i. f (n - 1 - i)) ≡ Σ n f
unfolding Σ
sum-reversed zero f = refl
sum-reversed (suc n) f =
    let first : f (suc n - 1 - 0) ≡ f n = ap f (last n) in
    let rest : Σ n (λ i. f (suc n - 1 - suc i)) ≡ Σ n f = sum-ext n _ _ (λ i l. ap f (one_less n i)) ∙ sum-reversed n f in
    sum_first n (λ i. f (suc n - 1 - i)) ∙ omega arith
  where
    last : (n : ℕ) → suc n - 1 - 0 ≡ n
    last n = omega arith

    one_less : (n i : ℕ) → suc n - 1 - suc i ≡ n - 1 - i
    one_less n i = omega arith

-- counted row by row
count_rows : {A : Type 0} (f : A → Bool) (n : ℕ) (g : ℕ → List A) → Σ n (λ i. count f (g i)) ≡ count f (flatten (table n g))
unfolding Σ table flatten count
count_rows f zero g = refl
count_rows f (suc n) g = ap (λ (k : ℕ). k + count f (g n)) (count_rows f n g) ∙ sym (ap (count f) (flatten_snoc (table n g) (g n)) ∙ count_append f (flatten (table n g)) (g n))

-- as many entries as there are columns from h on
pub right_count : (m : Matrix) (h : ℕ) → Laid m → length (flatten (table m.nrows (λ i. right_of h (row_at m (m.nrows - 1 - i))))) ≡ count (leb h) m.col_idcs
unfolding compressed
right_count m h laid =
    length-rows (λ i. right_of h (row_at m (m.nrows - 1 - i))) m.nrows
    ∙ sum-reversed m.nrows (λ r. length (right_of h (row_at m r)))
    ∙ sum-ext m.nrows _ _ (λ r l. right_long h (row_at m r))
    ∙ count_rows (λ (e : Entry). leb h e.col) m.nrows (row_at m)
    ∙ ap (λ (rs : List (List Entry)). count (λ (e : Entry). leb h e.col) (flatten rs)) (rows_each m)
    ∙ sym (count_map (leb h) (λ (e : Entry). e.col) (flatten (rows_of m)))
    ∙ ap (λ (x : Matrix). count (leb h) x.col_idcs) (compressed_rows m laid)

module _ (p : ℕ) (m : Matrix) (e : take_rev_test p m ≡ Ok tt) where
  half_laid : Laid m
  unfolding take_rev_test
  half_laid = formed_laid 65536 p m (lowest_good _ _ e).0

  -- so many entries, as code counts them
  pub half_sized : {n : ℕ} → n ≡ count (leb (half m.ncols)) m.col_idcs → Sized (reversed_right m) m.nrows n
  unfolding reversed_right
  half_sized q = record { many = length-table m.nrows _; long = right_count m (half m.ncols) half_laid ∙ sym q }

  -- the rows that code writes
  pub half_rows : right_rows m.nrows (half m.ncols) m.row_ptrs m.col_idcs m.values ≡ reversed_right m
  unfolding right_rows reversed_right
  half_rows = table_ext m.nrows _ _ (λ i l. ap (right_of (half m.ncols)) (sym (row_at_lem m (m.nrows - 1 - i) (omega arith))))

  pub half_fits : (l : Lent) {n : ℕ} {s : Tested} → n ≡ count (leb (half m.ncols)) m.col_idcs → s ≡ room_test m.nrows n l → s ≡ Ok tt → RightsFit m.nrows (half m.ncols) m.row_ptrs m.col_idcs m.values l
  half_fits l n q g = record {
    same = half_laid.shape.col_each;
    cut = half_laid.rows;
    room = record { room = rw half_rows (room_known _ l (half_sized n) q g) };
  }

-- a loop over the rows, the last first
module _ {n h : ℕ} {ptrs cols vals : List ℕ} (op₀ oc₀ ov₀ : List ℕ) (f : RightsFit n h ptrs cols vals (lent op₀ oc₀ ov₀)) where
  pub right_many : length (right_rows n h ptrs cols vals) ≡ n
  unfolding right_rows
  right_many = length-table n (λ i. right_of h (row ptrs (entries cols vals) (n - 1 - i)))

  module _ {i at : ℕ} {op oc ov : List ℕ} (w : Writing (right_rows n h ptrs cols vals) (lent (set op₀ 0 0) oc₀ ov₀) i at op oc ov) (l : i < n) where
    abbrev wanted : List Entry
    wanted = right_of h (row ptrs (entries cols vals) (n - 1 - i))

    here : get_or (right_rows n h ptrs cols vals) i [] ≡ wanted
    unfolding right_rows
    here = get_or-table n (λ i. right_of h (row ptrs (entries cols vals) (n - 1 - i))) i [] l

    pub rights_ready : RightRow h ptrs cols vals (n - 1 - i) (put at oc ov)
    rights_ready = record {
      same = f.same;
      pointer = omega (arith, f.cut.many);
      rises = f.cut.rises (n - 1 - i) (omega arith);
      within = f.cut.within (n - 1 - i) (omega arith);
      fits = rows_fit _ op₀ oc₀ ov₀ f.room w wanted here (rw right_many l);
    }

    pub rights_next : {at' : ℕ} {cols' vals' : List ℕ} → put at' cols' vals' ≡ more wanted (put at oc ov) → Writing (right_rows n h ptrs cols vals) (lent (set op₀ 0 0) oc₀ ov₀) (i + 1) at' (set op (i + 1) at') cols' vals'
    rights_next = rows_next _ op₀ oc₀ ov₀ f.room w wanted here (rw right_many l)
