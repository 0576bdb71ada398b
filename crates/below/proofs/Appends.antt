-- The rows of one matrix, then those of another: which row stands where, and how many entries they have; and a row as a matrix.
-- Assumes nothing.
use mathlib.Core.Path.{◌≡◌, refl, sym, ap, ap₂, ◌∙◌}
use mathlib.Core.List.{List, [], ◌∷◌, ◌++◌, append-nil, flatten}
use Prim.Native.Nat.{ℕ, zero, suc, ◌+◌, ◌-◌, ◌≤◌, ◌<◌}
use native.Mathlib.Decide.{dec_lt}
use native.Mathlib.Nat.{add-zero, sub-zero, le_of_eq}
use native.Mathlib.Omega.{arith}
use lib.ListN.{length, get_or, set, length-append, get_or-append}
use lib.Seq.{get_or-append-add, take_all}
use borrow.Author.Tests.{lt-ltb, le-ltb}
use Rattle.lists.specs.Table.{table}
use Rattle.lists.proofs.Tables.{length-table, get_or-table}
use Rattle.sparse.specs.Asks.{Cut}
use Rattle.sparse.specs.Lent.{lent}
use Rattle.sparse.specs.Matrix.{Matrix, part, row}
use Rattle.sparse.specs.Rows.{Entry, entries, rows_of}
use Rattle.sparse.proofs.Cuts.{Laid}
use Rattle.meaning.proofs.RowLists.{flatten_append, length-entries}
use Rattle.writing.specs.Puts.{put, more, Fits}
use Rattle.writing.proofs.MatrixRows.{rows_long}
use Rattle.writing.proofs.Puttings.{Sized}
use Rattle.writing.proofs.RowLoops.{rows_fit, rows_next}
use Rattle.writing.proofs.RowPuts.{cut_ready}
use Rattle.writing.proofs.Writing.{Writing}
use Rattle.below.specs.Asks.{EitherRow, RowsFit}
use Rattle.below.specs.Parts.{either, rows_in}

module _ {A : Type 0} (n : ℕ) (f g : ℕ → A) where
  pub either_first : (i : ℕ) → i < n → either n f g i ≡ f i
  unfolding either
  either_first i h = rw (lt-ltb i n h)

  pub either_second : (i : ℕ) → n ≤ i → either n f g i ≡ g (i - n)
  unfolding either
  either_second i h = rw (le-ltb i n h)

  -- element i of two tables
  pub either_at : (k i : ℕ) (d : A) → i < n + k → get_or (table n f ++ table k g) i d ≡ either n f g i
  either_at k i d h = go (dec_lt i n)
    where
      go : Dec (i < n) → get_or (table n f ++ table k g) i d ≡ either n f g i
      go (yes l) = get_or-append (table n f) (table k g) d i (rw length-table l) ∙ get_or-table n f i d l ∙ sym (either_first i l)
      go (no l) =
          let e : i ≡ length (table n f) + (i - n) = rw length-table (let q : i ≡ n + (i - n) = omega arith in q) in
          ap (λ (j : ℕ). get_or (table n f ++ table k g) j d) e
          ∙ get_or-append-add (table n f) (table k g) (i - n) d
          ∙ get_or-table k g (i - n) d (omega arith)
          ∙ sym (either_second i (omega arith))

-- how many rows both have
pub rows_many : (n : ℕ) (ptrs cols vals : List ℕ) (k : ℕ) (mp mc mv : List ℕ) → length (rows_in n ptrs cols vals ++ rows_in k mp mc mv) ≡ n + k
unfolding rows_in
rows_many n ptrs cols vals k mp mc mv = length-append (rows_in n ptrs cols vals) (rows_in k mp mc mv) ∙ ap₂ (λ (a b : ℕ). a + b) (length-table n (row ptrs (entries cols vals))) (length-table k (row mp (entries mc mv)))

-- a loop over both
module _ {n : ℕ} {ptrs cols vals : List ℕ} {k : ℕ} {mp mc mv : List ℕ} (ptrs₀ cols₀ vals₀ : List ℕ) (f : RowsFit n ptrs cols vals k mp mc mv (lent ptrs₀ cols₀ vals₀))
    {i at : ℕ} {op oc ov : List ℕ} (w : Writing (rows_in n ptrs cols vals ++ rows_in k mp mc mv) (lent (set ptrs₀ 0 0) cols₀ vals₀) i at op oc ov) (h : i < n + k) where
  abbrev wanted : List Entry
  wanted = either n (row ptrs (entries cols vals)) (row mp (entries mc mv)) i

  here : get_or (rows_in n ptrs cols vals ++ rows_in k mp mc mv) i [] ≡ wanted
  unfolding rows_in
  here = either_at n (row ptrs (entries cols vals)) (row mp (entries mc mv)) k i [] h

  pub either_ready : EitherRow n ptrs cols vals mp mc mv i (put at oc ov)
  either_ready =
      let fits : Fits (length wanted) (put at oc ov) = rows_fit _ ptrs₀ cols₀ vals₀ f.rows w wanted here (rw (rows_many n ptrs cols vals k mp mc mv) h) in
      record {
        first = λ l. cut_ready n _ _ _ i 0 _ f.same f.cut l (rw add-zero (rw (either_first n (row ptrs (entries cols vals)) (row mp (entries mc mv)) i l) at fits));
        second = λ l. cut_ready k _ _ _ (i - n) 0 _ f.more_same f.more_cut (omega arith) (rw add-zero (rw (either_second n (row ptrs (entries cols vals)) (row mp (entries mc mv)) i l) at fits));
      }

  pub either_next : {at' : ℕ} {cols' vals' : List ℕ} → put at' cols' vals' ≡ more wanted (put at oc ov) → Writing (rows_in n ptrs cols vals ++ rows_in k mp mc mv) (lent (set ptrs₀ 0 0) cols₀ vals₀) (i + 1) at' (set op (i + 1) at') cols' vals'
  either_next = rows_next _ ptrs₀ cols₀ vals₀ f.rows w wanted here (rw (rows_many n ptrs cols vals k mp mc mv) h)

-- rows of both
pub rows_sized : (a : Matrix) (rs : List (List Entry)) (k e : ℕ) → Laid a → Sized rs k e → Sized (rows_of a ++ rs) (a.nrows + k) (length a.values + e)
unfolding rows_of
rows_sized a rs k e h s = record {
  many = length-append (rows_of a) rs ∙ ap₂ (λ (x y : ℕ). x + y) (length-table a.nrows (row a.row_ptrs (entries a.col_idcs a.values))) s.many;
  long = ap length (flatten_append (rows_of a) rs) ∙ length-append (flatten (rows_of a)) (flatten rs) ∙ ap₂ (λ (x y : ℕ). x + y) (rows_long a h) s.long;
}

pub row_sized : (cols vals : List ℕ) → Sized (entries cols vals ∷ []) 1 (length vals)
unfolding flatten
row_sized cols vals = record { many = refl; long = ap length (append-nil (entries cols vals)) ∙ length-entries cols vals }

-- one row as a matrix of one row
pub row_alone : (cols vals : List ℕ) → rows_in 1 (0 ∷ length vals ∷ []) cols vals ≡ entries cols vals ∷ []
unfolding rows_in table row part
row_alone cols vals = ap (λ (es : List Entry). es ∷ []) (rw sub-zero (take_all (length vals) (entries cols vals) (le_of_eq (length-entries cols vals))))

pub row_cut : (e : ℕ) → Cut 1 e (0 ∷ e ∷ [])
row_cut e = record { many = refl; rises = up; within = low }
  where
    up : (i : ℕ) → i < 1 → get_or (0 ∷ e ∷ []) i 0 ≤ get_or (0 ∷ e ∷ []) (i + 1) 0
    up zero h = omega arith
    up (suc i) h = absurd (omega arith)

    low : (i : ℕ) → i < 1 → get_or (0 ∷ e ∷ []) (i + 1) 0 ≤ e
    low zero h = omega arith
    low (suc i) h = absurd (omega arith)
