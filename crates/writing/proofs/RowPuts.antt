-- A matrix's row, and more entries after it, written to lent columns and values.
-- Assumes nothing.
use mathlib.Core.Path.{◌≡◌, sym, ap, ap₂, ◌∙◌}
use mathlib.Core.List.{List, [], ◌++◌, append_assoc, map, map-append}
use Prim.Native.Nat.{ℕ, ◌+◌, ◌-◌, ◌≤◌, ◌<◌}
use native.Mathlib.Nat.{add_assoc}
use native.Mathlib.Omega.{arith}
use lib.ListN.{length, get_or, take, drop, length-append, length-map}
use lib.Seq.{length-take-le}
use Rattle.lists.specs.Onto.{◌onto◌}
use Rattle.lists.proofs.Tables.{get_or-table}
use Rattle.sparse.specs.Asks.{Cut}
use Rattle.sparse.specs.Matrix.{Matrix, row}
use Rattle.sparse.specs.Put.{cols_of, values_of}
use Rattle.sparse.specs.Rows.{Entry, entries, rows_of, row_at}
use Rattle.meaning.proofs.Parts.{length_part}
use Rattle.meaning.proofs.RowLists.{length-entries, part_entries}
use Rattle.writing.specs.Asks.{RowPut, Readable}
use Rattle.writing.specs.Puts.{Put, put, put_at, more, Fits, RowFits}
use Rattle.writing.proofs.Puts.{put_after, length-put_at}

-- what is written from `at` on stands after what was there
put_front : (at : ℕ) (xs old : List ℕ) → at ≤ length old → put_at at xs old ≡ (take at old ++ xs) onto old
unfolding put_at ◌onto◌
put_front at xs old h =
    let long : length (take at old ++ xs) ≡ at + length xs = simp length-append (ap (λ (n : ℕ). n + length xs) (length-take-le at old h)) in
    sym (append_assoc (take at old) xs (drop (at + length xs) old)) ∙ ap (λ (n : ℕ). (take at old ++ xs) ++ drop n old) (sym long)

-- two lists written one after the other
put_two : (at : ℕ) (xs ys old : List ℕ) → at + length xs + length ys ≤ length old → put_at at (xs ++ ys) old ≡ put_at (at + length xs) ys (put_at at xs old)
put_two at xs ys old h =
    let front : List ℕ = take at old ++ xs in
    let long : length front ≡ at + length xs = simp length-append (ap (λ (n : ℕ). n + length xs) (length-take-le at old (omega arith))) in
    put_front at (xs ++ ys) old (omega arith)
    ∙ ap (λ (l : List ℕ). l onto old) (sym (append_assoc (take at old) xs ys))
    ∙ sym (put_after front ys old (omega (arith, long)))
    ∙ ap₂ (λ (n : ℕ) (l : List ℕ). put_at n ys l) long (sym (put_front at xs old (omega arith)))

-- two rows of entries
pub more_append : (xs ys : List Entry) (s : Put) → Fits (length xs + length ys) s → more (xs ++ ys) s ≡ more ys (more xs s)
unfolding more cols_of values_of
more_append xs ys s f = λ i. put (long i) (columns i) (numbers i)
  where
    long : s.at + length (xs ++ ys) ≡ s.at + length xs + length ys
    long = ap (λ (n : ℕ). s.at + n) (length-append xs ys) ∙ sym (add_assoc s.at (length xs) (length ys))

    each : (g : Entry → ℕ) (old : List ℕ) → s.at + (length xs + length ys) ≤ length old → put_at s.at (map g (xs ++ ys)) old ≡ put_at (s.at + length xs) (map g ys) (put_at s.at (map g xs) old)
    each g old h =
        ap (λ (l : List ℕ). put_at s.at l old) (map-append g xs ys)
        ∙ put_two s.at (map g xs) (map g ys) old (omega (arith, length-map xs g, length-map ys g))
        ∙ ap (λ (n : ℕ). put_at (s.at + n) (map g ys) (put_at s.at (map g xs) old)) (length-map xs g)

    columns : put_at s.at (map (λ e. e.col) (xs ++ ys)) s.cols ≡ put_at (s.at + length xs) (map (λ e. e.col) ys) (put_at s.at (map (λ e. e.col) xs) s.cols)
    columns = each (λ e. e.col) s.cols f.columns

    numbers : put_at s.at (map (λ e. e.value) (xs ++ ys)) s.vals ≡ put_at (s.at + length xs) (map (λ e. e.value) ys) (put_at s.at (map (λ e. e.value) xs) s.vals)
    numbers = each (λ e. e.value) s.vals f.numbers

module _ {ptrs cols vals : List ℕ} {i extra : ℕ} {s : Put} where
  row_long : RowPut ptrs cols vals i extra s → length (row ptrs (entries cols vals) i) ≡ get_or ptrs (i + 1) 0 - get_or ptrs i 0
  unfolding row
  row_long h = length_part (get_or ptrs i 0) (get_or ptrs (i + 1) 0) (entries cols vals) (rw length-entries h.within)

  -- a row's columns and values, as `put_row` asks
  pub row_asked : RowPut ptrs cols vals i extra s → RowFits (row ptrs cols i) (row ptrs vals i) s
  unfolding row
  row_asked h =
      let a = length_part (get_or ptrs i 0) (get_or ptrs (i + 1) 0) cols (omega (arith, h.within, h.same)) in
      let b = length_part (get_or ptrs i 0) (get_or ptrs (i + 1) 0) vals h.within in
      record {
        same = a ∙ sym b;
        fits = record { columns = omega (arith, h.fits.columns, row_long h); numbers = omega (arith, h.fits.numbers, row_long h) };
      }

  -- and as it leaves them
  pub row_put : RowPut ptrs cols vals i extra s → entries (row ptrs cols i) (row ptrs vals i) ≡ row ptrs (entries cols vals) i
  unfolding row
  row_put h = part_entries (get_or ptrs i 0) (get_or ptrs (i + 1) 0) cols vals h.same h.within

-- more fits after a row
pub after_row : (es : List Entry) (n : ℕ) (s u : Put) → u ≡ more es s → Fits (length es + n) s → Fits n u
unfolding more cols_of values_of
after_row es n s u e f = rw e (record { columns = columns; numbers = numbers })
  where
    columns : s.at + length es + n ≤ length (put_at s.at (map (λ x. x.col) es) s.cols)
    columns =
        let long = length-map es (λ (x : Entry). x.col) in
        let keeps = length-put_at s.at (map (λ x. x.col) es) s.cols (omega (arith, f.columns)) in
        omega (arith, f.columns)

    numbers : s.at + length es + n ≤ length (put_at s.at (map (λ x. x.value) es) s.vals)
    numbers =
        let long = length-map es (λ (x : Entry). x.value) in
        let keeps = length-put_at s.at (map (λ x. x.value) es) s.vals (omega (arith, f.numbers)) in
        omega (arith, f.numbers)

-- row i of a matrix
pub row_at_lem : (m : Matrix) (i : ℕ) → i < m.nrows → row_at m i ≡ row m.row_ptrs (entries m.col_idcs m.values) i
unfolding row_at rows_of
row_at_lem m i h = get_or-table m.nrows (row m.row_ptrs (entries m.col_idcs m.values)) i [] h

-- by 3 and 4 row i lies within the entries
pub cut_ready : (n : ℕ) (ptrs cols vals : List ℕ) (i extra : ℕ) (s : Put) → length cols ≡ length vals → Cut n (length vals) ptrs → i < n → Fits (length (row ptrs (entries cols vals) i) + extra) s → RowPut ptrs cols vals i extra s
cut_ready n ptrs cols vals i extra s same cut h f = record {
  same = same;
  pointer = omega (arith, cut.many);
  rises = cut.rises i h;
  within = cut.within i h;
  fits = f;
}

pub row_ready : (m : Matrix) (i extra : ℕ) (s : Put) → Readable m → i < m.nrows → Fits (length (row_at m i) + extra) s → RowPut m.row_ptrs m.col_idcs m.values i extra s
row_ready m i extra s r h f = cut_ready m.nrows _ _ _ i extra s r.same r.cut h (rw (row_at_lem m i h) at f)
