-- Entries written one after the other: what is written so far stands at the front, the rest as it came.
-- Assumes nothing.
use mathlib.Core.Path.{◌≡◌, sym, ap, ap₂, ◌∙◌}
use mathlib.Core.List.{List, [], ◌∷◌, ◌++◌, append_assoc, append-nil, map}
use Prim.Native.Nat.{ℕ, ◌+◌, ◌-◌, ◌≤◌, ◌<◌}
use native.Mathlib.Nat.{le_of_eq}
use native.Mathlib.Numerals.{add-one}
use native.Mathlib.Omega.{arith}
use lib.ListN.{length, take, drop, set, length-append, length-take, length-drop, drop_of_length-le}
use lib.Seq.{drop-drop, drop-append-add, take-append_seam, take_all, set_split}
use Rattle.lists.specs.Onto.{◌onto◌}
use Rattle.sparse.specs.Put.{cols_of, values_of}
use Rattle.sparse.specs.Rows.{entry, entries}
use Rattle.meaning.proofs.RowLists.{length-entries, entry_cols, entry_values}
use Rattle.writing.specs.Puts.{put, put_at, more, Fits}

-- what stands at the front, and more after it
pub put_after : (front xs old : List ℕ) → length front + length xs ≤ length old → put_at (length front) xs (front onto old) ≡ (front ++ xs) onto old
unfolding put_at ◌onto◌
put_after front xs old h =
    ap₂ (λ (a b : List ℕ). a ++ (xs ++ b)) (take-append_seam front (drop (length front) old))
    (drop-append-add front (drop (length front) old) (length xs) ∙ drop-drop (length xs) (length front) old ∙ ap (λ (n : ℕ). drop n old) (sym (length-append front xs)))
    ∙ sym (append_assoc front xs (drop (length (front ++ xs)) old))

-- a part that is lent, from `at` on, comes back with xs at its front
pub put_part : (at : ℕ) (xs old l : List ℕ) → l ≡ xs onto take (length old - at) (drop at old) → take at old ++ (l ++ drop (length old - at) (drop at old)) ≡ put_at at xs old
unfolding put_at ◌onto◌
put_part at xs old l e =
    ap (λ (k : List ℕ). take at old ++ k)
    (ap₂ (λ (k j : List ℕ). k ++ j) (e ∙ ap (λ (k : List ℕ). xs ++ drop (length xs) k) (take_all (length old - at) (drop at old) (le_of_eq (length-drop at old)))) (drop_of_length-le (drop at old) (le_of_eq (length-drop at old)))
    ∙ append-nil (xs ++ drop (length xs) (drop at old))
    ∙ ap (λ (k : List ℕ). xs ++ k) (drop-drop (length xs) at old))

-- one element
pub put_one : (at x : ℕ) (old : List ℕ) → at < length old → set old at x ≡ put_at at (x ∷ []) old
unfolding put_at
put_one at x old h = set_split old at x h ∙ ap (λ (n : ℕ). take at old ++ x ∷ drop n old) (sym (add-one at))

pub length-put_at : (at : ℕ) (xs old : List ℕ) → at + length xs ≤ length old → length (put_at at xs old) ≡ length old
unfolding put_at
length-put_at at xs old h = simp (length-append, length-take, length-drop) (omega arith)

-- one entry
pub put_entry : (col val at : ℕ) (cols vals : List ℕ) → Fits 1 (put at cols vals) → put (at + 1) (set cols at col) (set vals at val) ≡ more (entry col val ∷ []) (put at cols vals)
unfolding more cols_of values_of
put_entry col val at cols vals f = ap₂ (put (at + 1)) (put_one at col cols (omega (arith, f.columns))) (put_one at val vals (omega (arith, f.numbers)))

-- a row, of which the parts of the lent memory came back with a copy each
pub put_entries_lem : (cs vs : List ℕ) (at : ℕ) (cols vals c v : List ℕ) → length cs ≡ length vs → c ≡ cs onto take (length cols - at) (drop at cols) → v ≡ vs onto take (length vals - at) (drop at vals)
    → put (at + length cs) (take at cols ++ (c ++ drop (length cols - at) (drop at cols))) (take at vals ++ (v ++ drop (length vals - at) (drop at vals)))
    ≡ more (entries cs vs) (put at cols vals)
unfolding more cols_of values_of
put_entries_lem cs vs at cols vals c v same e f = λ i. put (long i) (columns i) (numbers i)
  where
    long : at + length cs ≡ at + length (entries cs vs)
    long = ap (λ (n : ℕ). at + n) (same ∙ sym (length-entries cs vs))

    columns : take at cols ++ (c ++ drop (length cols - at) (drop at cols)) ≡ put_at at (map (λ x. x.col) (entries cs vs)) cols
    columns = put_part at cs cols c e ∙ ap (λ (l : List ℕ). put_at at l cols) (sym (entry_cols cs vs same))

    numbers : take at vals ++ (v ++ drop (length vals - at) (drop at vals)) ≡ put_at at (map (λ x. x.value) (entries cs vs)) vals
    numbers = put_part at vs vals v f ∙ ap (λ (l : List ℕ). put_at at l vals) (sym (entry_values cs vs))
