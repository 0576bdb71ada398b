-- Compressed rows and lists of rows correspond: a good matrix is the one of its rows, and a matrix of rows has these rows.
-- Assumes nothing.
use mathlib.Core.Path.{◌≡◌, refl, sym, ap, ◌∙◌}
use mathlib.Core.List.{List, [], ◌∷◌, ◌++◌, map, flatten, append-nil, append_assoc}
use Prim.Native.Nat.{ℕ, zero, suc, ◌+◌, ◌-◌, ◌≤◌, ◌<◌}
use native.Mathlib.Nat.{le_refl, add-sub_cancel_left}
use native.Mathlib.Numerals.{add-one}
use native.Mathlib.Omega.{arith}
use lib.ListN.{length, get_or, take, drop, length-append, length-map, get_or-map}
use lib.Seq.{ext_get_or, length-take-le, take-suc, split_at, take-length, take-append_seam, drop-append_seam}
use Rattle.lists.specs.Table.{table}
use Rattle.lists.proofs.Tables.{length-table, get_or-table, table_get_or, table_ext, take-table, map-table}
use Rattle.sparse.specs.Matrix.{Matrix, matrix, part, row}
use Rattle.sparse.specs.Rows.{Entry, entry, entries, rows_of, offset, compressed}
use Rattle.sparse.proofs.Cuts.{Laid}
use Rattle.meaning.proofs.Parts.{length_part, get_d_part, take_part}

-- rows joined are their entries joined
pub flatten_append : {A : Type 0} (xs ys : List (List A)) → flatten (xs ++ ys) ≡ flatten xs ++ flatten ys
unfolding flatten
flatten_append [] ys = refl
flatten_append (x ∷ xs) ys = ap (λ l. x ++ l) (flatten_append xs ys) ∙ sym (append_assoc x (flatten xs) (flatten ys))

pub flatten_snoc : {A : Type 0} (xs : List (List A)) (r : List A) → flatten (xs ++ (r ∷ [])) ≡ flatten xs ++ r
unfolding flatten
flatten_snoc xs r = flatten_append xs (r ∷ []) ∙ ap (λ l. flatten xs ++ l) (append-nil r)

pub length-entries : (cols vals : List ℕ) → length (entries cols vals) ≡ length vals
unfolding entries
length-entries cols vals = length-table (length vals) (λ k. entry (get_or cols k 0) (get_or vals k 0))

-- apart again
pub entry_cols : (cols vals : List ℕ) → length cols ≡ length vals → map (λ e. e.col) (entries cols vals) ≡ cols
unfolding entries
entry_cols cols vals e = map-table (λ (x : Entry). x.col) (length vals) (λ k. entry (get_or cols k 0) (get_or vals k 0)) ∙ ap (λ (n : ℕ). table n (λ k. get_or cols k 0)) (sym e) ∙ table_get_or cols 0

pub entry_values : (cols vals : List ℕ) → map (λ e. e.value) (entries cols vals) ≡ vals
unfolding entries
entry_values cols vals = map-table (λ (x : Entry). x.value) (length vals) (λ k. entry (get_or cols k 0) (get_or vals k 0)) ∙ table_get_or vals 0

-- and side by side again
pub entries_of_lem : (es : List Entry) → entries (map (λ e. e.col) es) (map (λ e. e.value) es) ≡ es
unfolding entries
entries_of_lem es =
    ap (λ (n : ℕ). table n (λ k. entry (get_or (map (λ (e : Entry). e.col) es) k 0) (get_or (map (λ (e : Entry). e.value) es) k 0))) (length-map es (λ (e : Entry). e.value))
    ∙ table_ext (length es) _ (λ k. get_or es k (entry 0 0)) (λ k h i. entry (get_or-map (λ (e : Entry). e.col) es k (entry 0 0) i) (get_or-map (λ (e : Entry). e.value) es k (entry 0 0) i))
    ∙ table_get_or es (entry 0 0)

module _ (ptrs : List ℕ) (es : List Entry) (rows : ℕ) (starts : get_or ptrs 0 0 ≡ 0) (rises : (i : ℕ) → i < rows → get_or ptrs i 0 ≤ get_or ptrs (i + 1) 0) where
  -- the first n rows are the entries up to where row n starts
  joined : (n : ℕ) → n ≤ rows → flatten (table n (row ptrs es)) ≡ take (get_or ptrs n 0) es
  unfolding table row flatten
  joined zero h = sym (ap (λ (k : ℕ). take k es) starts)
  joined (suc n) h = flatten_snoc (table n (row ptrs es)) (row ptrs es n) ∙ ap (λ (l : List Entry). l ++ row ptrs es n) (joined n (omega arith)) ∙ take_part (get_or ptrs n 0) (get_or ptrs (n + 1) 0) es (rises n h) ∙ ap (λ (k : ℕ). take (get_or ptrs k 0) es) (add-one n)

-- no pointer passes the value count
pub pointer_within : (m : Matrix) → Laid m → (i : ℕ) → i ≤ m.nrows → get_or m.row_ptrs i 0 ≤ length m.values
pointer_within m laid zero h = omega (arith, laid.shape.starts)
pointer_within m laid (suc i) h = rw add-one at (laid.rows.within i h)

-- a good matrix is the one of its rows
pub compressed_rows : (m : Matrix) → Laid m → compressed m.ncols (rows_of m) ≡ m
unfolding compressed rows_of offset
compressed_rows m laid = λ i. matrix (rows_many i) m.ncols (pointers i) (columns i) (numbers i)
  where
    es : List Entry
    es = entries m.col_idcs m.values

    rs : List (List Entry)
    rs = table m.nrows (row m.row_ptrs es)

    rows_many : length rs ≡ m.nrows
    rows_many = length-table m.nrows (row m.row_ptrs es)

    up : (i : ℕ) → i ≤ m.nrows → flatten (take i rs) ≡ take (get_or m.row_ptrs i 0) es
    up i h = ap flatten (take-table m.nrows i (row m.row_ptrs es) h) ∙ joined m.row_ptrs es m.nrows laid.shape.starts laid.rows.rises i h

    fits : (i : ℕ) → i ≤ m.nrows → get_or m.row_ptrs i 0 ≤ length es
    fits i h = rw length-entries (pointer_within m laid i h)

    all : flatten rs ≡ es
    all =
        joined m.row_ptrs es m.nrows laid.shape.starts laid.rows.rises m.nrows (le_refl m.nrows)
        ∙ ap (λ (k : ℕ). take k es) (laid.shape.ends ∙ sym (length-entries m.col_idcs m.values))
        ∙ take-length es

    pointers : table (length rs + 1) (λ i. length (flatten (take i rs))) ≡ m.row_ptrs
    pointers =
        ap (λ (n : ℕ). table (n + 1) (λ i. length (flatten (take i rs)))) rows_many
        ∙ table_ext (m.nrows + 1) (λ i. length (flatten (take i rs))) (λ i. get_or m.row_ptrs i 0) (λ i h. ap length (up i (omega arith)) ∙ length-take-le (get_or m.row_ptrs i 0) es (fits i (omega arith)))
        ∙ ap (λ (n : ℕ). table n (λ i. get_or m.row_ptrs i 0)) (sym laid.shape.many)
        ∙ table_get_or m.row_ptrs 0

    columns : map (λ e. e.col) (flatten rs) ≡ m.col_idcs
    columns = ap (map (λ (e : Entry). e.col)) all ∙ entry_cols m.col_idcs m.values laid.shape.col_each

    numbers : map (λ e. e.value) (flatten rs) ≡ m.values
    numbers = ap (map (λ (e : Entry). e.value)) all ∙ entry_values m.col_idcs m.values

-- what stands between two lists
part_middle : {A : Type 0} (xs ys zs : List A) → part (length xs) (length xs + length ys) (xs ++ (ys ++ zs)) ≡ ys
unfolding part
part_middle xs ys zs = ap (λ l. take (length xs + length ys - length xs) l) (drop-append_seam xs (ys ++ zs)) ∙ ap (λ (n : ℕ). take n (ys ++ zs)) (add-sub_cancel_left (length xs) (length ys)) ∙ take-append_seam ys zs

module _ (rs : List (List Entry)) (i : ℕ) (h : i < length rs) where
  around : flatten rs ≡ flatten (take i rs) ++ (get_or rs i [] ++ flatten (drop (suc i) rs))
  unfolding flatten
  around = ap flatten (split_at rs i [] h) ∙ flatten_append (take i rs) (get_or rs i [] ∷ drop (suc i) rs)

  next_offset : offset rs (i + 1) ≡ length (flatten (take i rs)) + length (get_or rs i [])
  unfolding offset
  next_offset =
      ap (λ (l : List (List Entry)). length (flatten l)) (ap (λ (n : ℕ). take n rs) (add-one i) ∙ take-suc rs i [] h)
      ∙ ap length (flatten_snoc (take i rs) (get_or rs i []))
      ∙ length-append (flatten (take i rs)) (get_or rs i [])

  between : part (offset rs i) (offset rs (i + 1)) (flatten rs) ≡ get_or rs i []
  unfolding offset
  between =
      ap (λ (n : ℕ). part (offset rs i) n (flatten rs)) next_offset
      ∙ ap (part (offset rs i) (length (flatten (take i rs)) + length (get_or rs i []))) around
      ∙ part_middle (flatten (take i rs)) (get_or rs i []) (flatten (drop (suc i) rs))

-- a matrix of rows has these rows
pub rows_compressed : (n : ℕ) (rs : List (List Entry)) → rows_of (compressed n rs) ≡ rs
unfolding compressed rows_of row
rows_compressed n rs =
    ap (λ (es : List Entry). table (length rs) (row ptrs es)) (entries_of_lem (flatten rs))
    ∙ table_ext (length rs) (row ptrs (flatten rs)) (λ i. get_or rs i []) (λ i h.
    (λ j. part (get_or-table (length rs + 1) (offset rs) i 0 (omega arith) j) (get_or-table (length rs + 1) (offset rs) (i + 1) 0 (omega arith) j) (flatten rs)) ∙ between rs i h)
    ∙ table_get_or rs []
  where
    ptrs : List ℕ
    ptrs = table (length rs + 1) (offset rs)

-- the entries of a part are the part of the entries
pub part_entries : (a b : ℕ) (cols vals : List ℕ) → length cols ≡ length vals → b ≤ length vals → entries (part a b cols) (part a b vals) ≡ part a b (entries cols vals)
unfolding entries
part_entries a b cols vals same h = ext_get_or (entry 0 0) (entries (part a b cols) (part a b vals)) (part a b (entries cols vals)) long each
  where
    size : length (part a b vals) ≡ b - a
    size = length_part a b vals h

    whole : length (part a b (entries cols vals)) ≡ b - a
    whole = length_part a b (entries cols vals) (rw length-entries h)

    long : length (entries (part a b cols) (part a b vals)) ≡ length (part a b (entries cols vals))
    long = length-entries (part a b cols) (part a b vals) ∙ size ∙ sym whole

    each : (k : ℕ) → k < length (entries (part a b cols) (part a b vals)) → get_or (entries (part a b cols) (part a b vals)) k (entry 0 0) ≡ get_or (part a b (entries cols vals)) k (entry 0 0)
    each k l =
        let below : k < b - a = omega (arith, long, whole) in
        get_or-table (length (part a b vals)) (λ i. entry (get_or (part a b cols) i 0) (get_or (part a b vals) i 0)) k (entry 0 0) (omega (arith, size))
        ∙ (λ i. entry (get_d_part a b cols k 0 below i) (get_d_part a b vals k 0 below i))
        ∙ sym (get_or-table (length vals) (λ i. entry (get_or cols i 0) (get_or vals i 0)) (a + k) (entry 0 0) (omega arith))
        ∙ sym (get_d_part a b (entries cols vals) k (entry 0 0) below)
