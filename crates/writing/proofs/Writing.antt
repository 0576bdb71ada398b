-- A loop that writes a matrix row by row: what stands in the lent memory after i rows.
-- Assumes nothing.
use mathlib.Core.Path.{◌≡◌, refl, sym, ap, ap₂, ◌∙◌}
use mathlib.Core.List.{List, [], ◌++◌, map, map-append, flatten}
use Prim.Native.Nat.{ℕ, ◌+◌, ◌≤◌, ◌<◌}
use native.Mathlib.Numerals.{add-one}
use native.Mathlib.Omega.{arith}
use lib.ListN.{length, get_or, take, drop, set, length-append, length-map, take-append-drop}
use lib.Seq.{take-suc, take_all}
use Rattle.lists.specs.Onto.{◌onto◌}
use Rattle.lists.specs.Table.{table}
use Rattle.lists.proofs.Ontos.{length-onto, onto_nil}
use Rattle.lists.proofs.Tables.{length-table, table_more, table_none}
use Rattle.sparse.specs.Lent.{Lent, lent}
use Rattle.sparse.specs.Put.{cols_of, values_of, put_rows}
use Rattle.sparse.specs.Rows.{Entry, offset}
use Rattle.meaning.proofs.RowLists.{flatten_append, flatten_snoc}
use Rattle.writing.specs.Puts.{Put, put, put_at, more, Fits}
use Rattle.writing.proofs.Puts.{put_after}

-- the rows fit the lent memory
pub record Room (rs : List (List Entry)) (l : Lent) : Type 0 where
  pub pointers : length rs + 1 ≤ length l.row_ptrs
  pub columns : length (flatten rs) ≤ length l.col_idcs
  pub numbers : length (flatten rs) ≤ length l.values

-- i rows are written, and the next entry goes to `at`
pub record Writing (rs : List (List Entry)) (l : Lent) (i at : ℕ) (ptrs cols vals : List ℕ) : Type 0 where
  pub within : i ≤ length rs
  pub place : at ≡ offset rs i
  pub pointers : ptrs ≡ table (i + 1) (offset rs) onto l.row_ptrs
  pub columns : cols ≡ cols_of (flatten (take i rs)) onto l.col_idcs
  pub numbers : vals ≡ values_of (flatten (take i rs)) onto l.values

module _ (rs : List (List Entry)) (i : ℕ) (h : i < length rs) where
  -- one more row
  pub front_more : flatten (take (i + 1) rs) ≡ flatten (take i rs) ++ get_or rs i []
  front_more = ap flatten (ap (λ (n : ℕ). take n rs) (add-one i) ∙ take-suc rs i [] h) ∙ flatten_snoc (take i rs) (get_or rs i [])

  pub offset_more : offset rs (i + 1) ≡ offset rs i + length (get_or rs i [])
  unfolding offset
  offset_more = ap length front_more ∙ length-append (flatten (take i rs)) (get_or rs i [])

-- no row starts past all entries
pub offset_most : (rs : List (List Entry)) (i : ℕ) → offset rs i ≤ length (flatten rs)
unfolding offset
offset_most rs i =
    let whole : flatten (take i rs) ++ flatten (drop i rs) ≡ flatten rs = sym (flatten_append (take i rs) (drop i rs)) ∙ ap flatten (take-append-drop i rs) in
    omega (arith, simp length-append at (ap length whole))

-- one more row of columns, or of values
one_more : (f : Entry → ℕ) (rs : List (List Entry)) (i at : ℕ) (xs old : List ℕ) → i < length rs → length (flatten rs) ≤ length old → at ≡ offset rs i → xs ≡ map f (flatten (take i rs)) onto old
    → put_at at (map f (get_or rs i [])) xs ≡ map f (flatten (take (i + 1) rs)) onto old
unfolding offset
one_more f rs i at xs old h room place e =
    let front : List Entry = flatten (take i rs) in
    let long : at ≡ length (map f front) = place ∙ sym (length-map front f) in
    let short : length (map f front) + length (map f (get_or rs i [])) ≤ length old = omega (arith, length-map front f, length-map (get_or rs i []) f, offset_more rs i h, offset_most rs (i + 1)) in
    ap₂ (λ (n : ℕ) (l : List ℕ). put_at n (map f (get_or rs i [])) l) long e
    ∙ put_after (map f front) (map f (get_or rs i [])) old short
    ∙ ap (λ (l : List ℕ). l onto old) (sym (map-append f front (get_or rs i [])) ∙ ap (map f) (sym (front_more rs i h)))

-- before the first row: only its pointer is written
pub writing_none : (rs : List (List Entry)) (l : Lent) → 0 < length l.row_ptrs → Writing rs l 0 0 (set l.row_ptrs 0 0) l.col_idcs l.values
unfolding offset flatten cols_of values_of
writing_none rs l h = record {
  within = omega arith;
  place = refl;
  pointers = ap (λ (p : List ℕ). set p 0 0) (table_none (offset rs) l.row_ptrs) ∙ table_more 0 (offset rs) l.row_ptrs h;
  columns = sym (onto_nil l.col_idcs);
  numbers = sym (onto_nil l.values);
}

module _ (rs : List (List Entry)) (l : Lent) (room : Room rs l) (i at : ℕ) (ptrs cols vals : List ℕ) (w : Writing rs l i at ptrs cols vals) where
  abbrev front : List Entry
  front = flatten (take i rs)

  long : length front ≤ length (flatten rs)
  unfolding offset
  long = offset_most rs i

  cols_long : length (cols_of front) ≡ length front
  unfolding cols_of
  cols_long = length-map front (λ (e : Entry). e.col)

  vals_long : length (values_of front) ≡ length front
  unfolding values_of
  vals_long = length-map front (λ (e : Entry). e.value)

  -- the lent memory keeps its length
  pub cols_keep : length cols ≡ length l.col_idcs
  cols_keep = ap length w.columns ∙ length-onto (cols_of front) l.col_idcs (omega (arith, long, cols_long, room.columns))

  pub vals_keep : length vals ≡ length l.values
  vals_keep = ap length w.numbers ∙ length-onto (values_of front) l.values (omega (arith, long, vals_long, room.numbers))

  pub ptrs_keep : length ptrs ≡ length l.row_ptrs
  ptrs_keep = ap length w.pointers ∙ length-onto (table (i + 1) (offset rs)) l.row_ptrs (omega (arith, length-table (i + 1) (offset rs), room.pointers, w.within))

  -- the next row fits
  pub row_fits : i < length rs → Fits (length (get_or rs i [])) (put at cols vals)
  row_fits h = record {
    columns = omega (arith, cols_keep, w.place, offset_more rs i h, offset_most rs (i + 1), room.columns);
    numbers = omega (arith, vals_keep, w.place, offset_more rs i h, offset_most rs (i + 1), room.numbers);
  }

  -- and is written
  pub writing_more : (at' : ℕ) (cols' vals' : List ℕ) → i < length rs → put at' cols' vals' ≡ more (get_or rs i []) (put at cols vals) → Writing rs l (i + 1) at' (set ptrs (i + 1) at') cols' vals'
  unfolding more cols_of values_of
  writing_more at' cols' vals' h e = record {
    within = omega arith;
    place = next;
    pointers = ap₂ (λ (p : List ℕ) (n : ℕ). set p (i + 1) n) w.pointers next ∙ table_more (i + 1) (offset rs) l.row_ptrs (omega (arith, room.pointers));
    columns = ap (λ (s : Put). s.cols) e ∙ one_more (λ x. x.col) rs i at cols l.col_idcs h room.columns w.place w.columns;
    numbers = ap (λ (s : Put). s.vals) e ∙ one_more (λ x. x.value) rs i at vals l.values h room.numbers w.place w.numbers;
  }
    where
      next : at' ≡ offset rs (i + 1)
      next = ap (λ (s : Put). s.at) e ∙ ap (λ (n : ℕ). n + length (get_or rs i [])) w.place ∙ sym (offset_more rs i h)

  -- after the last row
  pub writing_all : length rs ≤ i → lent ptrs cols vals ≡ put_rows rs l
  unfolding put_rows
  writing_all h =
      let e : i ≡ length rs = omega (arith, w.within) in
      let whole : flatten (take i rs) ≡ flatten rs = ap flatten (take_all i rs h) in
      λ j. lent ((w.pointers ∙ ap (λ (n : ℕ). table (n + 1) (offset rs) onto l.row_ptrs) e) j) ((w.columns ∙ ap (λ (x : List Entry). cols_of x onto l.col_idcs) whole) j) ((w.numbers ∙ ap (λ (x : List Entry). values_of x onto l.values) whole) j)
