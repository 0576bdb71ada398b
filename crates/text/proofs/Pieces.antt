-- Pieces with their commas, as they are written one after the other, and how long they can be.
-- Assumes nothing.
use mathlib.Core.Path.{◌≡◌, refl, sym, ap, ◌∙◌}
use mathlib.Core.List.{List, [], ◌∷◌, ◌++◌, flatten, map-append, append-nil, append_assoc}
use Prim.Native.Nat.{ℕ, zero, suc, ◌+◌, ◌-◌, ◌*◌, ◌≤◌, ◌<◌}
use native.Mathlib.Nat.{add-zero, add-suc, suc-add}
use native.Mathlib.Numerals.{add-one}
use native.Mathlib.Omega.{arith}
use lib.ListN.{length, get_or, length-append, length-map}
use Rattle.lists.specs.Table.{table}
use Rattle.lists.proofs.Tables.{get_or-table}
use Rattle.sparse.specs.Asks.{Cut}
use Rattle.sparse.specs.Matrix.{part, row}
use Rattle.sparse.specs.Rows.{Entry, entry, entries}
use Rattle.text.specs.Asks.{LineAt, RowsAt}
use Rattle.text.specs.Decimals.{decimal}
use Rattle.text.specs.Mma.{piece, commas}
use Rattle.text.specs.Writers.{Wrote, placed, pieces, row_pieces, link, links}
use Rattle.text.specs.declared.inside.Line.{Line}
use Rattle.text.specs.declared.inside.Line.TheVariants.{Row, Column}
use Rattle.text.proofs.Digits.{decimal_most}
use Rattle.meaning.proofs.Parts.{length_part, part_none, part_more}
use Rattle.meaning.proofs.RowLists.{flatten_snoc, length-entries}
use Rattle.text.proofs.Puts.{wrote_none, wrote_then, wrote_as}

-- pieces, and then more
links_append : (k : ℕ) (xs ys : List (List ℕ)) → links k (xs ++ ys) ≡ links k xs ++ links (k + length xs) ys
unfolding links
links_append k [] ys = ap (λ (n : ℕ). links n ys) (sym (add-zero k))
links_append k (x ∷ xs) ys =
    ap (λ (l : List ℕ). link k x ++ l) (links_append (suc k) xs ys)
    ∙ sym (append_assoc (link k x) (links (suc k) xs) (links (suc k + length xs) ys))
    ∙ ap (λ (n : ℕ). link k x ++ links (suc k) xs ++ links n ys) (suc-add k (length xs) ∙ sym (add-suc k (length xs)))

-- a comma before each piece but the first is a comma between each two
commas_later : (k : ℕ) (y : List ℕ) (ys : List (List ℕ)) → links (suc k) (y ∷ ys) ≡ 44 ∷ commas (y ∷ ys)
unfolding links link commas
commas_later k y [] = ap (λ (l : List ℕ). 44 ∷ l) (append-nil y)
commas_later k y (z ∷ zs) = ap (λ (l : List ℕ). 44 ∷ (y ++ l)) (commas_later (suc k) z zs)

pub commas_links : (xs : List (List ℕ)) → links 0 xs ≡ commas xs
unfolding links link commas
commas_links [] = refl
commas_links (x ∷ []) = append-nil x
commas_links (x ∷ y ∷ ys) = ap (λ (l : List ℕ). x ++ l) (commas_later 0 y ys)

-- one entry more of a line
line_more : (l : Line) (a k : ℕ) (cols vals : List ℕ) → a ≤ k → k < length vals
    → links a (pieces l (part a k (entries cols vals))) ++ link k (placed l (get_or cols k 0) (get_or vals k 0)) ≡ links a (pieces l (part a (k + 1) (entries cols vals)))
unfolding pieces links entries
line_more l a k cols vals from within =
    let es : List Entry = entries cols vals in
    let e : Entry = entry (get_or cols k 0) (get_or vals k 0) in
    let ps : List (List ℕ) = pieces l (part a k es) in
    let n : a + length ps ≡ k = omega (arith, length-map (part a k es) (λ (x : Entry). placed l x.col x.value), length_part a k es (rw length-entries (omega arith))) in
    let here : get_or es k (entry 0 0) ≡ e = get_or-table (length vals) (λ i. entry (get_or cols i 0) (get_or vals i 0)) k (entry 0 0) within in
    ap (λ (y : List ℕ). links a ps ++ y) (sym (append-nil (link k (placed l (get_or cols k 0) (get_or vals k 0)))) ∙ ap (λ (m : ℕ). links m (pieces l (e ∷ []))) (sym n))
    ∙ sym (links_append a ps (pieces l (e ∷ [])))
    ∙ ap (links a) (sym (map-append (λ (x : Entry). placed l x.col x.value) (part a k es) (e ∷ [])))
    ∙ ap (λ (x : Entry). links a (pieces l (part a k es ++ (x ∷ [])))) (sym here)
    ∙ ap (λ (l' : List Entry). links a (pieces l l')) (sym (part_more a k es (entry 0 0) from (rw length-entries within)))

-- no piece is longer than 65 bytes
pub piece_few : (i j v : ℕ) → length (piece i j v) ≤ 65
unfolding piece
piece_few i j v = simp length-append (omega (arith, decimal_most (i + 1), decimal_most (j + 1), decimal_most v))

placed_few : (l : Line) (k v : ℕ) → length (placed l k v) ≤ 65
unfolding placed
placed_few (Row i) k v = piece_few i k v
placed_few (Column j) k v = piece_few k j v

-- and a comma adds one
link_few : (k : ℕ) (x : List ℕ) → length (link k x) ≤ length x + 1
unfolding link
link_few zero x = omega arith
link_few (suc k) x = omega arith

links_few : (l : Line) (k : ℕ) (es : List Entry) → length (links k (pieces l es)) ≤ 66 * length es
unfolding links pieces
links_few l k [] = omega arith
links_few l k (e ∷ es) =
    omega (arith, length-append (link k (placed l e.col e.value)) (links (suc k) (pieces l es)), link_few k (placed l e.col e.value), placed_few l e.col e.value, links_few l (suc k) es)

-- a first piece has no comma, a later one has
pub link_first : {k : ℕ} (x : List ℕ) → k ≡ 0 → x ≡ link k x
unfolding link
link_first x e = rw e

pub link_later : (k : ℕ) (x : List ℕ) → (k ≡ 0 → ⊥) → (44 ∷ []) ++ x ≡ link k x
unfolding link
link_later zero x h = absurd (h refl)
link_later (suc k) x h = refl

-- how far a number gets, after a byte and alone
pub after_far : (n : ℕ) {b at next : ℕ} {text left : List ℕ} → Wrote (b ∷ decimal n) at text next left → next ≤ at + 21
after_far n w = omega (arith, w.next, decimal_most n)

pub decimal_far : (n : ℕ) {at next : ℕ} {text left : List ℕ} → Wrote (decimal n) at text next left → next ≤ at + 20
decimal_far n w = omega (arith, w.next, decimal_most n)

-- what a loop over a line has at entry k: those before it are written
pub record OnLine (l : Line) (start stop : ℕ) (cols vals : List ℕ) (place : ℕ) (old : List ℕ) (k next : ℕ) (text : List ℕ) : Type 0 where
  pub from : start ≤ k
  pub upto : k ≤ stop
  pub wrote : Wrote (links start (pieces l (part start k (entries cols vals)))) place old next text

pub line_none : {l : Line} {start stop place : ℕ} {cols vals old : List ℕ} → start ≤ stop → OnLine l start stop cols vals place old start place old
unfolding links pieces
line_none {l} {start} {place} {cols} {vals} {old} h = record {
  from = omega arith;
  upto = h;
  wrote = wrote_as (sym (ap (λ (es : List Entry). links start (pieces l es)) (part_none start (entries cols vals)))) wrote_none;
}

-- the entries from a up to b get no further than 66 bytes for each
pub line_far : (l : Line) (a b : ℕ) (cols vals : List ℕ) {place next : ℕ} {old text : List ℕ} → b ≤ length vals
    → Wrote (links a (pieces l (part a b (entries cols vals)))) place old next text → next ≤ place + 66 * (b - a)
line_far l a b cols vals fits w = omega (arith, w.next, links_few l a (part a b (entries cols vals)), length_part a b (entries cols vals) (rw length-entries fits))

module _ {l : Line} {start stop place k next : ℕ} {cols vals old text : List ℕ} where
  pub line_next : {last : ℕ} {after : List ℕ} → OnLine l start stop cols vals place old k next text → k < stop → stop ≤ length vals
      → Wrote (link k (placed l (get_or cols k 0) (get_or vals k 0))) next text last after → OnLine l start stop cols vals place old (k + 1) last after
  line_next h below fits w = record {
    from = omega (arith, h.from);
    upto = omega arith;
    wrote = wrote_as (line_more l start k cols vals h.from (omega arith)) (wrote_then h.wrote w);
  }

  pub line_all : OnLine l start stop cols vals place old k next text → stop ≤ k → Wrote (links start (pieces l (part start stop (entries cols vals)))) place old next text
  line_all h past = let e : k ≡ stop = omega (arith, h.upto) in rw e at h.wrote

-- rows one after the other
module _ (ptrs : List ℕ) (es : List Entry) (rows : ℕ) (starts : get_or ptrs 0 0 ≡ 0) (cut : Cut rows (length es) ptrs) where
  -- row i's pieces are as many as its pointers are apart
  row_many : (i : ℕ) → i < rows → length (row ptrs es i) ≡ get_or ptrs (i + 1) 0 - get_or ptrs i 0
  unfolding row
  row_many i h = length_part (get_or ptrs i 0) (get_or ptrs (i + 1) 0) es (cut.within i h)

  -- and as many stand before them as its pointer says
  rows_many : (i : ℕ) → i ≤ rows → length (flatten (row_pieces i ptrs es)) ≡ get_or ptrs i 0
  unfolding row_pieces table flatten pieces
  rows_many zero h = sym starts
  rows_many (suc i) h =
      let e : get_or ptrs (i + 1) 0 ≡ get_or ptrs (suc i) 0 = ap (λ (k : ℕ). get_or ptrs k 0) (add-one i) in
      ap length (flatten_snoc (row_pieces i ptrs es) (pieces (Row i) (row ptrs es i)))
      ∙ length-append (flatten (row_pieces i ptrs es)) (pieces (Row i) (row ptrs es i))
      ∙ omega (arith, rows_many i (omega arith), length-map (row ptrs es i) (λ (x : Entry). placed (Row i) x.col x.value), row_many i h, cut.rises i h)

  -- one row more
  rows_more : (i : ℕ) → i < rows → links 0 (flatten (row_pieces i ptrs es)) ++ links (get_or ptrs i 0) (pieces (Row i) (row ptrs es i)) ≡ links 0 (flatten (row_pieces (suc i) ptrs es))
  unfolding row_pieces table
  rows_more i h =
      let n : get_or ptrs i 0 ≡ 0 + length (flatten (row_pieces i ptrs es)) = omega (arith, rows_many i (omega arith)) in
      ap (λ (k : ℕ). links 0 (flatten (row_pieces i ptrs es)) ++ links k (pieces (Row i) (row ptrs es i))) n
      ∙ sym (links_append 0 (flatten (row_pieces i ptrs es)) (pieces (Row i) (row ptrs es i)))
      ∙ ap (links 0) (sym (flatten_snoc (row_pieces i ptrs es) (pieces (Row i) (row ptrs es i))))

  -- 66 bytes for each entry
  rows_few : (i : ℕ) → i ≤ rows → length (links 0 (flatten (row_pieces i ptrs es))) ≤ 66 * get_or ptrs i 0
  unfolding row_pieces table flatten links
  rows_few zero h = omega arith
  rows_few (suc i) h =
      let e : get_or ptrs (i + 1) 0 ≡ get_or ptrs (suc i) 0 = ap (λ (k : ℕ). get_or ptrs k 0) (add-one i) in
      omega (arith, rows_few i (omega arith), sym (ap length (rows_more i h)), length-append (links 0 (flatten (row_pieces i ptrs es))) (links (get_or ptrs i 0) (pieces (Row i) (row ptrs es i))), links_few (Row i) (get_or ptrs i 0) (row ptrs es i), row_many i h, cut.rises i h)

-- what a loop over the rows has at row i: the pieces of those before it are written
pub record OnRows (rows : ℕ) (ptrs cols vals : List ℕ) (place : ℕ) (old : List ℕ) (i next : ℕ) (text : List ℕ) : Type 0 where
  pub upto : i ≤ rows
  pub wrote : Wrote (links 0 (flatten (row_pieces i ptrs (entries cols vals)))) place old next text

pub rows_none : {rows place : ℕ} {ptrs cols vals old : List ℕ} → OnRows rows ptrs cols vals place old 0 place old
unfolding row_pieces table flatten links
rows_none = record { upto = omega arith; wrote = wrote_none }

module _ {rows place : ℕ} {ptrs cols vals : List ℕ} (ask : RowsAt rows ptrs cols vals place) where
  cut_entries : Cut rows (length (entries cols vals)) ptrs
  cut_entries = rw length-entries ask.cut

  module _ {i next : ℕ} {old text : List ℕ} (h : OnRows rows ptrs cols vals place old i next text) (below : i < rows) where
    -- row i can be written
    pub row_ask : LineAt (get_or ptrs i 0) (get_or ptrs (i + 1) 0) cols vals next
    row_ask = record {
      rises = ask.cut.rises i below;
      columns = omega (arith, ask.cut.within i below, ask.same);
      numbers = ask.cut.within i below;
      reach = record { fits = omega (arith, h.wrote.next, rows_few ptrs (entries cols vals) rows ask.starts cut_entries i h.upto, ask.reach.fits, ask.cut.within i below, ask.cut.rises i below) };
    }

    pub rows_next : {last : ℕ} {after : List ℕ} → Wrote (links (get_or ptrs i 0) (pieces (Row i) (part (get_or ptrs i 0) (get_or ptrs (i + 1) 0) (entries cols vals)))) next text last after → OnRows rows ptrs cols vals place old (i + 1) last after
    unfolding row
    rows_next w = record {
      upto = omega arith;
      wrote = wrote_as (rows_more ptrs (entries cols vals) rows ask.starts cut_entries i below ∙ ap (λ (k : ℕ). links 0 (flatten (row_pieces k ptrs (entries cols vals)))) (sym (add-one i))) (wrote_then h.wrote w);
    }

  -- all rows together get no further than their entries
  pub rows_far : {from next : ℕ} {old text : List ℕ} → Wrote (links 0 (flatten (row_pieces rows ptrs (entries cols vals)))) from old next text → next ≤ from + 66 * length vals
  rows_far w = omega (arith, w.next, rows_few ptrs (entries cols vals) rows ask.starts cut_entries rows (omega arith), upto rows (omega arith))
    where
      upto : (i : ℕ) → i ≤ rows → get_or ptrs i 0 ≤ length vals
      upto zero h = omega (arith, ask.starts)
      upto (suc i) h = rw add-one at (ask.cut.within i h)

pub rows_all : {rows place i next : ℕ} {ptrs cols vals old text : List ℕ} → OnRows rows ptrs cols vals place old i next text → rows ≤ i → Wrote (links 0 (flatten (row_pieces rows ptrs (entries cols vals)))) place old next text
rows_all {rows} {i = i} h past = let e : i ≡ rows = omega (arith, h.upto) in rw e at h.wrote
