-- A row's columns from h on: a loop over the row that writes them, and how many there are.
-- Assumes nothing.
use mathlib.Core.Path.{◌≡◌, refl, sym, ap, ◌∙◌}
use mathlib.Core.Bool.{Bool, true, false, cond}
use mathlib.Core.List.{List, [], ◌∷◌, ◌++◌, append-nil, map, map-append}
use Prim.Native.Nat.{ℕ, ◌+◌, ◌-◌, ◌≤◌, ◌<◌}
use native.Mathlib.Nat.{add-zero}
use native.Mathlib.Numerals.{add-one}
use native.Mathlib.Omega.{arith}
use lib.Dec.{leb}
use lib.ListN.{length, get_or, take, drop, length-append, length-map, take-append-drop}
use lib.Seq.{take-suc, take_all}
use borrow.Author.Tests.{le-leb, lt-leb}
use Rattle.lists.specs.Find.{count, keep}
use Rattle.lists.proofs.Tables.{get_or-table}
use Rattle.sparse.specs.Matrix.{row}
use Rattle.sparse.specs.Put.{cols_of, values_of}
use Rattle.sparse.specs.Rows.{Entry, entry, entries}
use Rattle.meaning.proofs.Parts.{length_part}
use Rattle.meaning.proofs.RowLists.{length-entries, part_entries}
use Rattle.writing.specs.Puts.{Put, put, put_at, more, Fits}
use Rattle.writing.proofs.Puts.{length-put_at}
use Rattle.writing.proofs.RowPuts.{more_append, after_row}
use Rattle.moves.specs.Asks.{RightFits, RightRow}
use Rattle.moves.specs.Moves.{right_of}
use Rattle.moves.proofs.Named.{kept_many}

keep_append : {A : Type 0} (f : A → Bool) (xs ys : List A) → keep f (xs ++ ys) ≡ keep f xs ++ keep f ys
unfolding keep
keep_append f [] ys = refl
keep_append f (x ∷ xs) ys = go (f x) (keep_append f xs ys)
  where
    go : (b : Bool) → keep f (xs ++ ys) ≡ keep f xs ++ keep f ys → cond b (x ∷ keep f (xs ++ ys)) (keep f (xs ++ ys)) ≡ cond b (x ∷ keep f xs) (keep f xs) ++ keep f ys
    go true e = λ i. x ∷ e i
    go false e = e

module _ (h : ℕ) where
  pub right_append : (xs ys : List Entry) → right_of h (xs ++ ys) ≡ right_of h xs ++ right_of h ys
  unfolding right_of
  right_append xs ys = ap (map (λ (e : Entry). entry (e.col - h) e.value)) (keep_append (λ e. leb h e.col) xs ys) ∙ map-append (λ (e : Entry). entry (e.col - h) e.value) (keep (λ e. leb h e.col) xs) (keep (λ e. leb h e.col) ys)

  -- how many there are
  pub right_long : (es : List Entry) → length (right_of h es) ≡ count (λ e. leb h e.col) es
  unfolding right_of
  right_long es = length-map (keep (λ e. leb h e.col) es) (λ (e : Entry). entry (e.col - h) e.value) ∙ kept_many (λ e. leb h e.col) es

-- the first k entries of a row are looked at, and those from column h on are written
pub record Righting (h : ℕ) (cols vals : List ℕ) (s : Put) (k next : ℕ) (oc ov : List ℕ) : Type 0 where
  pub within : k ≤ length cols
  pub state : put next oc ov ≡ more (right_of h (take k (entries cols vals))) s

put_none : (at : ℕ) (old : List ℕ) → put_at at [] old ≡ old
unfolding put_at
put_none at old = ap (λ (n : ℕ). take at old ++ drop n old) (add-zero at) ∙ take-append-drop at old

pub right_start : (h : ℕ) (cols vals : List ℕ) (at : ℕ) (oc ov : List ℕ) → Righting h cols vals (put at oc ov) 0 at oc ov
unfolding right_of keep more cols_of values_of
right_start h cols vals at oc ov = record { within = omega arith; state = λ i. put (sym (add-zero at) i) (sym (put_none at oc) i) (sym (put_none at ov) i) }

module _ {h : ℕ} {cols vals : List ℕ} {s : Put} (fit : RightFits h cols vals s) {k next : ℕ} {oc ov : List ℕ} (w : Righting h cols vals s k next oc ov) where
  abbrev es : List Entry
  es = entries cols vals

  -- what is written so far, and what is left, fit
  split : (i : ℕ) → length (right_of h (take i es)) + length (right_of h (drop i es)) ≡ length (right_of h es)
  split i = sym (length-append (right_of h (take i es)) (right_of h (drop i es))) ∙ ap length (sym (right_append h (take i es) (drop i es)) ∙ ap (right_of h) (take-append-drop i es))

  module _ (l : k < length cols) where
    abbrev e : Entry
    e = entry (get_or cols k 0) (get_or vals k 0)

    front : right_of h (take (k + 1) es) ≡ right_of h (take k es) ++ right_of h (e ∷ [])
    unfolding entries
    front =
        ap (λ (i : ℕ). right_of h (take i es)) (add-one k)
        ∙ ap (right_of h) (take-suc es k (entry 0 0) (rw length-entries (omega (arith, fit.same))) ∙ ap (λ (x : Entry). take k es ++ (x ∷ [])) (get_or-table (length vals) (λ i. entry (get_or cols i 0) (get_or vals i 0)) k (entry 0 0) (omega (arith, fit.same))))
        ∙ right_append h (take k es) (e ∷ [])

    none : get_or cols k 0 < h → right_of h (e ∷ []) ≡ []
    unfolding right_of keep
    none b = rw (lt-leb h (get_or cols k 0) b)

    -- a column below h
    pub right_skip : get_or cols k 0 < h → Righting h cols vals s (k + 1) next oc ov
    right_skip b = record { within = omega arith; state = w.state ∙ ap (λ (xs : List Entry). more xs s) (sym (append-nil (right_of h (take k es))) ∙ ap (λ (xs : List Entry). right_of h (take k es) ++ xs) (sym (none b)) ∙ sym front) }

    module _ (b : h ≤ get_or cols k 0) where
      one : right_of h (e ∷ []) ≡ entry (get_or cols k 0 - h) (get_or vals k 0) ∷ []
      unfolding right_of keep
      one = rw (le-leb h (get_or cols k 0) b)

      room : Fits (length (right_of h (take k es)) + 1) s
      room =
          let long : length (right_of h (take (k + 1) es)) ≡ length (right_of h (take k es)) + 1 = ap length (front ∙ ap (λ (xs : List Entry). right_of h (take k es) ++ xs) one) ∙ length-append (right_of h (take k es)) (entry (get_or cols k 0 - h) (get_or vals k 0) ∷ []) in
          record { columns = omega (arith, fit.fits.columns, split (k + 1)); numbers = omega (arith, fit.fits.numbers, split (k + 1)) }

      -- another is written next
      pub right_ready : Fits 1 (put next oc ov)
      right_ready = after_row (right_of h (take k es)) 1 s (put next oc ov) w.state room

      pub right_next : {next' : ℕ} {oc' ov' : List ℕ} → put next' oc' ov' ≡ more (entry (get_or cols k 0 - h) (get_or vals k 0) ∷ []) (put next oc ov) → Righting h cols vals s (k + 1) next' oc' ov'
      right_next q = record {
        within = omega arith;
        state =
            q
            ∙ ap (more (entry (get_or cols k 0 - h) (get_or vals k 0) ∷ [])) w.state
            ∙ sym (more_append (right_of h (take k es)) (entry (get_or cols k 0 - h) (get_or vals k 0) ∷ []) s room)
            ∙ ap (λ (xs : List Entry). more xs s) (ap (λ (xs : List Entry). right_of h (take k es) ++ xs) (sym one) ∙ sym front);
      }

  pub right_end : length cols ≤ k → put next oc ov ≡ more (right_of h es) s
  right_end l = w.state ∙ ap (λ (xs : List Entry). more (right_of h xs) s) (take_all k es (rw length-entries (omega (arith, fit.same))))

  -- the lent memory keeps its length
  pub right_keeps : (length oc ≡ length s.cols) × (length ov ≡ length s.vals)
  unfolding more cols_of values_of
  right_keeps =
      let xs : List Entry = right_of h (take k es) in
      let cs = length-map xs (λ (x : Entry). x.col) in
      let vs = length-map xs (λ (x : Entry). x.value) in (
        ap (λ (u : Put). length u.cols) w.state ∙ length-put_at s.at (map (λ x. x.col) xs) s.cols (omega (arith, fit.fits.columns, split k)),
        ap (λ (u : Put). length u.vals) w.state ∙ length-put_at s.at (map (λ x. x.value) xs) s.vals (omega (arith, fit.fits.numbers, split k)),
      )

-- row i's columns and values, as `put_right` asks
module _ {h : ℕ} {ptrs cols vals : List ℕ} {i : ℕ} {s : Put} (r : RightRow h ptrs cols vals i s) where
  pub right_row : entries (row ptrs cols i) (row ptrs vals i) ≡ row ptrs (entries cols vals) i
  unfolding row
  right_row = part_entries (get_or ptrs i 0) (get_or ptrs (i + 1) 0) cols vals r.same r.within

  pub right_asked : RightFits h (row ptrs cols i) (row ptrs vals i) s
  unfolding row
  right_asked = record {
    same = length_part (get_or ptrs i 0) (get_or ptrs (i + 1) 0) cols (omega (arith, r.within, r.same)) ∙ sym (length_part (get_or ptrs i 0) (get_or ptrs (i + 1) 0) vals r.within);
    fits = rw right_row r.fits;
  }
