-- Loops over rows of at most one entry each, that count the entries or write them: what they know at each turn.
-- Assumes nothing.
use mathlib.Core.Path.{◌≡◌, refl, sym, ap, ◌∙◌}
use mathlib.Core.List.{List, [], ◌∷◌, ◌++◌, map, map-append, flatten, append-nil}
use Prim.Native.Nat.{ℕ, ◌+◌, ◌≤◌, ◌<◌}
use native.Mathlib.Omega.{arith}
use lib.ListN.{length, get_or, take, set, length-map}
use lib.Seq.{take_all}
use Rattle.lists.specs.Onto.{◌onto◌}
use Rattle.lists.proofs.Ontos.{length-onto, onto_nil, onto_more}
use Rattle.sparse.specs.Lent.{LentVector, lent_vector}
use Rattle.sparse.specs.Put.{cols_of, values_of}
use Rattle.sparse.specs.Rows.{Entry, entry, offset}
use Rattle.writing.proofs.Writing.{front_more, offset_more, offset_most}
use Rattle.lasts.specs.Gathers.{put_entries}

-- k rows are past, and had n entries
pub record Tally (rs : List (List Entry)) (n k : ℕ) : Type 0 where
  pub within : k ≤ length rs
  pub so_far : n ≡ offset rs k
  pub few : n ≤ k

pub tally_none : (rs : List (List Entry)) → Tally rs 0 0
unfolding offset flatten
tally_none rs = record { within = omega arith; so_far = refl; few = omega arith }

module _ (rs : List (List Entry)) (n k : ℕ) (t : Tally rs n k) where
  -- the next row has an entry
  pub tally_one : {e : Entry} → k < length rs → get_or rs k [] ≡ e ∷ [] → Tally rs (n + 1) (k + 1)
  tally_one h q = record { within = omega arith; so_far = omega (arith, t.so_far, offset_more rs k h, ap length q); few = omega (arith, t.few) }

  -- or none
  pub tally_skip : k < length rs → get_or rs k [] ≡ [] → Tally rs n (k + 1)
  tally_skip h q = record { within = omega arith; so_far = omega (arith, t.so_far, offset_more rs k h, ap length q); few = omega (arith, t.few) }

  -- no row is left
  pub tally_all : length rs ≤ k → n ≡ length (flatten rs)
  unfolding offset
  tally_all h = t.so_far ∙ ap (λ (l : List (List Entry)). length (flatten l)) (take_all k rs h)

  -- there is room for an entry of the next row
  pub tally_room : {e : Entry} → k < length rs → get_or rs k [] ≡ e ∷ [] → n < length (flatten rs)
  tally_room h q = omega (arith, t.so_far, offset_more rs k h, ap length q, offset_most rs (k + 1))

module _ (f : Entry → ℕ) (rs : List (List Entry)) (n k : ℕ) (t : Tally rs n k) (xs old : List ℕ) (so : xs ≡ map f (flatten (take k rs)) onto old) (room : length (flatten rs) ≤ length old) where
  long : length (map f (flatten (take k rs))) ≡ n
  unfolding offset
  long = length-map (flatten (take k rs)) f ∙ sym t.so_far

  -- the lent memory keeps its length
  keeps : length xs ≡ length old
  keeps = ap length so ∙ length-onto (map f (flatten (take k rs))) old (omega (arith, long, t.so_far, offset_most rs k))

  -- one more entry's column, or value
  one_more : {e : Entry} → k < length rs → get_or rs k [] ≡ e ∷ [] → set xs n (f e) ≡ map f (flatten (take (k + 1) rs)) onto old
  one_more {e} h q =
      let front : List Entry = flatten (take k rs) in
      ap (λ (l : List ℕ). set l n (f e)) so
      ∙ onto_more (map f front) old n (f e) long (omega (arith, tally_room rs n k t h q))
      ∙ ap (λ (l : List ℕ). l onto old) (sym (map-append f front (e ∷ [])) ∙ ap (map f) (ap (λ (l : List Entry). front ++ l) (sym q) ∙ sym (front_more rs k h)))

  -- none more
  no_more : k < length rs → get_or rs k [] ≡ [] → xs ≡ map f (flatten (take (k + 1) rs)) onto old
  no_more h q = so ∙ ap (λ (l : List Entry). map f l onto old) (sym (front_more rs k h ∙ ap (λ (l : List Entry). flatten (take k rs) ++ l) q ∙ append-nil (flatten (take k rs))))

  no_row_left : length rs ≤ k → xs ≡ map f (flatten rs) onto old
  no_row_left h = so ∙ ap (λ (l : List (List Entry)). map f (flatten l) onto old) (take_all k rs h)

-- and these entries are written
pub record Gathering (rs : List (List Entry)) (l : LentVector) (n k : ℕ) (idcs vals : List ℕ) : Type 0 where
  pub tally : Tally rs n k
  pub indices : idcs ≡ cols_of (flatten (take k rs)) onto l.idcs
  pub numbers : vals ≡ values_of (flatten (take k rs)) onto l.values

pub gathering_none : (rs : List (List Entry)) (l : LentVector) → Gathering rs l 0 0 l.idcs l.values
unfolding flatten cols_of values_of
gathering_none rs l = record { tally = tally_none rs; indices = sym (onto_nil l.idcs); numbers = sym (onto_nil l.values) }

-- by 14 the entries fit
pub record Fits (rs : List (List Entry)) (l : LentVector) : Type 0 where
  pub indices : length (flatten rs) ≤ length l.idcs
  pub numbers : length (flatten rs) ≤ length l.values

module _ {rs : List (List Entry)} {l : LentVector} {n k : ℕ} {idcs vals : List ℕ} (fits : Fits rs l) (g : Gathering rs l n k idcs vals) where
  pub idcs_keep : length idcs ≡ length l.idcs
  unfolding cols_of
  idcs_keep = keeps (λ e. e.col) rs n k g.tally idcs l.idcs g.indices fits.indices

  pub vals_keep : length vals ≡ length l.values
  unfolding values_of
  vals_keep = keeps (λ e. e.value) rs n k g.tally vals l.values g.numbers fits.numbers

  pub gathering_one : {i v : ℕ} → k < length rs → get_or rs k [] ≡ entry i v ∷ [] → Gathering rs l (n + 1) (k + 1) (set idcs n i) (set vals n v)
  unfolding cols_of values_of
  gathering_one h q = record {
    tally = tally_one rs n k g.tally h q;
    indices = one_more (λ e. e.col) rs n k g.tally idcs l.idcs g.indices fits.indices h q;
    numbers = one_more (λ e. e.value) rs n k g.tally vals l.values g.numbers fits.numbers h q;
  }

  pub gathering_skip : k < length rs → get_or rs k [] ≡ [] → Gathering rs l n (k + 1) idcs vals
  unfolding cols_of values_of
  gathering_skip h q = record {
    tally = tally_skip rs n k g.tally h q;
    indices = no_more (λ e. e.col) rs n k g.tally idcs l.idcs g.indices fits.indices h q;
    numbers = no_more (λ e. e.value) rs n k g.tally vals l.values g.numbers fits.numbers h q;
  }

  pub gathering_all : length rs ≤ k → lent_vector idcs vals ≡ put_entries (flatten rs) l
  unfolding cols_of values_of put_entries
  gathering_all h = λ i. lent_vector
      (no_row_left (λ e. e.col) rs n k g.tally idcs l.idcs g.indices fits.indices h i)
      (no_row_left (λ e. e.value) rs n k g.tally vals l.values g.numbers fits.numbers h i)
