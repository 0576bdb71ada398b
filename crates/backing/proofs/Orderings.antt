-- U's row numbers written from the highest pivot column down, while the table is emptied.
-- Assumes nothing.
use mathlib.Core.Path.{◌≡◌, refl, sym, ap, ◌∙◌}
use mathlib.Core.List.{List, [], ◌∷◌, ◌++◌, append_assoc, append-nil, map, map-append}
use Prim.Native.Nat.{ℕ, suc, ◌+◌, ◌-◌, ◌≤◌, ◌<◌}
use native.Mathlib.Nat.{not-suc-le-zero}
use native.Mathlib.Decide.{dec_lt, ℕ_discrete}
use native.Mathlib.Omega.{arith}
use borrow.Author.Tests.{eq-eqb, ne_eqb}
use lib.ListN.{length, get_or, drop, set, length-append, length-map, length-set, get_or-append}
use lib.Seq.{get_or-set_same, get_or-set_other, drop-set-lt, ext_get_or}
use Rattle.lists.specs.Onto.{◌onto◌}
use Rattle.lists.specs.Table.{table}
use Rattle.lists.proofs.Ontos.{length-onto, onto_more, onto_kept}
use Rattle.lists.proofs.Tables.{length-table, get_or-table}
use Rattle.sparse.specs.Lent.{outcome}
use Rattle.sparse.specs.Pivots.{mark}
use Rattle.walk.specs.Step.{pivot_at}
use Rattle.reduced.specs.Order.{pivot_columns}
use Rattle.backing.specs.Asks.{Orders, numbers_down, ordered}

-- the first `left` columns are still to be read, the numbers of `found` rows are written
pub record Ordering (n : ℕ) (pivots₀ ptrs₀ : List ℕ) (found left : ℕ) (ptrs pivots : List ℕ) : Type 0 where
  pub front : List ℕ
  pub within : left ≤ n
  pub columns : pivot_columns pivots₀ n ≡ front ++ pivot_columns pivots₀ left
  pub many : length front ≡ found
  pub pointers : ptrs ≡ (0 ∷ map (pivot_at pivots₀) front) onto ptrs₀
  pub long : length pivots ≡ length pivots₀
  pub unread : (j : ℕ) → j < left → get_or pivots j 0 ≡ get_or pivots₀ j 0
  pub marked : (j : ℕ) → left ≤ j → j < n → get_or pivots j 0 ≡ mark
  pub past : (j : ℕ) → n ≤ j → get_or pivots j 0 ≡ get_or pivots₀ j 0

-- the first pointer is written
first_zero : (ptrs : List ℕ) → 0 < length ptrs → set ptrs 0 0 ≡ (0 ∷ []) onto set ptrs 0 0
unfolding ◌onto◌
first_zero [] q = absurd (not-suc-le-zero q)
first_zero (x ∷ xs) q = refl

-- the columns below the next one
columns_free : (pivots : List ℕ) (c : ℕ) → pivot_at pivots c ≡ mark → pivot_columns pivots (suc c) ≡ pivot_columns pivots c
unfolding pivot_columns
columns_free pivots c e = rw (eq-eqb (pivot_at pivots c) mark e)

columns_pivot : (pivots : List ℕ) (c : ℕ) → (pivot_at pivots c ≡ mark → ⊥) → pivot_columns pivots (suc c) ≡ c ∷ pivot_columns pivots c
unfolding pivot_columns
columns_pivot pivots c e = rw (ne_eqb (pivot_at pivots c) mark e)

pub ordering_none : {n : ℕ} {pivots ptrs : List ℕ} → Orders n pivots ptrs → Ordering n pivots (set ptrs 0 0) 0 n (set ptrs 0 0) pivots
ordering_none {n} {pivots} {ptrs} o = record {
  front = [];
  within = omega arith;
  columns = refl;
  many = refl;
  pointers = first_zero ptrs (omega (arith, o.places));
  long = refl;
  unread = λ j q. refl;
  marked = λ j q t. absurd (omega arith);
  past = λ j q. refl;
}

module _ {n : ℕ} {pivots₀ old : List ℕ} {found left : ℕ} {ptrs pivots : List ℕ} (o : Orders n pivots₀ old) (f : Ordering n pivots₀ (set old 0 0) found left ptrs pivots) where
  abbrev ptrs₀ : List ℕ
  ptrs₀ = set old 0 0

  table_long : n ≤ length pivots₀
  table_long = o.table

  room : length (pivot_columns pivots₀ n) < length ptrs₀
  room = omega (arith, o.places, length-set old 0 0)

  pub ordering_long : length ptrs ≡ length old
  ordering_long =
      ap length f.pointers
      ∙ length-onto (0 ∷ map (pivot_at pivots₀) f.front) ptrs₀ (omega (arith, room, ap length f.columns, length-append f.front (pivot_columns pivots₀ left), length-map f.front (pivot_at pivots₀)))
      ∙ length-set old 0 0

  module _ (some : 0 < left) where
    abbrev c : ℕ
    c = left - 1

    next : suc c ≡ left
    next = omega arith

    marks : (j : ℕ) → c ≤ j → j < n → get_or (set pivots c mark) j 0 ≡ mark
    marks j q t = go (ℕ_discrete j c)
      where
        go : Dec (j ≡ c) → get_or (set pivots c mark) j 0 ≡ mark
        go (yes e) = ap (λ (i : ℕ). get_or (set pivots c mark) i 0) e ∙ get_or-set_same pivots c mark 0 (omega (arith, f.long, f.within))
        go (no e) = get_or-set_other pivots c j mark 0 e ∙ f.marked j (omega arith) t

    unreads : (j : ℕ) → j < c → get_or (set pivots c mark) j 0 ≡ get_or pivots₀ j 0
    unreads j q = get_or-set_other pivots c j mark 0 (λ e. omega arith) ∙ f.unread j (omega arith)

    pasts : (j : ℕ) → n ≤ j → get_or (set pivots c mark) j 0 ≡ get_or pivots₀ j 0
    pasts j q = get_or-set_other pivots c j mark 0 (λ e. omega (arith, f.within)) ∙ f.past j q

    read : get_or pivots c 0 ≡ pivot_at pivots₀ c
    unfolding pivot_at
    read = f.unread c (omega arith)

    -- a column without a pivot
    pub ordering_free : get_or pivots c 0 ≡ mark → Ordering n pivots₀ ptrs₀ found c ptrs (set pivots c mark)
    ordering_free free = record {
      front = f.front;
      within = omega (arith, f.within);
      columns = f.columns ∙ ap (λ (xs : List ℕ). f.front ++ xs) (ap (pivot_columns pivots₀) (sym next) ∙ columns_free pivots₀ c (sym read ∙ free));
      many = f.many;
      pointers = f.pointers;
      long = length-set pivots c mark ∙ f.long;
      unread = unreads;
      marked = marks;
      past = pasts;
    }

    -- a column with one
    module _ (pivot : get_or pivots c 0 ≡ mark → ⊥) where
      more : pivot_columns pivots₀ n ≡ (f.front ++ (c ∷ [])) ++ pivot_columns pivots₀ c
      more =
          f.columns
          ∙ ap (λ (xs : List ℕ). f.front ++ xs) (ap (pivot_columns pivots₀) (sym next) ∙ columns_pivot pivots₀ c (λ e. pivot (read ∙ e)))
          ∙ sym (append_assoc f.front (c ∷ []) (pivot_columns pivots₀ c))

      pub ordering_few : found + 1 ≤ 1024
      ordering_few = omega (arith, o.few, ap length more, length-append (f.front ++ (c ∷ [])) (pivot_columns pivots₀ c), length-append f.front (c ∷ []), f.many)

      place : found + 1 < length ptrs₀
      place = omega (arith, room, ap length more, length-append (f.front ++ (c ∷ [])) (pivot_columns pivots₀ c), length-append f.front (c ∷ []), f.many)

      pub ordering_place : found + 1 < length ptrs
      ordering_place = omega (arith, place, ordering_long, length-set old 0 0)

      pub ordering_pivot : Ordering n pivots₀ ptrs₀ (found + 1) c (set ptrs (found + 1) (get_or pivots c 0)) (set pivots c mark)
      ordering_pivot = record {
        front = f.front ++ (c ∷ []);
        within = omega (arith, f.within);
        columns = more;
        many = length-append f.front (c ∷ []) ∙ ap (λ (i : ℕ). i + 1) f.many;
        pointers =
            ap (λ (xs : List ℕ). set xs (found + 1) (get_or pivots c 0)) f.pointers
            ∙ onto_more (0 ∷ map (pivot_at pivots₀) f.front) ptrs₀ (found + 1) (get_or pivots c 0) (omega (arith, length-map f.front (pivot_at pivots₀), f.many)) place
            ∙ ap (λ (xs : List ℕ). (0 ∷ xs) onto ptrs₀) (ap (λ (i : ℕ). map (pivot_at pivots₀) f.front ++ (i ∷ [])) read ∙ sym (map-append (pivot_at pivots₀) f.front (c ∷ [])));
        long = length-set pivots c mark ∙ f.long;
        unread = unreads;
        marked = marks;
        past = pasts;
      }

  -- none is left
  emptied : left ≡ 0 → pivots ≡ table n (λ j. mark) onto pivots₀
  emptied none = ext_get_or 0 pivots (table n (λ j. mark) onto pivots₀) (f.long ∙ sym (length-onto (table n (λ j. mark)) pivots₀ (omega (arith, length-table n (λ j. mark))))) (λ j q. go j (dec_lt j n))
    where
      front_marks : (j : ℕ) → j < n → get_or (table n (λ i. mark) onto pivots₀) j 0 ≡ mark
      front_marks j q = unfold ◌onto◌ in get_or-append (table n (λ i. mark)) (drop (length (table n (λ i. mark))) pivots₀) 0 j (omega (arith, length-table n (λ i. mark))) ∙ get_or-table n (λ i. mark) j 0 q

      go : (j : ℕ) → Dec (j < n) → get_or pivots j 0 ≡ get_or (table n (λ i. mark) onto pivots₀) j 0
      go j (yes q) = f.marked j (omega arith) q ∙ sym (front_marks j q)
      go j (no q) = f.past j (omega arith) ∙ sym (onto_kept (table n (λ i. mark)) pivots₀ j 0 (omega (arith, length-table n (λ i. mark))) (omega (arith, length-table n (λ i. mark))))

  written : left ≡ 0 → ptrs ≡ (0 ∷ numbers_down pivots₀ n) onto ptrs₀
  unfolding numbers_down pivot_columns
  written none = f.pointers ∙ ap (λ (xs : List ℕ). (0 ∷ map (pivot_at pivots₀) xs) onto ptrs₀) (sym (f.columns ∙ ap (λ (i : ℕ). f.front ++ pivot_columns pivots₀ i) none ∙ append-nil f.front))

-- the first pointer stands in the front that is written
over_first : (x : ℕ) (xs old : List ℕ) → (x ∷ xs) onto set old 0 0 ≡ (x ∷ xs) onto old
unfolding ◌onto◌
over_first x xs old = ap (λ (ys : List ℕ). x ∷ (xs ++ ys)) (drop-set-lt (length (x ∷ xs)) old 0 0 (omega arith))

pub ordering_all : {n : ℕ} {pivots₀ ptrs₀ : List ℕ} {found left : ℕ} {ptrs pivots : List ℕ} → Orders n pivots₀ ptrs₀ → Ordering n pivots₀ (set ptrs₀ 0 0) found left ptrs pivots → left ≤ 0 → outcome ptrs pivots ≡ ordered n pivots₀ ptrs₀
unfolding ordered
ordering_all {n} {pivots₀} {ptrs₀} {found} {left} {ptrs} {pivots} o f none =
    let zero : left ≡ 0 = omega arith in
    let a : ptrs ≡ (0 ∷ numbers_down pivots₀ n) onto ptrs₀ = written o f zero ∙ over_first 0 (numbers_down pivots₀ n) ptrs₀ in
    let b : pivots ≡ table n (λ j. mark) onto pivots₀ = emptied o f zero in
    rw (a, b)
