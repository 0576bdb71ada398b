-- One column of a walk, in document 01's words and in place: the two agree.
-- Assumes nothing.
use Rattle.std.specs.Prelude.{None, Some}
use mathlib.Core.Path.{◌≡◌, refl, sym, ap, ◌∙◌}
use mathlib.Core.Bool.{Bool, true, false, not, ◌&&◌, cond, or-true, and-false}
use mathlib.Core.List.{List, [], ◌∷◌, ◌++◌, append-nil}
use Prim.Native.Nat.{ℕ, zero, suc, ◌+◌, ◌-◌, ◌*◌, ◌%◌, ◌≤◌, ◌<◌}
use native.Mathlib.Nat.{mod-lt, mod-eq_of_lt, mod_self, add-zero, mul-zero, mul-one}
use native.Mathlib.Decide.{dec_lt, ℕ_discrete}
use native.Mathlib.Omega.{arith}
use borrow.Author.Tests.{eq-eqb, ne_eqb, lt-ltb, le-ltb}
use lib.Dec.{eqb, ltb}
use lib.ListN.{get_or}
use Rattle.lists.specs.Gather.{gather}
use Rattle.lists.specs.Table.{table}
use Rattle.lists.proofs.Tables.{length-table, get_or-table}
use Rattle.sparse.specs.Pivots.{mark}
use Rattle.sparse.specs.Rows.{Entry, entry}
use Rattle.walk.specs.Left.{over, rest_of, multiples, answer_of, Left}
use Rattle.walk.specs.Step.{Upper, pivot_at, is_none, Way, subtract, accept, stopped, at, Answer}

-- 01's column c, case by case
module _ (on : Bool) (p : ℕ) (u : Upper) (c : ℕ) (w : Way) where
  pub at_zero : w.rest c ≡ 0 → at on p u c w ≡ w
  unfolding at
  at_zero e = rw (eq-eqb (w.rest c) 0 e, or-true)

  pub at_stopped : stopped on w ≡ true → at on p u c w ≡ w
  unfolding at
  at_stopped e = rw e

  pub at_pivot : stopped on w ≡ false → (w.rest c ≡ 0 → ⊥) → (pivot_at u.pivots c ≡ mark → ⊥) → at on p u c w ≡ subtract p u c w
  unfolding at
  at_pivot e x m = rw (e, ne_eqb (w.rest c) 0 x, ne_eqb (pivot_at u.pivots c) mark m)

  pub at_free : stopped on w ≡ false → (w.rest c ≡ 0 → ⊥) → pivot_at u.pivots c ≡ mark → at on p u c w ≡ accept c w
  unfolding at
  at_free e x m = rw (e, ne_eqb (w.rest c) 0 x, eq-eqb (pivot_at u.pivots c) mark m)

-- where a limit moves up by one column
over_other : (u : Upper) (c j : ℕ) → (j ≡ c → ⊥) → over u.pivots (suc c) j ≡ over u.pivots c j
unfolding over
over_other u c j ne = go (dec_lt j c)
  where
    go : Dec (j < c) → (ltb j (suc c) && not (eqb (pivot_at u.pivots j) mark)) ≡ (ltb j c && not (eqb (pivot_at u.pivots j) mark))
    go (yes h) = rw (lt-ltb j c h, lt-ltb j (suc c) (omega arith))
    go (no h) = rw (le-ltb j c (omega arith), le-ltb j (suc c) (omega arith))

-- at or above the limit the entry itself is left
pub rest_above : (u : Upper) (c : ℕ) (dense : List ℕ) (j : ℕ) → c ≤ j → rest_of u.pivots c dense j ≡ get_or dense j 0
unfolding rest_of over
rest_above u c dense j h = rw (le-ltb j c h)

rest_zero : (u : Upper) (c : ℕ) (dense : List ℕ) (j : ℕ) → get_or dense j 0 ≡ 0 → rest_of u.pivots c dense j ≡ 0
unfolding rest_of
rest_zero u c dense j e = go (over u.pivots c j)
  where
    go : (b : Bool) → cond b 0 (get_or dense j 0) ≡ 0
    go true = refl
    go false = e

pub rest_other : (u : Upper) (c : ℕ) (dense : List ℕ) (j : ℕ) → (j ≡ c → ⊥) → rest_of u.pivots (suc c) dense j ≡ rest_of u.pivots c dense j
unfolding rest_of
rest_other u c dense j ne = rw (over_other u c j ne)

pub rest_free : (u : Upper) (limit : ℕ) (dense : List ℕ) (j : ℕ) → pivot_at u.pivots j ≡ mark → rest_of u.pivots limit dense j ≡ get_or dense j 0
unfolding rest_of over
rest_free u limit dense j m = rw (eq-eqb (pivot_at u.pivots j) mark m, and-false)

rest_small : (u : Upper) (c p : ℕ) (dense : List ℕ) (j : ℕ) → get_or dense j 0 < p → rest_of u.pivots c dense j < p
unfolding rest_of
rest_small u c p dense j h = go (over u.pivots c j)
  where
    go : (b : Bool) → cond b 0 (get_or dense j 0) < p
    go true = omega arith
    go false = h

-- what lies at or above c changes no multiple below it
pub multiples_same : (u : Upper) (c : ℕ) (d e : List ℕ) → ((j : ℕ) → j < c → get_or d j 0 ≡ get_or e j 0) → multiples u.pivots c d ≡ multiples u.pivots c e
unfolding multiples gather
multiples_same u zero d e h = refl
multiples_same u (suc c) d e h =
    ap (λ (x : ℕ). multiples u.pivots c d ++ cond (not (eqb (pivot_at u.pivots c) mark) && not (eqb x 0)) (entry (pivot_at u.pivots c) x ∷ []) []) (h c (omega arith))
    ∙ ap (λ (l : List Entry). l ++ cond (not (eqb (pivot_at u.pivots c) mark) && not (eqb (get_or e c 0) 0)) (entry (pivot_at u.pivots c) (get_or e c 0) ∷ []) []) (multiples_same u c d e (λ j l. h j (omega arith)))

multiples_zero : (u : Upper) (c : ℕ) (dense : List ℕ) → get_or dense c 0 ≡ 0 → multiples u.pivots (suc c) dense ≡ multiples u.pivots c dense
unfolding multiples gather
multiples_zero u c dense e = rw (eq-eqb (get_or dense c 0) 0 e, and-false) (append-nil (multiples u.pivots c dense))

pub multiples_free : (u : Upper) (c : ℕ) (dense : List ℕ) → pivot_at u.pivots c ≡ mark → multiples u.pivots (suc c) dense ≡ multiples u.pivots c dense
unfolding multiples gather
multiples_free u c dense m = rw (eq-eqb (pivot_at u.pivots c) mark m) (append-nil (multiples u.pivots c dense))

multiples_more : (u : Upper) (c : ℕ) (dense : List ℕ) → (pivot_at u.pivots c ≡ mark → ⊥) → (get_or dense c 0 ≡ 0 → ⊥) → multiples u.pivots (suc c) dense ≡ multiples u.pivots c dense ++ (entry (pivot_at u.pivots c) (get_or dense c 0) ∷ [])
unfolding multiples gather
multiples_more u c dense m x = rw (ne_eqb (pivot_at u.pivots c) mark m, ne_eqb (get_or dense c 0) 0 x)

-- the pivot row's values v and what lies beyond its head, t
pub record Beyond (n c : ℕ) (v t : ℕ → ℕ) : Type 0 where
  pub head : v c ≡ 1
  pub before : (j : ℕ) → j < c → v j ≡ 0
  pub after : (j : ℕ) → c < j → j < n → v j ≡ t j
  pub none : (j : ℕ) → j ≤ c → t j ≡ 0

module _ (on : Bool) (p n : ℕ) (u : Upper) (c : ℕ) (w : Way) (dense : List ℕ) (head : ℕ) (left : Left p n c u w dense head) (low : c < n) where
  -- what is left at column c is what stands there
  pub rest_here : w.rest c ≡ get_or dense c 0
  rest_here = left.rest c low ∙ rest_above u c dense c (omega arith)

  -- nothing at column c
  pub left_zero : get_or dense c 0 ≡ 0 → Left p n (suc c) u (at on p u c w) dense head
  left_zero e = record {
    long = left.long;
    small = left.small;
    rest = λ j l. ap (λ (z : Way). z.rest j) same ∙ left.rest j l ∙ go j (ℕ_discrete j c);
    l = ap (λ (z : Way). z.l) same ∙ left.l ∙ sym (multiples_zero u c dense e);
    answer = ap (λ (z : Way). z.answer) same ∙ left.answer;
  }
    where
      same : at on p u c w ≡ w
      same = at_zero on p u c w (rest_here ∙ e)

      go : (j : ℕ) → Dec (j ≡ c) → rest_of u.pivots c dense j ≡ rest_of u.pivots (suc c) dense j
      go j (yes q) = let z : get_or dense j 0 ≡ 0 = rw q e in rest_zero u c dense j z ∙ sym (rest_zero u (suc c) dense j z)
      go j (no ne) = sym (rest_other u c dense j ne)

  module _ (going : stopped on w ≡ false) (nonzero : get_or dense c 0 ≡ 0 → ⊥) where
    stands : w.rest c ≡ 0 → ⊥
    stands e = nonzero (sym rest_here ∙ e)

    -- an entry over a pivot: subtracted beyond the head, and left in its place
    pub left_pivot : (pivot_at u.pivots c ≡ mark → ⊥) → (t : ℕ → ℕ) → Beyond n c (u.value (pivot_at u.pivots c)) t → Left p n (suc c) u (at on p u c w) (table n (λ j. (get_or dense j 0 + (p - get_or dense c 0) * t j) % p)) head
    unfolding subtract rest_of over
    left_pivot pivot t beyond = record {
      long = length-table n new;
      small = λ j l. rw (get_or-table n new j 0 l) (mod-lt (get_or dense j 0 + (p - m) * t j) (omega (arith, left.small c low)));
      rest = λ j l. ap (λ (z : Way). z.rest j) same ∙ rests j l (dec_lt j c) (ℕ_discrete j c);
      l = ap (λ (z : Way). z.l) same ∙ rows;
      answer = ap (λ (z : Way). z.answer) same ∙ left.answer;
    }
      where
        m : ℕ
        m = get_or dense c 0

        new : ℕ → ℕ
        new j = (get_or dense j 0 + (p - m) * t j) % p

        same : at on p u c w ≡ subtract p u c w
        same = at_pivot on p u c w going stands pivot

        -- up to c nothing changes
        kept : (j : ℕ) → j ≤ c → get_or (table n new) j 0 ≡ get_or dense j 0
        kept j h =
            get_or-table n new j 0 (omega arith)
            ∙ ap (λ (x : ℕ). (get_or dense j 0 + (p - m) * x) % p) (beyond.none j h)
            ∙ ap (λ (x : ℕ). (get_or dense j 0 + x) % p) (mul-zero (p - m))
            ∙ ap (λ (x : ℕ). x % p) (add-zero (get_or dense j 0))
            ∙ mod-eq_of_lt (left.small j (omega arith))

        moved : (j : ℕ) → get_or (table n new) j 0 ≡ get_or dense j 0 → rest_of u.pivots (suc c) dense j ≡ rest_of u.pivots (suc c) (table n new) j
        moved j e = ap (λ (x : ℕ). cond (over u.pivots (suc c) j) 0 x) (sym e)

        -- at c the head clears the entry
        cleared : (w.rest c + (p - w.rest c) * u.value (pivot_at u.pivots c) c) % p ≡ 0
        cleared =
            let whole : m + (p - m) ≡ p = omega (arith, left.small c low) in
            ap (λ (x : ℕ). (w.rest c + (p - w.rest c) * x) % p) beyond.head
            ∙ ap (λ (x : ℕ). (w.rest c + x) % p) (mul-one (p - w.rest c))
            ∙ ap (λ (x : ℕ). (x + (p - x)) % p) rest_here
            ∙ ap (λ (x : ℕ). x % p) whole
            ∙ mod_self p

        over_here : rest_of u.pivots (suc c) (table n new) c ≡ 0
        over_here = rw (lt-ltb c (suc c) (omega arith), ne_eqb (pivot_at u.pivots c) mark pivot)

        rests : (j : ℕ) → j < n → Dec (j < c) → Dec (j ≡ c) → (subtract p u c w).rest j ≡ rest_of u.pivots (suc c) (table n new) j
        rests j l (yes b) d =
            ap (λ (x : ℕ). (w.rest j + (p - w.rest c) * x) % p) (beyond.before j b)
            ∙ ap (λ (x : ℕ). (w.rest j + x) % p) (mul-zero (p - w.rest c))
            ∙ ap (λ (x : ℕ). x % p) (add-zero (w.rest j) ∙ left.rest j l)
            ∙ mod-eq_of_lt (rest_small u c p dense j (left.small j l))
            ∙ sym (rest_other u c dense j (λ e. omega arith))
            ∙ moved j (kept j (omega arith))
        rests j l (no b) (yes e) = rw e (cleared ∙ sym over_here)
        rests j l (no b) (no ne) =
            ap (λ (x : ℕ). (x + (p - w.rest c) * u.value (pivot_at u.pivots c) j) % p) (left.rest j l ∙ rest_above u c dense j (omega arith))
            ∙ ap (λ (x : ℕ). (get_or dense j 0 + (p - x) * u.value (pivot_at u.pivots c) j) % p) rest_here
            ∙ ap (λ (x : ℕ). (get_or dense j 0 + (p - m) * x) % p) (beyond.after j (omega arith) l)
            ∙ sym (get_or-table n new j 0 l)
            ∙ sym (rest_above u (suc c) (table n new) j (omega arith))

        rows : (subtract p u c w).l ≡ multiples u.pivots (suc c) (table n new)
        rows =
            ap (λ (x : ℕ). w.l ++ (entry (pivot_at u.pivots c) x ∷ [])) (rest_here ∙ sym (kept c (omega arith)))
            ∙ ap (λ (z : List Entry). z ++ (entry (pivot_at u.pivots c) (get_or (table n new) c 0) ∷ [])) (left.l ∙ multiples_same u c dense (table n new) (λ j h. sym (kept j (omega arith))))
            ∙ sym (multiples_more u c (table n new) pivot (λ e. nonzero (sym (kept c (omega arith)) ∙ e)))

    freed : pivot_at u.pivots c ≡ mark → (h : ℕ) → cond (is_none w.answer) (Some c) w.answer ≡ answer_of n h → Left p n (suc c) u (at on p u c w) dense h
    unfolding accept
    freed free h e = record {
      long = left.long;
      small = left.small;
      rest = λ j l. ap (λ (z : Way). z.rest j) same ∙ left.rest j l ∙ go j (ℕ_discrete j c);
      l = ap (λ (z : Way). z.l) same ∙ left.l ∙ sym (multiples_free u c dense free);
      answer = ap (λ (z : Way). z.answer) same ∙ e;
    }
      where
        same : at on p u c w ≡ accept c w
        same = at_free on p u c w going stands free

        go : (j : ℕ) → Dec (j ≡ c) → rest_of u.pivots c dense j ≡ rest_of u.pivots (suc c) dense j
        go j (yes q) = let m : pivot_at u.pivots j ≡ mark = rw q free in rest_free u c dense j m ∙ sym (rest_free u (suc c) dense j m)
        go j (no ne) = sym (rest_other u c dense j ne)

    -- an entry with no pivot: the head, where there was none
    pub left_head : pivot_at u.pivots c ≡ mark → head ≡ n → Left p n (suc c) u (at on p u c w) dense c
    unfolding answer_of is_none
    left_head free none = freed free c (ap (λ (a : Answer). cond (is_none a) (Some c) a) (left.answer ∙ none_yet) ∙ here)
      where
        none_yet : answer_of n head ≡ None
        none_yet = rw (le-ltb head n (omega arith))

        here : cond (is_none None) (Some c) None ≡ answer_of n c
        here = rw (lt-ltb c n low)

    -- and where there was one
    pub left_later : pivot_at u.pivots c ≡ mark → head < n → Left p n (suc c) u (at on p u c w) dense head
    unfolding answer_of is_none
    left_later free some = freed free head (ap (λ (a : Answer). cond (is_none a) (Some c) a) (left.answer ∙ found) ∙ sym found)
      where
        found : answer_of n head ≡ Some head
        found = rw (lt-ltb head n some)
