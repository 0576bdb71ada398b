-- `walk`'s loop: what it has at each turn, and at its end.
-- Assumes nothing.
use Rattle.std.specs.Prelude.{None}
use mathlib.Core.Path.{◌≡◌, refl, sym, ap, subst, ◌∙◌}
use mathlib.Core.Logic.{◌⊎◌, inl, inr, ⊎_elim}
use mathlib.Core.Bool.{Bool, true, false, not, true≢false}
use mathlib.Core.List.{List, []}
use Prim.Native.Nat.{ℕ, suc, ◌+◌, ◌-◌, ◌*◌, ◌%◌, ◌≤◌, ◌<◌, min}
use native.Mathlib.Nat.{mul-zero, zero-mod}
use native.Mathlib.Decide.{ℕ_discrete}
use native.Mathlib.Numerals.{add-one}
use native.Mathlib.Omega.{arith}
use borrow.Author.Tests.{eqb-true, eqb-false, not-true, not-false}
use lib.Dec.{eqb}
use lib.ListN.{length, get_or}
use Rattle.lists.specs.Find.{least}
use Rattle.lists.specs.Table.{table}
use Rattle.lists.proofs.Find.{least_within, least_before, least_at}
use Rattle.lists.proofs.Tables.{length-table, get_or-table}
use Rattle.sparse.specs.Matrix.{value_in}
use Rattle.sparse.specs.Pivots.{mark}
use Rattle.walk.specs.Asks.{PivotRow, Clears, Walks}
use Rattle.walk.specs.Dense.{next_from, plus_multiple, beyond, minus_row}
use Rattle.walk.specs.Left.{rest_of, limit_of, Left}
use Rattle.walk.specs.Step.{Upper, upper, pivot_at, Way, way, stopped, climb}
use Rattle.walk.proofs.Climbing.{climb_stays, left_skip, left_start, still, goes_on, stops}
use Rattle.walk.proofs.PivotRows.{pivot_beyond}
use Rattle.walk.proofs.Ways.{rest_free, rest_other, multiples_free, left_pivot, left_head, left_later}

-- the next nonzero column
pub record Next (dense : List ℕ) (c at : ℕ) : Type 0 where
  pub from : c ≤ at
  pub within : at ≤ length dense
  pub zeros : (j : ℕ) → c ≤ j → j < at → get_or dense j 0 ≡ 0
  pub stands : at < length dense → get_or dense at 0 ≡ 0 → ⊥

pub next_found : {dense : List ℕ} {c at : ℕ} → c ≤ length dense → at ≡ next_from dense c → Next dense c at
unfolding next_from
next_found {dense} {c} {at} h e = record {
  from = omega arith;
  within = omega (arith, least_within (length dense - c) f);
  zeros = λ j a b.
      let back : c + (j - c) ≡ j = omega arith in
      let q : not (eqb (get_or dense (c + (j - c)) 0) 0) ≡ false = least_before (length dense - c) f (j - c) (omega arith) in
      eqb-true (get_or dense j 0) 0 (rw back at (not-false (eqb (get_or dense (c + (j - c)) 0) 0) q));
  stands = λ l.
      let q : not (eqb (get_or dense (c + least (length dense - c) f) 0) 0) ≡ true = least_at (length dense - c) f (omega arith) in
      eqb-false (get_or dense at 0) 0 (rw (← e) at (not-true (eqb (get_or dense (c + least (length dense - c) f) 0) 0) q));
}
  where
    f : ℕ → Bool
    f i = not (eqb (get_or dense (c + i) 0) 0)

pub next_above : (dense : List ℕ) {c at : ℕ} → at ≡ next_from dense c → c ≤ at
unfolding next_from
next_above dense e = omega arith

-- what a pivot row changes keeps its length
pub minus_long : (p c : ℕ) (cols vals ptrs : List ℕ) (r : ℕ) (dense : List ℕ) {next : List ℕ} → next ≡ minus_row p c cols vals ptrs r dense → length next ≡ length dense
unfolding minus_row plus_multiple
minus_long p c cols vals ptrs r dense e = ap length e ∙ length-table (length dense) _

-- nothing stands before `from`, and col is past it
pub record Front (from : ℕ) (dense : List ℕ) (col : ℕ) : Type 0 where
  pub below : from ≤ col
  pub zeros : (j : ℕ) → j < from → get_or dense j 0 ≡ 0

pub front_next : {from col at : ℕ} {dense : List ℕ} → Front from dense col → at ≡ next_from dense (col + 1) → Front from dense at
front_next {dense = dense} f e = record { below = omega (arith, f.below, next_above dense e); zeros = f.zeros }

pub front_start : {p from col : ℕ} {cols vals ptrs pivots dense : List ℕ} → Walks p cols vals ptrs pivots from dense → col ≡ next_from dense from → Front from dense col
front_start {dense = dense} asks e = record { below = next_above dense e; zeros = asks.before }

-- a pivot row changes nothing up to its head
pub front_pivot : {p from col at r : ℕ} {cols vals ptrs dense next : List ℕ} → Front from dense col → Clears p col cols vals ptrs r dense → next ≡ minus_row p col cols vals ptrs r dense → at ≡ next_from next (col + 1) → Front from next at
unfolding minus_row plus_multiple
front_pivot {p} {from} {col} {at} {r} {cols} {vals} {ptrs} {dense} {next} f k e q = record { below = omega (arith, f.below, next_above next q); zeros = zeros }
  where
    zeros : (j : ℕ) → j < from → get_or next j 0 ≡ 0
    zeros j l =
        let low : j < length dense = omega (arith, f.below, k.within) in
        ap (λ (d : List ℕ). get_or d j 0) e
        ∙ get_or-table (length dense) (λ i. (get_or dense i 0 + (p - get_or dense col 0) * value_in (beyond ptrs cols r) (beyond ptrs vals r) i) % p) j 0 low
        ∙ ap (λ (x : ℕ). (get_or dense j 0 + (p - get_or dense col 0) * x) % p) ((pivot_beyond k.pivot).none j (omega (arith, f.below)))
        ∙ ap (λ (x : ℕ). (get_or dense j 0 + x) % p) (mul-zero (p - get_or dense col 0))
        ∙ ap (λ (x : ℕ). (x + 0) % p) (f.zeros j l)
        ∙ zero-mod p

module _ (on : Bool) (p n : ℕ) (u : Upper) (w : Way) where
  -- at the loop's head
  pub record Up (dense : List ℕ) (head col : ℕ) : Type 0 where
    pub up : col ≤ n
    pub left : Left p n col u (climb on p u col w) dense head
    pub stands : col < n → get_or dense col 0 ≡ 0 → ⊥
    pub going : (on ≡ true) ⊎ (head ≡ n)
    pub heads : (head ≡ n) ⊎ (head < col)

  pub up_bound : {dense : List ℕ} {head col : ℕ} → Up dense head col → head ≤ n
  up_bound {dense} {head} {col} h = ⊎_elim (λ (e : head ≡ n). omega arith) (λ (l : head < col). omega (arith, h.up)) h.heads

  -- it hasn't stopped
  pub not_stopped : {dense : List ℕ} {head c : ℕ} → (on ≡ true) ⊎ (head ≡ n) → Left p n c u (climb on p u c w) dense head → stopped on (climb on p u c w) ≡ false
  not_stopped {dense} {head} {c} going left =
      ⊎_elim (λ (e : on ≡ true). rw e (goes_on (climb true p u c w))) (λ (e : head ≡ n). still on p n c u (climb on p u c w) dense head left (omega arith)) going

  -- from column c to the next that holds something
  pub up_next : {dense : List ℕ} {head c at : ℕ} → c ≤ n → Left p n c u (climb on p u c w) dense head → (on ≡ true) ⊎ (head ≡ n) → (head ≡ n) ⊎ (head < c) → at ≡ next_from dense c → Up dense head at
  up_next {dense} {head} {c} {at} h left going heads e = record {
    up = omega (arith, x.within, left.long);
    left = left_skip on p n u w dense head c at x.from (omega (arith, x.within, left.long)) x.zeros left;
    stands = λ l. x.stands (omega (arith, left.long));
    going = going;
    heads = ⊎_elim inl (λ (b : head < c). inr (omega (arith, x.from))) heads;
  }
    where
      x : Next dense c at
      x = next_found (omega (arith, left.long)) e

  module _ {dense : List ℕ} {head col : ℕ} (h : Up dense head col) (low : col < n) where
    -- the first walk stops at an entry with no pivot
    pub up_stop : on ≡ false → pivot_at u.pivots col ≡ mark → Left p n (limit_of on n col) u (climb on p u n w) dense col
    unfolding limit_of climb
    up_stop off free = rw off (record {
      long = next.long;
      small = next.small;
      rest = λ j l. ap (λ (z : Way). z.rest j) stays ∙ next.rest j l ∙ back j (ℕ_discrete j col);
      l = ap (λ (z : Way). z.l) stays ∙ next.l ∙ multiples_free u col dense free;
      answer = ap (λ (z : Way). z.answer) stays ∙ next.answer;
    })
      where
        none : head ≡ n
        none = ⊎_elim (λ (e : on ≡ true). absurd (true≢false (sym e ∙ off))) (λ (e : head ≡ n). e) h.going

        next : Left p n (suc col) u (climb false p u (suc col) w) dense col
        next = rw off at (left_head on p n u col (climb on p u col w) dense head h.left low (not_stopped h.going h.left) (h.stands low) free none)

        stays : climb false p u n w ≡ climb false p u (suc col) w
        stays = climb_stays false p n u w (suc col) n low (stops p n (suc col) u (climb false p u (suc col) w) dense col next low)

        back : (j : ℕ) → Dec (j ≡ col) → rest_of u.pivots (suc col) dense j ≡ rest_of u.pivots col dense j
        back j (yes e) = let m : pivot_at u.pivots j ≡ mark = rw e free in rest_free u (suc col) dense j m ∙ sym (rest_free u col dense j m)
        back j (no ne) = rest_other u col dense j ne

    -- the second notes the first such column, and goes on
    pub up_free : on ≡ true → pivot_at u.pivots col ≡ mark → {at h' : ℕ} → h' ≡ min head col → at ≡ next_from dense (col + 1) → Up dense h' at
    unfolding climb
    up_free goes free {at} {h'} e q =
        ⊎_elim
        (λ (none : head ≡ n). let f : h' ≡ col = omega arith in rw f (further {k = col} (left_head on p n u col (climb on p u col w) dense head h.left low still_going (h.stands low) free none) (omega arith)))
        (λ (some : head < col). let f : h' ≡ head = omega arith in rw f (further {k = head} (left_later on p n u col (climb on p u col w) dense head h.left low still_going (h.stands low) free (omega arith)) (omega arith)))
        h.heads
      where
        still_going : stopped on (climb on p u col w) ≡ false
        still_going = not_stopped h.going h.left

        further : {k : ℕ} → Left p n (suc col) u (climb on p u (suc col) w) dense k → k < suc col → Up dense k at
        further {k} left b = up_next low left (inl goes) (inr b) (q ∙ ap (next_from dense) (add-one col))

  -- at the end
  pub up_end : {dense : List ℕ} {head col : ℕ} → Up dense head col → n ≤ col → Left p n (limit_of on n head) u (climb on p u n w) dense head
  unfolding limit_of
  up_end {dense} {head} {col} h past = go on refl h.going
    where
      whole : Left p n n u (climb on p u n w) dense head
      whole = let e : col ≡ n = omega (arith, h.up) in subst (λ (i : ℕ). Left p n i u (climb on p u i w) dense head) e h.left

      go : (b : Bool) → on ≡ b → (on ≡ true) ⊎ (head ≡ n) → Left p n (limit_of b n head) u (climb on p u n w) dense head
      go true e g = whole
      go false e g =
          let none : head ≡ n = ⊎_elim (λ (q : on ≡ true). absurd (true≢false (sym q ∙ e))) (λ (q : head ≡ n). q) g in
          subst (λ (i : ℕ). Left p n i u (climb on p u n w) dense head) (sym none) whole

-- the row that is walked, over U
module _ (on : Bool) (p : ℕ) (cols vals ptrs pivots : List ℕ) (from : ℕ) (dense₀ : List ℕ) (asks : Walks p cols vals ptrs pivots from dense₀) where
  abbrev n : ℕ
  n = length dense₀

  abbrev u : Upper
  u = upper cols vals ptrs pivots

  abbrev w : Way
  w = way (λ j. get_or dense₀ j 0) [] None

  pub up_start : {col : ℕ} → col ≡ next_from dense₀ from → Up on p n u w dense₀ n col
  unfolding climb
  up_start e =
      up_next on p n u w asks.within
      (left_skip on p n u w dense₀ n 0 from (omega arith) asks.within (λ j a b. asks.before j b) (left_start p n u (λ j. get_or dense₀ j 0) dense₀ refl asks.small (λ j l. refl)))
      (inr refl)
      (inl refl)
      e

  module _ {dense : List ℕ} {head col : ℕ} (h : Up on p n u w dense head col) (low : col < n) (pivot : get_or pivots col 0 ≡ mark → ⊥) where
    pub up_clears : Clears p col cols vals ptrs (get_or pivots col 0) dense
    up_clears = record {
      within = omega (arith, h.left.long);
      small = λ j l. h.left.small j (omega (arith, h.left.long));
      pivot = subst (λ (k : ℕ). PivotRow k col cols vals ptrs (get_or pivots col 0)) (sym h.left.long) (asks.pivots.rows col low pivot);
    }

    -- an entry over a pivot
    pub up_pivot : {at : ℕ} {next : List ℕ} → next ≡ minus_row p col cols vals ptrs (get_or pivots col 0) dense → at ≡ next_from next (col + 1) → Up on p n u w next head at
    unfolding climb upper pivot_at minus_row plus_multiple
    up_pivot {at} {next} e q =
        up_next on p n u w low
        (rw changed (left_pivot on p n u col (climb on p u col w) dense head h.left low (not_stopped on p n u w h.going h.left) (h.stands low) pivot (value_in (beyond ptrs cols (get_or pivots col 0)) (beyond ptrs vals (get_or pivots col 0))) (pivot_beyond (asks.pivots.rows col low pivot))))
        h.going
        (⊎_elim inl (λ (b : head < col). inr (omega arith)) h.heads)
        (q ∙ ap (next_from next) (add-one col))
      where
        changed : next ≡ table n (λ j. (get_or dense j 0 + (p - get_or dense col 0) * value_in (beyond ptrs cols (get_or pivots col 0)) (beyond ptrs vals (get_or pivots col 0)) j) % p)
        changed = e ∙ ap (λ (k : ℕ). table k (λ j. (get_or dense j 0 + (p - get_or dense col 0) * value_in (beyond ptrs cols (get_or pivots col 0)) (beyond ptrs vals (get_or pivots col 0)) j) % p)) h.left.long
