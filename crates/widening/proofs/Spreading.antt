-- The pivot table spread in place from its right end, with `from` old columns and the first `left` positions left.
-- Assumes nothing.
use mathlib.Core.Path.{◌≡◌, sym, ap, subst, ◌∙◌}
use mathlib.Core.List.{List}
use Prim.Native.Nat.{ℕ, ◌+◌, ◌-◌, ◌≤◌, ◌<◌}
use native.Mathlib.Nat.{not-suc-le-zero}
use native.Mathlib.Decide.{ℕ_discrete}
use native.Mathlib.Omega.{arith}
use lib.ListN.{length, get_or, set}
use Rattle.sparse.specs.Pivots.{mark}
use Rattle.columns.specs.Positions.{moved}
use Rattle.widening.specs.AddCols.{spread}
use Rattle.widening.specs.Asks.{Spreads}
use Rattle.widening.proofs.Downwards.{Downwards, down_none, down_more, down_all}
use Rattle.widening.proofs.Spreads.{moved_by, length-spread, spread_past, spread_old, spread_new}

pub record Spreading (n : ℕ) (ps old now : List ℕ) (from left : ℕ) : Type 0 where
  pub within : from ≤ n
  pub some : left ≤ length ps
  pub low : (i : ℕ) → i < left → get_or ps i 0 ≤ from
  pub high : (i : ℕ) → left ≤ i → i < length ps → from ≤ get_or ps i 0
  pub written : Downwards old (spread n ps old) now (from + left)

module _ {n : ℕ} {ps old : List ℕ} (s : Spreads n ps old) where
  pub spreading_none : Spreading n ps old old n (length ps)
  spreading_none = record {
    within = omega arith;
    some = omega arith;
    low = s.low;
    high = λ i g l. absurd (omega arith);
    written = down_none (spread_past n ps old s.table);
  }

  module _ {now : List ℕ} {from left : ℕ} (h : Spreading n ps old now from left) where
    abbrev to : ℕ
    to = from + left - 1

    to_fits : 0 < left → to < length now
    to_fits l = omega (arith, h.within, h.some, h.written.same, s.table)

    -- the last position left is at `from`: there stands a new column
    pub spreading_mark : 0 < left → from ≤ get_or ps (left - 1) 0 → Spreading n ps old (set now to mark) from (left - 1)
    spreading_mark l new =
        let last : left - 1 < length ps = omega (arith, h.some) in
        let here : get_or ps (left - 1) 0 + (left - 1) ≡ to = omega (arith, h.low (left - 1) (omega arith)) in
        let put : mark ≡ get_or (spread n ps old) to 0 = sym (ap (λ (j : ℕ). get_or (spread n ps old) j 0) (sym here) ∙ spread_new n ps old s.sorted (left - 1) last (s.low (left - 1) last)) in
        let down : Downwards old (spread n ps old) (set now to mark) to = down_more h.written (omega arith) (omega (arith, to_fits l, h.written.same)) put in
        let next : to ≡ from + (left - 1) = omega arith in
        record {
          within = h.within;
          some = omega (arith, h.some);
          low = λ i b. h.low i (omega arith);
          high = λ i g b. up i g b (ℕ_discrete i (left - 1));
          written = subst (Downwards old (spread n ps old) (set now to mark)) next down;
        }
      where
        up : (i : ℕ) → left - 1 ≤ i → i < length ps → Dec (i ≡ left - 1) → from ≤ get_or ps i 0
        up i g b (yes q) = rw q new
        up i g b (no q) = h.high i (omega arith) b

    -- it is before `from`: there stands the last old column left
    pub spreading_move : 0 < left → get_or ps (left - 1) 0 < from → Spreading n ps old (set now to (get_or now (from - 1) 0)) (from - 1) left
    spreading_move l old_one =
        let front : (i : ℕ) → i < left → get_or ps i 0 ≤ from - 1 = λ i b. omega (arith, s.sorted.order i (left - 1) (omega arith) (omega (arith, h.some))) in
        let here : moved ps (from - 1) ≡ from - 1 + left = moved_by ps (from - 1) left h.some front (λ i g b. omega (arith, h.high i g b)) in
        let next : from - 1 + left ≡ to = omega arith in
        let put : get_or now (from - 1) 0 ≡ get_or (spread n ps old) to 0 =
        h.written.kept (from - 1) (omega arith) ∙ sym (ap (λ (j : ℕ). get_or (spread n ps old) j 0) (sym (here ∙ next)) ∙ spread_old n ps old (from - 1) (omega (arith, h.within))) in
        let down : Downwards old (spread n ps old) (set now to (get_or now (from - 1) 0)) to = down_more h.written (omega arith) (omega (arith, to_fits l, h.written.same)) put in
        record {
          within = omega (arith, h.within);
          some = h.some;
          low = front;
          high = λ i g b. omega (arith, h.high i g b);
          written = subst (Downwards old (spread n ps old) (set now to (get_or now (from - 1) 0))) (sym next) down;
        }

    -- no position is left: the columns before stay where they are
    pub spreading_all : left ≤ 0 → now ≡ spread n ps old
    spreading_all l = down_all h.written (length-spread n ps old s.table) stays
      where
        stays : (j : ℕ) → j < from + left → get_or (spread n ps old) j 0 ≡ get_or old j 0
        stays j b =
            let here : moved ps j ≡ j = moved_by ps j 0 (omega arith) (λ i g. absurd (not-suc-le-zero g)) (λ i g m. omega (arith, h.high i (omega arith) m)) ∙ omega arith in
            ap (λ (k : ℕ). get_or (spread n ps old) k 0) (sym here) ∙ spread_old n ps old j (omega (arith, h.within))
