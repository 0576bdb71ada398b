-- A walk as code goes: over columns that hold nothing, to its stop, to its end.
-- Assumes nothing.
use Rattle.std.specs.Prelude.{None}
use mathlib.Core.Path.{◌≡◌, refl, sym, ap, subst, ◌∙◌}
use mathlib.Core.Bool.{Bool, true, false, not, ◌&&◌}
use mathlib.Core.List.{List, []}
use Prim.Native.Nat.{ℕ, zero, suc, ◌≤◌, ◌<◌}
use native.Mathlib.Decide.{dec_lt, le_ind}
use native.Mathlib.Omega.{arith}
use borrow.Author.Tests.{lt-ltb, le-ltb}
use lib.ListN.{length, get_or}
use Rattle.lists.specs.Gather.{gather}
use Rattle.walk.specs.Left.{multiples, answer_of, Left}
use Rattle.walk.specs.Step.{Upper, is_none, Way, way, stopped, at, climb}
use Rattle.walk.proofs.Ways.{at_stopped, left_zero, rest_above}

module _ (on : Bool) (p n : ℕ) (u : Upper) (w : Way) where
  -- once stopped, it stays
  pub climb_stays : (c m : ℕ) → c ≤ m → stopped on (climb on p u c w) ≡ true → climb on p u m w ≡ climb on p u c w
  unfolding climb
  climb_stays c m h e =
      le_ind (λ (k : ℕ). climb on p u k w ≡ climb on p u c w) refl (λ k l q. at_stopped on p u k (climb on p u k w) (ap (stopped on) q ∙ e) ∙ q) m h

  module _ (dense : List ℕ) (head : ℕ) where
    -- over columns that hold nothing
    pub left_skip : (c m : ℕ) → c ≤ m → m ≤ n → ((j : ℕ) → c ≤ j → j < m → get_or dense j 0 ≡ 0) → Left p n c u (climb on p u c w) dense head → Left p n m u (climb on p u m w) dense head
    unfolding climb
    left_skip c zero h k zeros left = let e : c ≡ 0 = omega arith in subst (λ (i : ℕ). Left p n i u (climb on p u i w) dense head) e left
    left_skip c (suc m) h k zeros left = go (dec_lt m c) (λ l. left_skip c m l (omega arith) (λ j a b. zeros j a (omega arith)) left)
      where
        go : Dec (m < c) → (c ≤ m → Left p n m u (climb on p u m w) dense head) → Left p n (suc m) u (at on p u m (climb on p u m w)) dense head
        go (yes l) ih = let e : c ≡ suc m = omega arith in subst (λ (i : ℕ). Left p n i u (climb on p u i w) dense head) e left
        go (no l) ih = left_zero on p n u m (climb on p u m w) dense head (ih (omega arith)) (omega arith) (zeros m (omega arith) (omega arith))

-- the way's start leaves the row itself
pub left_start : (p n : ℕ) (u : Upper) (x : ℕ → ℕ) (dense : List ℕ) → length dense ≡ n → ((j : ℕ) → j < n → get_or dense j 0 < p) → ((j : ℕ) → j < n → x j ≡ get_or dense j 0) → Left p n 0 u (way x [] None) dense n
unfolding multiples gather answer_of
left_start p n u x dense long small same = record {
  long = long;
  small = small;
  rest = λ j l. same j l ∙ sym (rest_above u 0 dense j (omega arith));
  l = refl;
  answer = rw (le-ltb n n (omega arith));
}

-- whether it has stopped, by the head
pub still : (on : Bool) (p n c : ℕ) (u : Upper) (w : Way) (dense : List ℕ) (head : ℕ) → Left p n c u w dense head → n ≤ head → stopped on w ≡ false
unfolding stopped is_none answer_of
still on p n c u w dense head left h = rw (left.answer, le-ltb head n h) (go on)
  where
    go : (b : Bool) → (not b && false) ≡ false
    go true = refl
    go false = refl

pub goes_on : (w : Way) → stopped true w ≡ false
unfolding stopped
goes_on w = refl

pub stops : (p n c : ℕ) (u : Upper) (w : Way) (dense : List ℕ) (head : ℕ) → Left p n c u w dense head → head < n → stopped false w ≡ true
unfolding stopped is_none answer_of
stops p n c u w dense head left h = rw (left.answer, lt-ltb head n h)
