-- L's rows: distinct rows of U in the order of their pivot columns, so at most as many as U has.
-- Assumes nothing.
use Rattle.std.specs.Prelude.{None}
use mathlib.Core.Path.{◌≡◌, sym, ap, subst}
use mathlib.Core.Bool.{Bool}
use mathlib.Core.List.{List, [], ◌∷◌, map, map-append}
use Prim.Native.Nat.{ℕ, zero, suc, ◌≤◌, ◌<◌}
use native.Mathlib.Nat.{pos_of_ne-zero}
use native.Mathlib.Decide.{dec_lt}
use native.Mathlib.Omega.{arith}
use lib.ListN.{length, get_or, length-map}
use Rattle.lists.proofs.Pigeons.{Distinct, distinct_most}
use Rattle.meaning.proofs.Climbing.{climbs_none, climbs_wider, climbs_more}
use Rattle.meaning.proofs.Values.{Climbs}
use Rattle.sparse.specs.Rows.{Entry, entry}
use Rattle.walk.specs.Step.{Upper, pivot_at, Way, way, subtract, accept, climb}
use Rattle.steps.specs.Rows.{entry_at, LRow}
use Rattle.steps.specs.Setting.{Echelon}
use Rattle.steps.proofs.Cases.{Cases, at_cases}
use Rattle.steps.proofs.Entries.{each_none, each_more, map_at}
use Rattle.steps.proofs.Sums.{walk_sums}

module _ {p n k : ℕ} {h : ℕ → ℕ} {l : List Entry} (row : LRow p n k h l) where
  -- an earlier entry has a lower pivot column
  pub l_rises : (i e : ℕ) → i < e → e < length l → h (entry_at l i).col < h (entry_at l e).col
  l_rises i e b c = rw (sym (at i (omega arith)), sym (at e c)) (row.climbs.rises i e b (rw (length-map l (λ (d : Entry). h d.col)) c))
    where
      at : (i : ℕ) → i < length l → get_or (map (λ (d : Entry). h d.col) l) i 0 ≡ h (entry_at l i).col
      at = map_at (λ (d : Entry). h d.col) l

  -- its rows are distinct
  pub l_distinct : Distinct (length l) (λ i. (entry_at l i).col)
  l_distinct = record { same = λ i e a b q. go i e a b q (dec_lt i e) (dec_lt e i) }
    where
      go : (i e : ℕ) → i < length l → e < length l → (entry_at l i).col ≡ (entry_at l e).col → Dec (i < e) → Dec (e < i) → i ≡ e
      go i e a b q (yes s) d = absurd (omega (arith, l_rises i e s b, ap h q))
      go i e a b q (no s) (yes d) = absurd (omega (arith, l_rises e i d a, ap h q))
      go i e a b q (no s) (no d) = omega arith

  -- there are at most k of them
  pub l_few : length l ≤ k
  l_few = distinct_most (length l) k (λ i. (entry_at l i).col) l_distinct row.rows.at

module _ (on : Bool) (p n k : ℕ) (u : Upper) (h : ℕ → ℕ) (echelon : Echelon p n k u h) (x : ℕ → ℕ) (small : (j : ℕ) → j < n → x j < p) where
  ordered_next : (c : ℕ) → c < n → (w : Way) → ((j : ℕ) → j < n → w.rest j < p) → LRow p c k h w.l → Cases on p u c w (λ v. LRow p (suc c) k h v.l)
  unfolding subtract accept
  ordered_next c low w less row = record {
    stays = λ e. wider;
    nothing = λ e z. wider;
    pivot = λ e z m. record {
      rows = each_more row.rows (echelon.table.row c low m);
      climbs = subst (Climbs (suc c)) (sym (map-append (λ (d : Entry). h d.col) w.l (entry (pivot_at u.pivots c) (w.rest c) ∷ []))) (climbs_more row.climbs (omega (arith, echelon.table.head c low m)) (omega (arith, echelon.table.head c low m)));
      values = each_more row.values (record { pos = pos_of_ne-zero z; below = less c low });
    };
    free = λ e z m. wider;
  }
    where
      wider : LRow p (suc c) k h w.l
      wider = record { rows = row.rows; climbs = climbs_wider (omega arith) row.climbs; values = row.values }

  -- at every column
  walk_ordered : (c : ℕ) → c ≤ n → LRow p c k h (climb on p u c (way x [] None)).l
  unfolding climb
  walk_ordered zero b = record { rows = each_none; climbs = climbs_none 0; values = each_none }
  walk_ordered (suc c) b =
      at_cases on p u c (climb on p u c (way x [] None)) (λ v. LRow p (suc c) k h v.l)
      (ordered_next c b (climb on p u c (way x [] None)) (walk_sums on p n u x small c (omega arith)).small (walk_ordered c (omega arith)))

  -- at the end
  pub walk_l : LRow p n k h (climb on p u n (way x [] None)).l
  walk_l = walk_ordered n (omega arith)
