-- A row is answered None exactly if it is a combination of U's rows.
-- Assumes nothing.
use Rattle.std.specs.Prelude.{None, Some}
use mathlib.Core.Path.{◌≡◌, refl, sym, ap, ◌∙◌}
use mathlib.Core.Logic.{◌↔◌}
use mathlib.Core.Bool.{Bool}
use mathlib.Core.List.{[]}
use Prim.Native.Nat.{ℕ, ◌+◌, ◌%◌, ◌≤◌, ◌<◌}
use native.Mathlib.Nat.{mod-eq_of_lt, mod-mod, zero-mod, add-zero, add_comm}
use native.Mathlib.Omega.{arith}
use Rattle.lists.proofs.Pigeons.{distinct_most}
use Rattle.linear.specs.Combination.{Combination}
use Rattle.linear.proofs.Heads.{span_before}
use Rattle.linear.proofs.Span.{Span, combination_span, span_combination, span_same, span_rest}
use Rattle.sparse.specs.Pivots.{mark}
use Rattle.walk.specs.Step.{Upper, pivot_at, Way, way, climb, Answer}
use Rattle.steps.specs.Rows.{times}
use Rattle.steps.specs.Setting.{Echelon, Begins}
use Rattle.steps.proofs.Ends.{none_left_over, accepted_begins}
use Rattle.steps.proofs.Entries.{times_span}
use Rattle.steps.proofs.Orders.{walk_l}
use Rattle.steps.proofs.Sums.{Summed, walk_sums}

-- U has at most n rows
pub rows_few : {p n k : ℕ} {u : Upper} {h : ℕ → ℕ} → Echelon p n k u h → k ≤ n
rows_few {p} {n} {k} {u} {h} echelon = distinct_most k n h (record { same = echelon.heads.apart }) echelon.heads.within

-- no row has its head at a column that has the mark
pub no_head : {p n k : ℕ} {u : Upper} {h : ℕ → ℕ} → Echelon p n k u h → (g : ℕ) → pivot_at u.pivots g ≡ mark → (i : ℕ) → i < k → h i ≡ g → ⊥
unfolding mark
no_head {p} {n} {k} {u} {h} echelon g free i l e =
    let there : i ≡ 4294967295 = sym (echelon.table.holds i l) ∙ ap (pivot_at u.pivots) e ∙ free in
    omega (arith, rows_few echelon, echelon.table.wide)

-- what is left is a sum of multiples of rows r, where the row and L's row times U are
pub rest_span : {p n m : ℕ} {r : ℕ → ℕ → ℕ} {u : Upper} {x : ℕ → ℕ} {w : Way} → 0 < p → Summed p n u x w → Span p n m r (times w.l u.value) → Span p n m r x → Span p n m r w.rest
rest_span {p} {u = u} {x = x} {w = w} pos s t z =
    span_rest pos t (span_same (λ j l. ap (λ (y : ℕ). y % p) (add_comm (w.rest j) (times w.l u.value j)) ∙ sym (mod-mod (times w.l u.value j + w.rest j) p) ∙ ap (λ (y : ℕ). y % p) (s.total j l)) z)

module _ (on : Bool) (p n k : ℕ) (u : Upper) (h : ℕ → ℕ) (echelon : Echelon p n k u h) (pos : 0 < p) (x : ℕ → ℕ) (small : (j : ℕ) → j < n → x j < p) where
  abbrev w : Way
  w = climb on p u n (way x [] None)

  sums : Summed p n u x w
  sums = walk_sums on p n u x small n (omega arith)

  -- None: the row is L's row times U
  pub none_times : w.answer ≡ None → (j : ℕ) → j < n → times w.l u.value j % p ≡ x j
  none_times e j l = ap (λ (z : ℕ). z % p) (sym (add-zero (times w.l u.value j)) ∙ ap (λ (z : ℕ). times w.l u.value j + z) (sym (none_left_over on p n k u h echelon x small e j l))) ∙ sums.total j l

  none_combination : w.answer ≡ None → Combination p n k u.value x
  none_combination e =
      span_combination pos small
      (span_same (λ j l. ap (λ (z : ℕ). z % p) (sym (none_times e j l)) ∙ mod-mod (times w.l u.value j) p) (times_span w.l u.value (walk_l on p n k u h echelon x small).rows))

  combination_none : Combination p n k u.value x → w.answer ≡ None
  combination_none c = go w.answer refl
    where
      rest : Span p n k u.value w.rest
      rest = rest_span pos sums (times_span w.l u.value (walk_l on p n k u h echelon x small).rows) (combination_span c)

      go : (a : Answer) → w.answer ≡ a → w.answer ≡ None
      go None e = e
      go (Some g) e =
          let b : Begins n u.pivots w.rest g = accepted_begins on p n k u h echelon x small g e in
          let zero_there : w.rest g % p ≡ 0 % p = span_before p n k u.value h echelon.heads rest g b.within (no_head echelon g b.free) (λ j l. ap (λ (z : ℕ). z % p) (b.before j l)) in
          absurd (b.stands (sym (mod-eq_of_lt (sums.small g b.within)) ∙ zero_there ∙ zero-mod p))

  -- None exactly if a combination
  pub none_exactly : (w.answer ≡ None) ↔ Combination p n k u.value x
  none_exactly = (none_combination, combination_none)
