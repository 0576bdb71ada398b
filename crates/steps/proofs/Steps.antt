-- What one row's step means, for any U in echelon form, in both walks.
-- Assumes nothing.
use Rattle.std.specs.Prelude.{None, Some}
use mathlib.Core.Path.{◌≡◌, refl, sym, ap, subst, ◌∙◌}
use mathlib.Core.Logic.{◌↔◌}
use mathlib.Core.Bool.{Bool, true}
use mathlib.Core.List.{List, [], ◌∷◌, ◌++◌}
use Prim.Native.Nat.{ℕ, suc, ◌*◌, ◌%◌, ◌<◌}
use native.Mathlib.Nat.{zero-mul, zero-mod}
use native.Mathlib.Omega.{arith}
use Rattle.field.specs.Inverse.{inverse}
use Rattle.field.specs.Prime.{Prime}
use Rattle.field.proofs.Inverses.{inverse_law, prime_invertible}
use Rattle.linear.specs.Combination.{Combination}
use Rattle.linear.proofs.Span.{Span, combination_span, span_row, span_trans}
use Rattle.sparse.specs.Pivots.{mark}
use Rattle.sparse.specs.Rows.{Entry, entry}
use Rattle.walk.specs.Step.{Upper, pivot_at, Way, way, climb, Taken, taken, divided, ended, start, walked, step, Answer}
use Rattle.steps.specs.Added.{Added, NotAdded}
use Rattle.steps.specs.Rows.{value_of, CleanRow, times}
use Rattle.steps.specs.Setting.{Inverts, Echelon, with_last, Grown}
use Rattle.steps.proofs.Accepted.{walk_added, walk_echelon, walk_times, walk_spans}
use Rattle.steps.proofs.Copies.{step_walked}
use Rattle.steps.proofs.Ends.{accepted_begins, second_clears}
use Rattle.steps.proofs.Lasts.{last_all, spans_before}
use Rattle.steps.proofs.NewRows.{new_value}
use Rattle.steps.proofs.Nones.{none_exactly, none_times}
use Rattle.steps.proofs.Orders.{walk_l, l_few}
use Rattle.steps.proofs.Sums.{walk_sums}
use Rattle.steps.proofs.Zeros.{row_small}

-- every prime is such a modulus
pub prime_inverts : {p : ℕ} → Prime p → Inverts p
prime_inverts prime = record { least = prime.least; law = λ a pos below. inverse_law (prime_invertible prime pos below) }

ended_answer : (p n rank : ℕ) (a : Answer) (w : Way) → (ended p n rank a w).answer ≡ a
unfolding ended
ended_answer p n rank (Some g) w = refl
ended_answer p n rank None w = refl

module _ (on : Bool) (p n k : ℕ) (u : Upper) (h : ℕ → ℕ) (inverts : Inverts p) (echelon : Echelon p n k u h) (es : List Entry) (row : CleanRow p n es) where
  abbrev w : Way
  w = climb on p u n (way (value_of es) [] None)

  small : (j : ℕ) → j < n → value_of es j < p
  small j l = row_small (omega (arith, inverts.least)) row j

  walks : step on p n k u es ≡ ended p n k w.answer w
  unfolding walked start
  walks = step_walked on p n k u inverts es row

  answers : (step on p n k u es).answer ≡ w.answer
  answers = ap (λ (t : Taken). t.answer) walks ∙ ended_answer p n k w.answer w

  -- None exactly if the row is a combination of U's rows
  pub step_none : ((step on p n k u es).answer ≡ None) ↔ Combination p n k u.value (value_of es)
  step_none = let exact = none_exactly on p n k u h echelon (omega (arith, inverts.least)) (value_of es) small in
      ((λ e. exact.0 (sym answers ∙ e)), (λ c. answers ∙ exact.1 c))

  -- then U gets no row, and L's row times U is the row
  module _ (e : (step on p n k u es).answer ≡ None) where
    nothing : step on p n k u es ≡ taken None [] w.l
    unfolding ended
    nothing = walks ∙ ap (λ (a : Answer). ended p n k a w) (sym answers ∙ e)

    pub step_not_added : NotAdded p n k h (step on p n k u es)
    step_not_added = rw nothing (record { none = refl; order = walk_l on p n k u h echelon (value_of es) small; l_room = l_few (walk_l on p n k u h echelon (value_of es) small) })

    pub step_none_times : (j : ℕ) → j < n → times (step on p n k u es).l u.value j % p ≡ value_of es j
    step_none_times j l = ap (λ (t : Taken). times t.l u.value j % p) nothing ∙ none_times on p n k u h echelon (omega (arith, inverts.least)) (value_of es) small (sym answers ∙ e) j l

    -- and U's rows span what they do with the row
    pub step_none_spans : {y : ℕ → ℕ} → Span p n k u.value y ↔ Span p n (suc k) (with_last k (value_of es) u.value) y
    step_none_spans = (
      span_trans (spans_before (value_of es) u.value),
      span_trans (last_all k (value_of es) u.value (λ i r. Span p n k u.value r) (combination_span (step_none.0 e)) (λ i l. span_row i l)),
    )

  -- accepted at column g
  module _ {g : ℕ} (e : (step on p n k u es).answer ≡ Some g) where
    found : w.answer ≡ Some g
    found = sym answers ∙ e

    adds : step on p n k u es ≡ taken (Some g) (divided p n w.rest g) (w.l ++ (entry k (w.rest g) ∷ []))
    unfolding ended
    adds = walks ∙ ap (λ (a : Answer). ended p n k a w) found

    -- what U and L get
    pub step_added : Added p n k u h g (step on p n k u es)
    step_added = subst (Added p n k u h g) (sym adds) (walk_added on p n k u h inverts echelon (value_of es) small g found)

    module _ {v : Upper} (grown : Grown n k g u (step on p n k u es).u v) where
      new : Grown n k g u (divided p n w.rest g) v
      new = subst (λ (t : Taken). Grown n k g u t.u v) adds grown

      -- U is in echelon form again
      pub step_echelon : Echelon p n (suc k) v (with_last k g h)
      step_echelon = walk_echelon on p n k u h inverts echelon (value_of es) small g found new

      -- L's row times U, the new row included, is the row
      pub step_times : (j : ℕ) → j < n → times (step on p n k u es).l v.value j % p ≡ value_of es j
      step_times j l = ap (λ (t : Taken). times t.l v.value j % p) adds ∙ walk_times on p n k u h inverts echelon (value_of es) small g found new j l

      -- U's rows span what they did before with the row
      pub step_spans : {y : ℕ → ℕ} → Span p n (suc k) v.value y ↔ Span p n (suc k) (with_last k (value_of es) u.value) y
      step_spans = walk_spans on p n k u h inverts echelon (value_of es) small g found new

-- the second walk's new row is 0 over every pivot
pub second_clear : (p n k : ℕ) (u : Upper) (h : ℕ → ℕ) → Inverts p → Echelon p n k u h → (es : List Entry) → CleanRow p n es → {g : ℕ} → (step true p n k u es).answer ≡ Some g → (j : ℕ) → j < n → (pivot_at u.pivots j ≡ mark → ⊥) → value_of (step true p n k u es).u j ≡ 0
second_clear p n k u h inverts echelon es row {g} e j l m =
    ap (λ (t : Taken). value_of t.u j) (adds true p n k u h inverts echelon es row e)
    ∙ new_value inverts (walk_sums true p n u (value_of es) less n (omega arith)).small (accepted_begins true p n k u h echelon (value_of es) less g (found true p n k u h inverts echelon es row e)) j l
    ∙ ap (λ (z : ℕ). z * inverse p ((climb true p u n (way (value_of es) [] None)).rest g) % p) (second_clears p n k u h echelon (value_of es) less j l m)
    ∙ ap (λ (z : ℕ). z % p) (zero-mul (inverse p ((climb true p u n (way (value_of es) [] None)).rest g)))
    ∙ zero-mod p
  where
    less : (j : ℕ) → j < n → value_of es j < p
    less = small true p n k u h inverts echelon es row
