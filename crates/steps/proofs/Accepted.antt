-- A row that a walk accepts: L's row times the new U is the row, and the new rows span what the old ones and the row do.
-- Assumes nothing.
use Rattle.std.specs.Prelude.{None, Some}
use mathlib.Core.Path.{◌≡◌, refl, sym, ap, subst, ◌∙◌}
use mathlib.Core.Logic.{◌↔◌}
use mathlib.Core.Bool.{Bool}
use mathlib.Core.List.{List, [], ◌∷◌, ◌++◌}
use Prim.Native.Nat.{ℕ, suc, ◌+◌, ◌*◌, ◌%◌, ◌<◌}
use native.Mathlib.Nat.{mod-mod, mod-eq_of_lt, mul_comm, pos_of_ne-zero}
use native.Mathlib.Decide.{dec_lt}
use native.Mathlib.Omega.{arith}
use lib.ListN.{length-append}
use Rattle.field.specs.Inverse.{inverse}
use Rattle.linear.proofs.Heads.{adding}
use Rattle.linear.proofs.Span.{Span, span_same, span_row, span_mul, span_trans}
use Rattle.sparse.specs.Rows.{Entry, entry}
use Rattle.walk.specs.Step.{Upper, Way, way, climb, taken, divided}
use Rattle.steps.specs.Added.{Added}
use Rattle.steps.specs.Rows.{value_of, Each, LRow, times}
use Rattle.steps.specs.Setting.{Inverts, Echelon, Begins, with_last, Grown}
use Rattle.steps.proofs.Ends.{accepted_begins}
use Rattle.steps.proofs.Entries.{each_more, times_more, times_same, times_span}
use Rattle.steps.proofs.Lasts.{last_before, last_all, spans_last, spans_before}
use Rattle.steps.proofs.NewRows.{clean_few, new_value, new_starts, new_clean, new_times, grown_echelon}
use Rattle.steps.proofs.Nones.{rest_span}
use Rattle.steps.proofs.Orders.{l_few, walk_l}
use Rattle.steps.proofs.Sums.{Summed, walk_sums}

module _ (on : Bool) (p n k : ℕ) (u : Upper) (h : ℕ → ℕ) (inverts : Inverts p) (echelon : Echelon p n k u h) (x : ℕ → ℕ) (small : (j : ℕ) → j < n → x j < p) where
  abbrev w : Way
  w = climb on p u n (way x [] None)

  sums : Summed p n u x w
  sums = walk_sums on p n u x small n (omega arith)

  order : LRow p n k h w.l
  order = walk_l on p n k u h echelon x small

  below : Each (λ e. e.col < suc k) w.l
  below = record { at = λ i c. omega (arith, order.rows.at i c) }

  module _ (g : ℕ) (answer : w.answer ≡ Some g) where
    begins : Begins n u.pivots w.rest g
    begins = accepted_begins on p n k u h echelon x small g answer

    -- its rows of U and L
    abbrev new : List Entry
    new = divided p n w.rest g

    abbrev l : List Entry
    l = w.l ++ (entry k (w.rest g) ∷ [])

    pub walk_added : Added p n k u h g (taken (Some g) new l)
    walk_added = record {
      within = begins.within;
      free = begins.free;
      clean = new_clean inverts sums.small begins;
      beyond = (new_starts inverts sums.small begins).0;
      head = (new_starts inverts sums.small begins).1;
      l = w.l;
      order = order;
      diagonal = w.rest g;
      value = record { pos = pos_of_ne-zero begins.stands; below = sums.small g begins.within };
      last = refl;
      l_room = omega (arith, l_few order, length-append w.l (entry k (w.rest g) ∷ []));
      u_room = clean_few (new_clean inverts sums.small begins);
    }

    module _ {v : Upper} (grown : Grown n k g u new v) where
      pub walk_echelon : Echelon p n (suc k) v (with_last k g h)
      walk_echelon = grown_echelon inverts echelon sums.small begins grown

      -- L's row times U, the new row included, is the row
      pub walk_times : (j : ℕ) → j < n → times l v.value j % p ≡ x j
      walk_times j b =
          ap (λ (z : ℕ). z % p)
          (times_more w.l (entry k (w.rest g)) v.value j
          ∙ ap (λ (z : ℕ). z + w.rest g * v.value k j) (times_same w.l v.value u.value j (record { at = λ i c. grown.kept _ (order.rows.at i c) j b }))
          ∙ ap (λ (z : ℕ). times w.l u.value j + w.rest g * z) (grown.added j b))
          ∙ adding p (times w.l u.value j) (w.rest g * value_of new j) (w.rest j) (new_times inverts sums.small begins j b ∙ sym (mod-eq_of_lt (sums.small j b)))
          ∙ sums.total j b

      -- the new rows from the old ones and the row
      abbrev old : ℕ → ℕ → ℕ
      old = with_last k x u.value

      old_times : Span p n (suc k) old (times w.l u.value)
      old_times =
          span_same (λ j b. ap (λ (z : ℕ). z % p) (times_same w.l u.value old j (record { at = λ i c. ap (λ (r : ℕ → ℕ). r j) (sym (last_before k x u.value _ (order.rows.at i c))) })))
          (times_span w.l old below)

      old_rest : Span p n (suc k) old w.rest
      old_rest = rest_span (omega (arith, inverts.least)) sums old_times (spans_last x u.value)

      from_old : (i : ℕ) → i < suc k → Span p n (suc k) old (v.value i)
      from_old i b = go (dec_lt i k)
        where
          go : Dec (i < k) → Span p n (suc k) old (v.value i)
          go (yes l) = span_same (λ j c. ap (λ (z : ℕ). z % p) (grown.kept i l j c)) (spans_before x u.value i l)
          go (no l) =
              let e : k ≡ i = omega arith in
              subst (λ (m : ℕ). Span p n (suc k) old (v.value m)) e
              (span_same (λ j c. ap (λ (z : ℕ). z % p) (grown.added j c ∙ new_value inverts sums.small begins j c) ∙ mod-mod (w.rest j * inverse p (w.rest g)) p ∙ ap (λ (z : ℕ). z % p) (mul_comm (w.rest j) (inverse p (w.rest g)))) (span_mul (inverse p (w.rest g)) old_rest))

      -- the old ones and the row from the new rows
      from_new : (i : ℕ) → i < suc k → Span p n (suc k) v.value (with_last k x u.value i)
      from_new =
          last_all k x u.value (λ i r. Span p n (suc k) v.value r)
          (span_same (λ j b. ap (λ (z : ℕ). z % p) (sym (walk_times j b)) ∙ mod-mod (times l v.value j) p) (times_span l v.value (each_more {l = w.l} {e = entry k (w.rest g)} below (omega arith))))
          (λ i b. span_same (λ j c. ap (λ (z : ℕ). z % p) (sym (grown.kept i b j c))) (span_row i (omega arith)))

      pub walk_spans : {y : ℕ → ℕ} → Span p n (suc k) v.value y ↔ Span p n (suc k) (with_last k x u.value) y
      walk_spans = (span_trans from_old, span_trans from_new)
