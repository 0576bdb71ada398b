-- A number read digit by digit: what the loop knows at its head, and what each turn comes to.
use mathlib.Core.Path.{◌≡◌, refl, sym, ◌∙◌}
use mathlib.Core.Bool.{Bool, true, false, ◌&&◌}
use mathlib.Core.List.{List, ◌∷◌}
use Prim.Native.Nat.{ℕ, ◌+◌, ◌-◌, ◌*◌, ◌^◌, ◌≤◌, ◌<◌}
use native.Mathlib.Nat.{pow-suc}
use native.Mathlib.Numerals.{add-one}
use native.Mathlib.Omega.{arith}
use lib.Dec.{leb, ltb, eqb}
use lib.ListN.{length, drop, get_or}
use borrow.Author.Tests.{eq-eqb, ne_eqb, le-leb, lt-leb, lt-ltb, le-ltb}
use Rattle.market.specs.Parse.{nothing, got, decimal_on, decimal_to}
use Rattle.market.proofs.Places.{byte_at, none_left}

-- so many digits, which say `value`, stand from `at` up to `i`
pub record Digiting (text : List ℕ) (stop at value i : ℕ) : Type 0 where
  pub many : ℕ
  pub place : i ≡ at + many
  pub few : many ≤ 10
  pub small : value < 10 ^ many
  pub rest : decimal_on stop many value (drop i text) ≡ decimal_to stop (drop at text)

pub digits_none : (text : List ℕ) (stop at : ℕ) → Digiting text stop at 0 at
unfolding decimal_to
digits_none text stop at = record { many = 0; place = omega arith; few = omega arith; small = omega arith; rest = refl }

-- one byte of a number: whether it ends it, whether a digit stands before it, and whether it is one digit more
pub decimal_turn : (stop k n b : ℕ) (bs : List ℕ) {x y z : Bool} → eqb b stop ≡ x → eqb k 0 ≡ y → leb 48 b && leb b 57 && ltb k 10 ≡ z
    → decimal_on stop k n (b ∷ bs) ≡ elim x [ true ↦ elim y [ true ↦ nothing | false ↦ got n bs ] | false ↦ elim z [ true ↦ decimal_on stop (k + 1) (n * 10 + (b - 48)) bs | false ↦ nothing ] ]
unfolding decimal_on
decimal_turn stop k n b bs e f g = λ i. elim (e i) [ true ↦ elim (f i) [ true ↦ nothing | false ↦ got n bs ] | false ↦ elim (g i) [ true ↦ decimal_on stop (k + 1) (n * 10 + (b - 48)) bs | false ↦ nothing ] ]

module _ {text : List ℕ} {stop at value i : ℕ} (h : Digiting text stop at value i) where
  -- the text ends before the number does
  pub digits_end : length text ≤ i → nothing ≡ decimal_to stop (drop at text)
  unfolding decimal_on
  digits_end l = rw (none_left text i l) at h.rest

  module _ (l : i < length text) where
    here : decimal_on stop h.many value (get_or text i 0 ∷ drop (i + 1) text) ≡ decimal_to stop (drop at text)
    here = rw (byte_at text i l) at h.rest

    -- it ends before it starts,
    pub digits_empty : get_or text i 0 ≡ stop → i ≡ at → nothing ≡ decimal_to stop (drop at text)
    digits_empty e s = sym (decimal_turn _ _ _ _ _ (eq-eqb _ _ e) (eq-eqb h.many 0 (omega (arith, h.place))) refl) ∙ here

    -- or after some digits,
    pub digits_stop : get_or text i 0 ≡ stop → (i ≡ at → ⊥) → got value (drop (i + 1) text) ≡ decimal_to stop (drop at text)
    digits_stop e s = sym (decimal_turn _ _ _ _ _ (eq-eqb _ _ e) (ne_eqb h.many 0 (λ z. s (omega (arith, h.place)))) refl) ∙ here

    -- or it has a byte that is no digit, or an eleventh digit,
    digits_wrong : (get_or text i 0 ≡ stop → ⊥) → leb 48 (get_or text i 0) && leb (get_or text i 0) 57 && ltb h.many 10 ≡ false → nothing ≡ decimal_to stop (drop at text)
    digits_wrong e w = sym (decimal_turn _ _ _ _ _ (ne_eqb _ _ e) refl w) ∙ here

    pub digits_low : (get_or text i 0 ≡ stop → ⊥) → get_or text i 0 < 48 → nothing ≡ decimal_to stop (drop at text)
    digits_low e a = digits_wrong e (rw (lt-leb _ _ a))

    pub digits_high : (get_or text i 0 ≡ stop → ⊥) → 48 ≤ get_or text i 0 → 57 < get_or text i 0 → nothing ≡ decimal_to stop (drop at text)
    digits_high e a z = digits_wrong e (rw (le-leb _ _ a, lt-leb _ _ z))

    pub digits_full : (get_or text i 0 ≡ stop → ⊥) → 48 ≤ get_or text i 0 → get_or text i 0 ≤ 57 → 10 ≤ i - at → nothing ≡ decimal_to stop (drop at text)
    digits_full e a z f = let k : 10 ≤ h.many = omega (arith, h.place) in digits_wrong e (rw (le-leb _ _ a, le-leb _ _ z, le-ltb _ _ k))

    -- or one digit more
    pub digits_more : (get_or text i 0 ≡ stop → ⊥) → 48 ≤ get_or text i 0 → get_or text i 0 ≤ 57 → i - at < 10 → Digiting text stop at (value * 10 + (get_or text i 0 - 48)) (i + 1)
    digits_more e a z f =
        let k : h.many < 10 = omega (arith, h.place) in
        let digit : leb 48 (get_or text i 0) && leb (get_or text i 0) 57 && ltb h.many 10 ≡ true = rw (le-leb _ _ a, le-leb _ _ z, lt-ltb _ _ k) in
        record {
          many = h.many + 1;
          place = omega (arith, h.place);
          few = omega arith;
          small = rw (add-one, pow-suc) (omega (arith, h.small));
          rest = sym (decimal_turn _ _ _ _ _ (ne_eqb _ _ e) refl digit) ∙ here;
        }
