-- Where a walk ends: nothing is left, or what is left begins at a column with no pivot.
-- Assumes nothing.
use Rattle.std.specs.Prelude.{None, Some}
use mathlib.Core.Path.{◌≡◌, refl, sym, ap, subst, ◌∙◌}
use mathlib.Core.Logic.{◌⊎◌, inl, inr, ⊎_elim}
use mathlib.Core.Bool.{Bool, true, false, not, ◌&&◌, cond, true≢false}
use mathlib.Core.List.{List, []}
use Prim.Native.Nat.{ℕ, zero, suc, ◌+◌, ◌-◌, ◌*◌, ◌%◌, ◌≤◌, ◌<◌}
use native.Mathlib.Nat.{mod-eq_of_lt, mod_self, add-zero, mul-one, not-suc-le-zero}
use native.Mathlib.Decide.{dec_lt}
use native.Mathlib.Omega.{arith}
use Rattle.lists.proofs.Mods.{mul_mod_mod}
use Rattle.linear.proofs.Heads.{none_right, adding}
use Rattle.sparse.specs.Pivots.{mark}
use Rattle.walk.specs.Step.{Upper, pivot_at, is_none, Way, way, subtract, accept, stopped, climb, Answer}
use Rattle.walk.proofs.Climbing.{goes_on}
use Rattle.steps.specs.Setting.{Echelon, Begins}
use Rattle.steps.proofs.Cases.{Cases, at_cases}
use Rattle.steps.proofs.Sums.{walk_sums}

-- a way past the first c columns
pub record Passed (on : Bool) (c : ℕ) (u : Upper) (w : Way) : Type 0 where
  pub clear : stopped on w ≡ false → (j : ℕ) → j < c → (pivot_at u.pivots j ≡ mark → ⊥) → w.rest j ≡ 0
  pub none : w.answer ≡ None → (j : ℕ) → j < c → w.rest j ≡ 0
  pub some : (g : ℕ) → w.answer ≡ Some g → Begins c u.pivots w.rest g

pub none_goes : (on : Bool) (w : Way) → w.answer ≡ None → stopped on w ≡ false
unfolding stopped is_none
none_goes on w e = rw e (go on)
  where
    go : (b : Bool) → (not b && false) ≡ false
    go true = refl
    go false = refl

-- a column below c, or c itself
or_here : (P : ℕ → Type 0) (c j : ℕ) → j < suc c → (j < c → P j) → P c → P j
or_here P c j b below here = go (dec_lt j c)
  where
    go : Dec (j < c) → P j
    go (yes l) = below l
    go (no l) = let e : c ≡ j = omega arith in subst P e here

begins_wider : {c : ℕ} {pivots : List ℕ} {x : ℕ → ℕ} {g : ℕ} → Begins c pivots x g → Begins (suc c) pivots x g
begins_wider b = record { within = omega (arith, b.within); free = b.free; stands = b.stands; before = b.before }

-- the answer of an accepted row
first_answer : (c g : ℕ) (a : Answer) → cond (is_none a) (Some c) a ≡ Some g → ((a ≡ None) × (g ≡ c)) ⊎ (a ≡ Some g)
unfolding is_none
first_answer c g None e = inl (refl, (cc))
first_answer c g (Some d) e = inr e

never_none : (c : ℕ) (a : Answer) → cond (is_none a) (Some c) a ≡ None → ⊥
unfolding is_none
never_none c None e = let z : ◌≡◌ {A = ℕ} 0 1 = cc in omega arith
never_none c (Some d) e = let z : ◌≡◌ {A = ℕ} 0 1 = cc in omega arith

module _ (on : Bool) (p n k : ℕ) (u : Upper) (h : ℕ → ℕ) (echelon : Echelon p n k u h) where
  -- a pivot's row: 0 before its column, 1 there
  module _ (c : ℕ) (low : c < n) (pivot : pivot_at u.pivots c ≡ mark → ⊥) where
    pivot_before : (j : ℕ) → j < c → u.value (pivot_at u.pivots c) j % p ≡ 0 % p
    pivot_before j b = echelon.heads.before (pivot_at u.pivots c) (echelon.table.row c low pivot) j (omega (arith, echelon.table.head c low pivot))

    pivot_one : u.value (pivot_at u.pivots c) c % p ≡ 1 % p
    pivot_one = ap (λ (j : ℕ). u.value (pivot_at u.pivots c) j % p) (sym (echelon.table.head c low pivot)) ∙ echelon.heads.one (pivot_at u.pivots c) (echelon.table.row c low pivot)

  -- a subtraction changes nothing before its column, and clears that
  module _ (c : ℕ) (low : c < n) (pivot : pivot_at u.pivots c ≡ mark → ⊥) (w : Way) (small : (j : ℕ) → j < n → w.rest j < p) where
    kept : (j : ℕ) → j < c → (subtract p u c w).rest j ≡ w.rest j
    unfolding subtract
    kept j b =
        adding p (w.rest j) ((p - w.rest c) * u.value (pivot_at u.pivots c) j) 0 (none_right p (p - w.rest c) (u.value (pivot_at u.pivots c) j) (pivot_before c low pivot j b))
        ∙ ap (λ (z : ℕ). z % p) (add-zero (w.rest j))
        ∙ mod-eq_of_lt (small j (omega arith))

    cleared : (subtract p u c w).rest c ≡ 0
    unfolding subtract
    cleared =
        let whole : w.rest c + (p - w.rest c) ≡ p = omega (arith, small c low) in
        adding p (w.rest c) ((p - w.rest c) * u.value (pivot_at u.pivots c) c) (p - w.rest c)
        (sym (mul_mod_mod (p - w.rest c) (u.value (pivot_at u.pivots c) c) p)
        ∙ ap (λ (z : ℕ). (p - w.rest c) * z % p) (pivot_one c low pivot)
        ∙ mul_mod_mod (p - w.rest c) 1 p
        ∙ ap (λ (z : ℕ). z % p) (mul-one (p - w.rest c)))
        ∙ ap (λ (z : ℕ). z % p) whole
        ∙ mod_self p

  -- one column
  module _ (c : ℕ) (low : c < n) (w : Way) (small : (j : ℕ) → j < n → w.rest j < p) (passed : Passed on c u w) where
    passed_nothing : stopped on w ≡ false → w.rest c ≡ 0 → Passed on (suc c) u w
    passed_nothing going z = record {
      clear = λ e j b m. or_here (λ (i : ℕ). w.rest i ≡ 0) c j b (λ l. passed.clear e j l m) z;
      none = λ e j b. or_here (λ (i : ℕ). w.rest i ≡ 0) c j b (passed.none e j) z;
      some = λ g e. begins_wider (passed.some g e);
    }

    passed_stays : stopped on w ≡ true → Passed on (suc c) u w
    passed_stays s = record {
      clear = λ e. absurd (true≢false (sym s ∙ e));
      none = λ e. absurd (true≢false (sym s ∙ none_goes on w e));
      some = λ g e. begins_wider (passed.some g e);
    }

    passed_pivot : stopped on w ≡ false → (pivot_at u.pivots c ≡ mark → ⊥) → Passed on (suc c) u (subtract p u c w)
    unfolding subtract
    passed_pivot going m = record {
      clear = λ e j b pivot. go j b (λ l. passed.clear going j l pivot);
      none = λ e j b. go j b (passed.none e j);
      some = λ g e. let b = passed.some g e in record {
        within = omega (arith, b.within);
        free = b.free;
        stands = λ z. b.stands (sym (kept c low m w small g b.within) ∙ z);
        before = λ j l. kept c low m w small j (omega (arith, b.within)) ∙ b.before j l;
      };
    }
      where
        go : (j : ℕ) → j < suc c → (j < c → w.rest j ≡ 0) → (subtract p u c w).rest j ≡ 0
        go j b below = or_here (λ (i : ℕ). (subtract p u c w).rest i ≡ 0) c j b (λ l. kept c low m w small j l ∙ below l) (cleared c low m w small)

    passed_free : stopped on w ≡ false → (w.rest c ≡ 0 → ⊥) → pivot_at u.pivots c ≡ mark → Passed on (suc c) u (accept c w)
    unfolding accept
    passed_free going z m = record {
      clear = λ e j b pivot. passed.clear going j (other j b pivot) pivot;
      none = λ e. absurd (never_none c w.answer e);
      some = λ g e. ⊎_elim (λ q. here g q.0 q.1) (λ q. begins_wider (passed.some g q)) (first_answer c g w.answer e);
    }
      where
        other : (j : ℕ) → j < suc c → (pivot_at u.pivots j ≡ mark → ⊥) → j < c
        other j b pivot = lt_of_le_of_ne (omega arith) (λ e. pivot (ap (pivot_at u.pivots) e ∙ m))
          where
            lt_of_le_of_ne : j ≤ c → (j ≡ c → ⊥) → j < c
            lt_of_le_of_ne l ne = omega arith

        here : (g : ℕ) → w.answer ≡ None → g ≡ c → Begins (suc c) u.pivots w.rest g
        here g e q = rw q (record { within = omega arith; free = m; stands = z; before = passed.none e })

    passed_next : Cases on p u c w (Passed on (suc c) u)
    passed_next = record { stays = passed_stays; nothing = passed_nothing; pivot = λ e z m. passed_pivot e m; free = passed_free }

  module _ (x : ℕ → ℕ) (small : (j : ℕ) → j < n → x j < p) where
    walk_passed : (c : ℕ) → c ≤ n → Passed on c u (climb on p u c (way x [] None))
    unfolding climb
    walk_passed zero l = record {
      clear = λ e j b. absurd (not-suc-le-zero b);
      none = λ e j b. absurd (not-suc-le-zero b);
      some = λ g e. let z : ◌≡◌ {A = ℕ} 0 1 = cc in absurd (omega arith);
    }
    walk_passed (suc c) l =
        at_cases on p u c (climb on p u c (way x [] None)) (Passed on (suc c) u)
        (passed_next c l (climb on p u c (way x [] None)) (walk_sums on p n u x small c (omega arith)).small (walk_passed c (omega arith)))

    -- None: nothing is left
    pub none_left_over : (climb on p u n (way x [] None)).answer ≡ None → (j : ℕ) → j < n → (climb on p u n (way x [] None)).rest j ≡ 0
    none_left_over e = (walk_passed n (omega arith)).none e

    -- accepted at g: no pivot stands there, and what is left begins there
    pub accepted_begins : (g : ℕ) → (climb on p u n (way x [] None)).answer ≡ Some g → Begins n u.pivots (climb on p u n (way x [] None)).rest g
    accepted_begins g e = (walk_passed n (omega arith)).some g e

-- the second walk leaves nothing over any pivot
pub second_clears : (p n k : ℕ) (u : Upper) (h : ℕ → ℕ) → Echelon p n k u h → (x : ℕ → ℕ) → ((j : ℕ) → j < n → x j < p) → (j : ℕ) → j < n → (pivot_at u.pivots j ≡ mark → ⊥) → (climb true p u n (way x [] None)).rest j ≡ 0
second_clears p n k u h echelon x small = (walk_passed true p n k u h echelon x small n (omega arith)).clear (goes_on (climb true p u n (way x [] None)))
