-- Walks of rows that agree below n, over Us that agree there, agree.
-- Assumes nothing.
use Rattle.std.specs.Prelude.{Some}
use mathlib.Core.Path.{◌≡◌, refl, sym, ap, ap₂, ◌∙◌}
use mathlib.Core.Bool.{Bool, true, false, not, ◌&&◌, ◌||◌, cond}
use mathlib.Core.List.{List, [], ◌∷◌, ◌++◌}
use Prim.Native.Nat.{ℕ, zero, suc, ◌+◌, ◌-◌, ◌*◌, ◌%◌, ◌≤◌, ◌<◌}
use native.Mathlib.Decide.{ℕ_discrete}
use native.Mathlib.Omega.{arith}
use borrow.Author.Tests.{eq-eqb, ne_eqb}
use lib.Dec.{eqb}
use Rattle.sparse.specs.Pivots.{mark}
use Rattle.sparse.specs.Rows.{Entry, entry}
use Rattle.walk.specs.Step.{Upper, pivot_at, is_none, Way, subtract, accept, stopped, at, climb, Answer}

-- two ways with the same L row and answer, that leave the same below n
pub record Same (n : ℕ) (w v : Way) : Type 0 where
  pub rest : (j : ℕ) → j < n → w.rest j ≡ v.rest j
  pub l : w.l ≡ v.l
  pub answer : w.answer ≡ v.answer

-- the same pivot table over n columns, and below n the same values in the rows that it names
pub record Alike (n : ℕ) (u v : Upper) : Type 0 where
  pub pivots : (c : ℕ) → c < n → pivot_at u.pivots c ≡ pivot_at v.pivots c
  pub values : (c : ℕ) → c < n → (pivot_at u.pivots c ≡ mark → ⊥) → (j : ℕ) → j < n → u.value (pivot_at u.pivots c) j ≡ v.value (pivot_at v.pivots c) j

module _ (on : Bool) (p n : ℕ) (u v : Upper) (alike : Alike n u v) where
  accept_alike : (c : ℕ) (w x : Way) → Same n w x → Same n (accept c w) (accept c x)
  unfolding accept
  accept_alike c w x s = record { rest = s.rest; l = s.l; answer = ap (λ (a : Answer). cond (is_none a) (Some c) a) s.answer }

  subtract_alike : (c : ℕ) (w x : Way) → c < n → (pivot_at u.pivots c ≡ mark → ⊥) → Same n w x → Same n (subtract p u c w) (subtract p v c x)
  unfolding subtract
  subtract_alike c w x h m s = record {
    rest = λ j l. rest j (w.rest j) (x.rest j) (w.rest c) (x.rest c) (u.value (pivot_at u.pivots c) j) (v.value (pivot_at v.pivots c) j) (s.rest j l) (s.rest c h) (alike.values c h m j l);
    l = lower w.l x.l (pivot_at u.pivots c) (pivot_at v.pivots c) (w.rest c) (x.rest c) s.l (alike.pivots c h) (s.rest c h);
    answer = s.answer;
  }
    where
      rest : (j a b d e f g : ℕ) → a ≡ b → d ≡ e → f ≡ g → (a + (p - d) * f) % p ≡ (b + (p - e) * g) % p
      rest j a b d e f g q r t = rw (q, r, t)

      lower : (a b : List Entry) (d e f g : ℕ) → a ≡ b → d ≡ e → f ≡ g → a ++ (entry d f ∷ []) ≡ b ++ (entry e g ∷ [])
      lower a b d e f g q r t = rw (q, r, t)

  -- one column
  at_alike : (c : ℕ) (w x : Way) → c < n → Same n w x → Same n (at on p u c w) (at on p v c x)
  unfolding at stopped
  at_alike c w x h s = go (not on && not (is_none w.answer) || eqb (w.rest c) 0) (not on && not (is_none x.answer) || eqb (x.rest c) 0) tests (ℕ_discrete (pivot_at u.pivots c) mark)
    where
      tests : (not on && not (is_none w.answer) || eqb (w.rest c) 0) ≡ (not on && not (is_none x.answer) || eqb (x.rest c) 0)
      tests = ap₂ (λ (a : Answer) (y : ℕ). not on && not (is_none a) || eqb y 0) s.answer (s.rest c h)

      accepts : Same n (accept c w) (accept c x)
      accepts = accept_alike c w x s

      subtracts : (pivot_at u.pivots c ≡ mark → ⊥) → Same n (subtract p u c w) (subtract p v c x)
      subtracts m = subtract_alike c w x h m s

      go : (a b : Bool) → a ≡ b → Dec (pivot_at u.pivots c ≡ mark) → Same n (cond a w (cond (eqb (pivot_at u.pivots c) mark) (accept c w) (subtract p u c w))) (cond b x (cond (eqb (pivot_at v.pivots c) mark) (accept c x) (subtract p v c x)))
      go true b e d = rw (← e) s
      go false b e (yes m) = rw (← e, eq-eqb (pivot_at u.pivots c) mark m, eq-eqb (pivot_at v.pivots c) mark (sym (alike.pivots c h) ∙ m)) accepts
      go false b e (no m) = rw (← e, ne_eqb (pivot_at u.pivots c) mark m, ne_eqb (pivot_at v.pivots c) mark (λ q. m (alike.pivots c h ∙ q))) (subtracts m)

  -- up through the columns
  pub climb_alike : (c : ℕ) (w x : Way) → c ≤ n → Same n w x → Same n (climb on p u c w) (climb on p v c x)
  unfolding climb
  climb_alike zero w x h s = s
  climb_alike (suc c) w x h s = at_alike c (climb on p u c w) (climb on p v c x) h (climb_alike c w x (omega arith) s)

-- rows that agree, over one U
pub climb_same : (on : Bool) (p n : ℕ) (u : Upper) (c : ℕ) (w v : Way) → c ≤ n → Same n w v → Same n (climb on p u c w) (climb on p u c v)
climb_same on p n u c w v h s = climb_alike on p n u u (record { pivots = λ i l. refl; values = λ i l m j b. refl }) c w v h s
