-- A number is given exactly when its clause holds and no preferred one does.
-- A stage is a test that answers for the numbers above `low` up to `high`; stages in the table's order join to one.
-- Assumes nothing.
use Rattle.std.specs.Prelude.{Err, Ok}
use mathlib.Core.Path.{◌≡◌, refl, sym, ap, subst, ◌∙◌}
use mathlib.Core.Logic.{◌↔◌, ◌⊎◌, inl, inr, ⊎_elim}
use mathlib.Core.Bool.{Bool, true, false}
use Prim.Native.Nat.{ℕ, ◌+◌, ◌≤◌, ◌<◌}
use native.Mathlib.Omega.{arith}
use native.Mathlib.Decide.{dec_lt}
use mathlib.Core.List.{[], ◌∷◌}
use lib.Dec.{lit<}
use lib.ListN.{get_or}
use Rattle.lists.proofs.Decides.{Decides}
use Rattle.meaning.specs.Clauses.{Some}
use Rattle.sparse.specs.Refusals.{number, refuse, ◌else◌, first_of, Tested}
use Rattle.sparse.specs.declared.Refusal.{Refusal}
use Rattle.sparse.specs.declared.Refusal.TheVariants.{Modulus, Size, Shape, Pointer, Column, Value, Zero, Outside, Order, NotSquare, Mismatch, Positions, State, Room, Text}
use Rattle.sparse.proofs.Firsts.{each_good, Found, find}

-- the refusal of a number
of_number : ℕ → Refusal
of_number n = get_or (Text ∷ Modulus ∷ Size ∷ Shape ∷ Pointer ∷ Column ∷ Value ∷ Zero ∷ Outside ∷ Order ∷ NotSquare ∷ Mismatch ∷ Positions ∷ State ∷ Room ∷ Text ∷ []) n Text

back : (r : Refusal) → of_number (number r) ≡ r
unfolding of_number number
back Modulus = refl
back Size = refl
back Shape = refl
back Pointer = refl
back Column = refl
back Value = refl
back Zero = refl
back Outside = refl
back Order = refl
back NotSquare = refl
back Mismatch = refl
back Positions = refl
back State = refl
back Room = refl
back Text = refl

-- a number is given to one refusal
pub same_number : (r q : Refusal) → number r ≡ number q → r ≡ q
same_number r q e = sym (back r) ∙ ap of_number e ∙ back q

-- numbers start at 1
pub from_one : (r : Refusal) → 0 < number r
unfolding number
from_one Modulus = lit< tt
from_one Size = lit< tt
from_one Shape = lit< tt
from_one Pointer = lit< tt
from_one Column = lit< tt
from_one Value = lit< tt
from_one Zero = lit< tt
from_one Outside = lit< tt
from_one Order = lit< tt
from_one NotSquare = lit< tt
from_one Mismatch = lit< tt
from_one Positions = lit< tt
from_one State = lit< tt
from_one Room = lit< tt
from_one Text = lit< tt

-- t answers for the numbers above low up to high, App saying where each clause holds
pub record Stage (App : Refusal → Type 0) (low high : ℕ) (t : Tested) : Type 0 where
  pub holds : (r : Refusal) → t ≡ Err r → App r
  pub above : (r : Refusal) → t ≡ Err r → low < number r
  pub upto : (r : Refusal) → t ≡ Err r → number r ≤ high
  pub first : (r : Refusal) → t ≡ Err r → (q : Refusal) → low < number q → number q < number r → App q → ⊥
  pub none : t ≡ Ok tt → (q : Refusal) → low < number q → number q ≤ high → App q → ⊥

-- a number above low is at most mid, or above it
pub side : (n mid : ℕ) → (n ≤ mid) ⊎ (mid < n)
side n mid = go (dec_lt mid n)
  where
    go : Dec (mid < n) → (n ≤ mid) ⊎ (mid < n)
    go (yes l) = inr l
    go (no l) = inl (omega arith)

-- `Ok tt` is no refusal
pub never : {r : Refusal} → ◌≡◌ {A = Tested} (Ok tt) (Err r) → ⊥
never e = let z : ◌≡◌ {A = ℕ} 0 1 = cc in omega arith

pub inner : {r q : Refusal} → ◌≡◌ {A = Tested} (Err r) (Err q) → r ≡ q
inner e = cc

-- a clause that is tested first: it holds and refuses, or it doesn't and the rest decides
pub refuse_first : {b : Bool} {P : Type 0} → Decides b P → (r : Refusal) (t u : Tested) → refuse b r else t ≡ u → (P × (Err r ≡ u)) ⊎ ((P → ⊥) × (t ≡ u))
unfolding refuse ◌else◌
refuse_first {b = true} d r t u e = inl (d.yes refl, e)
refuse_first {b = false} d r t u e = inr (d.no refl, e)

pub refuse_alone : {b : Bool} {P : Type 0} → Decides b P → (r : Refusal) (u : Tested) → refuse b r ≡ u → (P × (Err r ≡ u)) ⊎ ((P → ⊥) × ((Ok tt) ≡ u))
unfolding refuse
refuse_alone {b = true} d r u e = inl (d.yes refl, e)
refuse_alone {b = false} d r u e = inr (d.no refl, e)

-- a clause at each of n places: where one is refused it holds, where none is it holds nowhere
module _ (n : ℕ) (b : ℕ → Bool) (P : ℕ → Type 0) (d : (k : ℕ) → Decides (b k) (P k)) (r : Refusal) where
  pub some_found : (q : Refusal) → first_of n (λ k. refuse (b k) r) ≡ Err q → Some n P × (q ≡ r)
  some_found q e =
      let w : Found n (λ k. refuse (b k) r) q = find n (λ k. refuse (b k) r) e in
      ⊎_elim (λ x. (record { place = w.place; within = w.within; such = x.0 }, sym (inner x.1))) (λ x. absurd (never x.1)) (refuse_alone (d w.place) r (Err q) w.here)

  pub some_none : first_of n (λ k. refuse (b k) r) ≡ Ok tt → Some n P → ⊥
  some_none e w =
      ⊎_elim (λ x. never (sym x.1)) (λ x. x.0 w.such) (refuse_alone (d w.place) r (Ok tt) (each_good n (λ k. refuse (b k) r) e w.place w.within))

-- a clause that holds of one refusal alone, tested in any way
pub alone : (App : Refusal → Type 0) (low high : ℕ) (t : Tested) (r : Refusal) (P : Type 0) → number r ≡ high → low < high
    → ((q : Refusal) → t ≡ Err q → P × (q ≡ r)) → (t ≡ Ok tt → P → ⊥) → (P → App r) → (App r → P)
    → ((q : Refusal) → low < number q → number q < high → App q → ⊥)
    → Stage App low high t
alone App low high t r P e l found none to from gap = record {
  holds = λ q f. let x = found q f in subst App (sym x.1) (to x.0);
  above = λ q f. let g : number q ≡ number r = ap number (found q f).1 in omega arith;
  upto = λ q f. let g : number q ≡ number r = ap number (found q f).1 in omega arith;
  first = λ q f s lo hi. gap s lo (let g : number q ≡ number r = ap number (found q f).1 in omega arith);
  none = λ f q lo hi a. ⊎_elim (λ le. gap q lo (let g : number q < high = omega arith in g) a) (λ gt. none f (from (subst App (same_number q r (omega arith)) a))) (side (number q + 1) high);
}

-- a single clause
pub clause : (App : Refusal → Type 0) (low high : ℕ) (b : Bool) (r : Refusal) → number r ≡ high → low < high → Decides b (App r)
    → ((q : Refusal) → low < number q → number q < high → App q → ⊥) → Stage App low high (refuse b r)
clause App low high b r e l d gap = alone App low high (refuse b r) r (App r) e l found none (λ x. x) (λ x. x) gap
  where
    found : (q : Refusal) → refuse b r ≡ Err q → App r × (q ≡ r)
    found q f = ⊎_elim (λ x. (x.0, sym (inner x.1))) (λ x. absurd (never x.1)) (refuse_alone d r (Err q) f)

    none : refuse b r ≡ Ok tt → App r → ⊥
    none f x = ⊎_elim (λ y. never (sym y.1)) (λ y. y.0 x) (refuse_alone d r (Ok tt) f)

-- the end of a list of tests
pub ended : (App : Refusal → Type 0) (n : ℕ) → Stage App n n (Ok tt)
ended App n = record {
  holds = λ r e. absurd (never e);
  above = λ r e. absurd (never e);
  upto = λ r e. absurd (never e);
  first = λ r e. absurd (never e);
  none = λ e q lo hi a. omega arith;
}

-- stages in order
pub join : (App : Refusal → Type 0) (low mid high : ℕ) (t u : Tested) → low ≤ mid → mid ≤ high → Stage App low mid t → (t ≡ Ok tt → Stage App mid high u) → Stage App low high (t else u)
unfolding ◌else◌
join App low mid high (Ok _) u lm mh s rest =
    let v : Stage App mid high u = rest refl in
    record {
      holds = v.holds;
      above = λ r f. let g : mid < number r = v.above r f in omega arith;
      upto = v.upto;
      first = λ r f q lo hi a. ⊎_elim (λ le. s.none refl q lo le a) (λ gt. v.first r f q gt hi a) (side (number q) mid);
      none = λ f q lo hi a. ⊎_elim (λ le. s.none refl q lo le a) (λ gt. v.none f q gt hi a) (side (number q) mid);
    }
join App low mid high (Err r) u lm mh s rest = record {
  holds = s.holds;
  above = s.above;
  upto = λ q f. let g : number q ≤ mid = s.upto q f in omega arith;
  first = s.first;
  none = λ f. absurd (never (sym f));
}

-- the number that is given is the lowest that applies
pub exactly : (App : Refusal → Type 0) (high : ℕ) (t : Tested) → Stage App 0 high t → (r : Refusal)
    → (t ≡ Err r) ↔ (App r × (number r ≤ high) × ((q : Refusal) → number q < number r → App q → ⊥))
exactly App high t s r = (λ e. (s.holds r e, s.upto r e, (λ q l. s.first r e q (from_one q) l)), from t s)
  where
    from : (u : Tested) → Stage App 0 high u → (App r × (number r ≤ high) × ((q : Refusal) → number q < number r → App q → ⊥)) → u ≡ Err r
    from (Ok _) g w = absurd (g.none refl r (from_one r) w.1 w.0)
    from (Err q) g w = ap Err (same_number q r (⊎_elim (λ le. ⊎_elim (λ ge. omega arith) (λ lt. absurd (w.2 q lt (g.holds q refl))) (side (number r) (number q))) (λ gt. absurd (g.first q refl r (from_one r) gt w.0)) (side (number q) (number r))))
