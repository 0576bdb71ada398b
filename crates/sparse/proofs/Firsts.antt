-- The laws of `lowest` and `first_of`, in the form in which code gives an answer: by a `?` or a `return` at the first refusal.
-- Assumes nothing.
use Rattle.std.specs.Prelude.{Result, IsErrAnd, Err, Ok}
use mathlib.Core.Path.{◌≡◌, refl, sym, ◌∙◌}
use Prim.Native.Nat.{ℕ, zero, suc, ◌+◌, ◌≤◌, ◌<◌}
use native.Mathlib.Nat.{eq-or-lt_of_le}
use native.Mathlib.Numerals.{add-one}
use native.Mathlib.Decide.{le_ind}
use native.Mathlib.Omega.{arith}
use mathlib.Core.Logic.{⊎_elim}
use mathlib.Core.Bool.{Bool, true, false, ◌||◌, true≢false}
use mathlib.Core.List.{List, [], ◌∷◌}
use Rattle.sparse.specs.Refusals.{refuse, ◌else◌, lowest, first_of, Tested}
use Rattle.sparse.specs.declared.Refusal.{Refusal}

-- no refusal after t
pub else_none : (t : Tested) → t else Ok tt ≡ t
unfolding ◌else◌
else_none (Ok _) = refl
else_none (Err r) = refl

-- neither of two refuses
pub else_good : (s t : Tested) → s else t ≡ Ok tt → (s ≡ Ok tt) × (t ≡ Ok tt)
unfolding ◌else◌
else_good (Ok _) t e = (refl, e)
else_good (Err r) t e = let z : ◌≡◌ {A = ℕ} 0 1 = cc in absurd (omega arith)

-- a clause that doesn't hold doesn't refuse, and the other way
pub refuse_false : (b : Bool) (r : Refusal) → b ≡ false → refuse b r ≡ Ok tt
unfolding refuse
refuse_false b r e = rw e

pub refuse_good : (b : Bool) (r : Refusal) → refuse b r ≡ Ok tt → b ≡ false
unfolding refuse
refuse_good true r e = let z : ◌≡◌ {A = ℕ} 0 1 = cc in absurd (omega arith)
refuse_good false r e = refl

-- neither of two parts of a clause holds
pub neither : (a b : Bool) → a || b ≡ false → (a ≡ false) × (b ≡ false)
neither true b e = absurd (true≢false e)
neither false b e = (refl, e)

-- of a list that finds nothing, neither the first test does nor the rest
pub lowest_good : (t : Tested) (ts : List Tested) → lowest (t ∷ ts) ≡ Ok tt → (t ≡ Ok tt) × (lowest ts ≡ Ok tt)
unfolding lowest
lowest_good t ts e = else_good t (lowest ts) e

-- a list of tests, as code goes through it: it found s for t, which is a refusal,
pub lowest_stop : {s t : Tested} {r : Refusal} (ts : List Tested) → s ≡ t → s ≡ Err r → Err r ≡ lowest (t ∷ ts)
unfolding lowest ◌else◌
lowest_stop ts q e = rw (← q, e)

-- or none, and goes on to the rest,
pub lowest_next : {s t x : Tested} (ts : List Tested) → s ≡ t → s ≡ Ok tt → x ≡ lowest ts → x ≡ lowest (t ∷ ts)
unfolding lowest ◌else◌
lowest_next ts q e h = rw (← q, e) h

-- up to the last
pub lowest_last : {x t : Tested} → x ≡ t → x ≡ lowest (t ∷ [])
unfolding lowest
lowest_last q = q ∙ sym (else_none _)

-- the same of the list alone
pub lowest_skip : {t : Tested} (ts : List Tested) → t ≡ Ok tt → lowest (t ∷ ts) ≡ lowest ts
lowest_skip ts e = sym (lowest_next ts refl e refl)

-- the first n find nothing exactly where each of them finds nothing
pub each_good : (n : ℕ) (f : ℕ → Tested) → first_of n f ≡ Ok tt → (i : ℕ) → i < n → f i ≡ Ok tt
unfolding first_of
each_good zero f e i l = absurd (omega arith)
each_good (suc n) f e i l =
    let both = else_good (first_of n f) (f n) e in
    ⊎_elim (λ (q : i ≡ n). rw q both.1) (each_good n f both.0 i) (eq-or-lt_of_le (omega arith))

pub all_good : (n : ℕ) (f : ℕ → Tested) → ((i : ℕ) → i < n → f i ≡ Ok tt) → first_of n f ≡ Ok tt
unfolding first_of ◌else◌
all_good zero f h = refl
all_good (suc n) f h = rw (all_good n f (λ i l. h i (omega arith)), h n (omega arith))

-- what a loop over n tests knows at its head: the first i find nothing
pub record Past (n : ℕ) (f : ℕ → Tested) (i : ℕ) : Type 0 where
  pub within : i ≤ n
  pub good : first_of i f ≡ Ok tt

pub past_none : (n : ℕ) (f : ℕ → Tested) → Past n f 0
unfolding first_of
past_none n f = record { within = omega arith; good = refl }

module _ {n : ℕ} {f : ℕ → Tested} {i : ℕ} where
  -- test i found t, which is no refusal
  pub past_next : {t : Tested} → Past n f i → i < n → t ≡ f i → t ≡ Ok tt → Past n f (i + 1)
  unfolding first_of ◌else◌
  past_next h l q e = record { within = omega arith; good = rw (add-one, h.good, ← q, e) }

  -- test i found t, which is a refusal
  pub past_stop : {t : Tested} {r : Refusal} → Past n f i → i < n → t ≡ f i → t ≡ Err r → Err r ≡ first_of n f
  unfolding first_of ◌else◌
  past_stop {t} {r} h l q e =
      sym (le_ind (λ (m : ℕ). first_of m f ≡ Err r) (rw (h.good, ← q, e)) (λ m k p. rw p) n l)

  -- no test is left
  pub past_all : Past n f i → n ≤ i → Ok tt ≡ first_of n f
  past_all h l = let e : n ≡ i = omega (arith, h.within) in sym (rw e h.good)

-- a refusal that is found: at which place, and that none stands before it
pub record Found (n : ℕ) (f : ℕ → Tested) (r : Refusal) : Type 0 where
  pub place : ℕ
  pub within : place < n
  pub before : (i : ℕ) → i < place → f i ≡ Ok tt
  pub here : f place ≡ Err r

pub find : (n : ℕ) (f : ℕ → Tested) {r : Refusal} → first_of n f ≡ Err r → Found n f r
unfolding first_of ◌else◌
find zero f e = let z : ◌≡◌ {A = ℕ} 0 1 = cc in absurd (omega arith)
find (suc n) f {r} e = go (first_of n f) refl e (λ q. find n f {r = q})
  where
    go : (t : Tested) → first_of n f ≡ t → t else f n ≡ Err r → ((q : Refusal) → first_of n f ≡ Err q → Found n f q) → Found (suc n) f r
    go (Ok _) q h ih = record { place = n; within = omega arith; before = each_good n f q; here = h }
    go (Err q) g h ih =
        let w : Found n f r = ih r (g ∙ h) in
        record { place = w.place; within = omega (arith, w.within); before = w.before; here = w.here }

-- what a `?` hands on is the refusal that it found
pub handed : {T E : Type 0} {r : Result T E} {e : E} → IsErrAnd r (λ y. y ≡ e) → r ≡ Err e
handed {r = Ok v} h = absurd h
handed {r = Err y} h = rw h
