-- The inverse: by Euclid's remainders there is one wherever a shares no divisor with p, and no other below p.
-- Assumes nothing.
use mathlib.Core.Path.{◌≡◌, refl, sym, ap, ◌∙◌, subst}
use mathlib.Core.Logic.{⊎_elim}
use Prim.Native.Nat.{ℕ, zero, suc, ◌+◌, ◌-◌, ◌*◌, ◌/◌, ◌%◌, ◌≤◌, ◌<◌}
use native.Mathlib.Nat.{mod-lt, mod-eq_of_lt, zero-mod, mul-zero, mul-one, one-mul, mul_comm, mul-sub, mul-le-mul_left, le-mul_of_pos_right, lt_of_mul-lt-mul_left, pos_of_ne-zero, div-add-mod, div-eq_of_eq-mul_right, dvd_of_mod-eq-zero, dvd_refl, dvd-mod_iff, le_of_dvd, le_refl, le_of_lt}
use native.Mathlib.Decide.{ℕ_discrete}
use native.Mathlib.Omega.{arith}
use lib.Dec.{eqb}
use borrow.Author.Tests.{eq-eqb, eqb-true}
use Rattle.lists.proofs.Find.{least_only}
use Rattle.lists.proofs.Mods.{prods, mod_mul_mod, mul_mod_mod, same_mod}
use Rattle.field.specs.Prime.{Prime}
use Rattle.field.specs.Inverse.{inverse, Invertible}

-- r is an inverse of a modulo p
pub record Undoes (p a r : ℕ) : Type 0 where
  pub less : r < p
  pub law : a * r % p ≡ 1

-- times a, then times r, is as before
pub undo : {p a r : ℕ} (x : ℕ) → Undoes p a r → r * (a * x % p) % p ≡ x % p
undo {p} {a} {r} x u =
    let turned : r * (a * x) ≡ a * r * x = simp prods (omega arith) in
    mul_mod_mod r (a * x) p
    ∙ ap (λ (z : ℕ). z % p) turned
    ∙ sym (mod_mul_mod (a * r) x p)
    ∙ ap (λ (z : ℕ). z * x % p) u.law
    ∙ ap (λ (z : ℕ). z % p) (one-mul x)

undoes_pos : {p a r : ℕ} → Undoes p a r → 0 < r
undoes_pos {p} {a} {r} u = pos_of_ne-zero (λ e.
    let none : a * r % p ≡ 0 = rw (e, mul-zero, zero-mod) refl in omega (arith, u.law))

-- there is at most one, and it is what the definition says
pub inverse_is : {p a r : ℕ} → Undoes p a r → r ≡ inverse p a
unfolding inverse
inverse_is {p} {a} {r} u =
    sym (least_only p (λ j. eqb (a * j % p) 1) r u.less (eq-eqb (a * r % p) 1 u.law) (λ j less e.
    sym (mod-eq_of_lt less)
    ∙ sym (undo j u)
    ∙ ap (λ (z : ℕ). r * z % p) (eqb-true (a * j % p) 1 e)
    ∙ ap (λ (z : ℕ). z % p) (mul-one r)
    ∙ mod-eq_of_lt u.less))

-- one step of Euclid's: the smaller pair
pub euclid_smaller : {p a : ℕ} → Invertible p a → (a ≡ 1 → ⊥) → Invertible a (p % a)
euclid_smaller {p} {a} h more = record {
  pos = pos_of_ne-zero (λ e. more (h.apart a (dvd_of_mod-eq-zero a e) (dvd_refl a)));
  below = mod-lt p h.pos;
  apart = λ d divides rest. h.apart d ((dvd-mod_iff d divides).0 rest) divides;
}

-- where p * y = 1 + a * k, the inverse of a is p - k
turn : {p a y k : ℕ} → a < p → 0 < y → y < a → p * y ≡ 1 + a * k → (k < p) × Undoes p a (p - k)
turn {p} {a} {y} {k} below pos less e =
    let room : k < p = lt_of_mul-lt-mul_left a (omega (arith, mul-le-mul_left p (le_of_lt less), mul_comm a p)) in
    let zero_times : a * zero ≡ 0 = mul-zero a in
    let some : 0 < k = pos_of_ne-zero (λ z. omega (arith, ap (λ (x : ℕ). a * x) z, le-mul_of_pos_right p pos)) in
    let left = mul-sub a p k in
    let right = mul-sub p a y in
    let same : a * (p - k) + p * 0 ≡ 1 + p * (a - y) = omega (arith, mul_comm a p, mul-zero p, mul-le-mul_left a (le_of_lt room), mul-le-mul_left p (le_of_lt less)) in
    (room, record { less = omega arith; law = same_mod p (a * (p - k)) 1 0 (a - y) same ∙ mod-eq_of_lt (omega arith) })

-- what the step makes of y, the smaller pair's inverse
pub record Step (p a y : ℕ) : Type 0 where
  pub some : 1 ≤ p * y
  pub room : (p * y - 1) / a < p
  pub undoes : Undoes p a (p - (p * y - 1) / a)

pub euclid_step : {p a y : ℕ} → 0 < a → a < p → Undoes a (p % a) y → Step p a y
euclid_step {p} {a} {y} pos below u =
    let leaves : p * y % a ≡ 1 = sym (mod_mul_mod p y a) ∙ u.law in
    let exact : p * y ≡ 1 + a * (p * y / a) = omega (arith, div-add-mod (p * y) a) in
    let k : (p * y - 1) / a ≡ p * y / a = div-eq_of_eq-mul_right pos (omega arith) in
    let t = turn below (undoes_pos u) u.less exact in
    record { some = omega arith; room = rw k t.0; undoes = rw k t.1 }

-- where Euclid's remainders end
pub one_undoes : {p a : ℕ} → a < p → a ≡ 1 → Undoes p a 1
one_undoes {p} {a} h e = record {
  less = omega arith;
  law = ap (λ (z : ℕ). z % p) (mul-one a ∙ e) ∙ mod-eq_of_lt (omega arith);
}

-- by induction on a bound of a
exists : (most p a : ℕ) → a ≤ most → Invertible p a → (r : ℕ) × Undoes p a r
exists zero p a h i = absurd (omega arith)
exists (suc most) p a h i = elim (ℕ_discrete a 1) [
  | yes q ↦ (1, one_undoes i.below q)
  | no q ↦ let s = exists most a (p % a) (omega (arith, mod-lt p i.pos)) (euclid_smaller i q) in
      (p - (p * s.0 - 1) / a, (euclid_step i.pos i.below s.1).undoes)
]

-- the inverse is one
pub inverse_undoes : {p a : ℕ} → Invertible p a → Undoes p a (inverse p a)
inverse_undoes {p} {a} h =
    let s = exists a p a (le_refl a) h in
    subst (λ (r : ℕ). Undoes p a r) (inverse_is s.1) s.1

-- the step, at what the code's call of itself gives
pub inverse_step : {p a y : ℕ} → Invertible p a → (a ≡ 1 → ⊥) → y ≡ inverse a (p % a) → Step p a y
inverse_step {p} {a} h more e =
    euclid_step h.pos h.below (rw e (inverse_undoes (euclid_smaller h more)))

pub inverse_in : {p a : ℕ} → Invertible p a → (0 < inverse p a) × (inverse p a < p)
inverse_in h = let u = inverse_undoes h in (undoes_pos u, u.less)

pub inverse_law : {p a : ℕ} → Invertible p a → a * inverse p a % p ≡ 1
inverse_law h = (inverse_undoes h).law

pub inverse_only : {p a : ℕ} → Invertible p a → (r : ℕ) → r < p → a * r % p ≡ 1 → r ≡ inverse p a
inverse_only h r less law = inverse_is (record { less = less; law = law })

-- every residue but 0 modulo a prime has one
pub prime_invertible : {p a : ℕ} → Prime p → 0 < a → a < p → Invertible p a
prime_invertible {p} {a} prime pos below = record {
  pos = pos;
  below = below;
  apart = λ d divides rest. ⊎_elim
      (λ e. e)
      (λ (e : d ≡ p). let less : d ≤ a = le_of_dvd pos rest in absurd (omega arith))
      (prime.divisors d divides);
}
