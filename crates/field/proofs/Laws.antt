-- The laws of residues modulo p that later crates cite: differences over any p, cancellation by an inverse, and no divisors of 0 modulo a prime.
-- Assumes nothing.
use mathlib.Core.Path.{◌≡◌, sym, ap, ◌∙◌}
use mathlib.Core.Logic.{◌⊎◌, inl, inr, ⊎_elim}
use Prim.Native.Nat.{ℕ, suc, ◌+◌, ◌-◌, ◌*◌, ◌%◌, ◌≤◌, ◌<◌}
use native.Mathlib.Nat.{mod-add-mod, add-mod_right, suc-mul, mod_self, mod-eq_of_lt, zero-mod, mul-zero, eq-zero-or-pos}
use native.Mathlib.Omega.{arith}
use Rattle.lists.proofs.Mods.{same_mod}
use Rattle.field.specs.Prime.{Prime}
use Rattle.field.specs.Inverse.{inverse, Invertible}
use Rattle.field.proofs.Inverses.{undo, inverse_undoes, prime_invertible}

-- a - b, and b again
pub sub_add : (p a b : ℕ) → b ≤ p → ((a + (p - b)) % p + b) % p ≡ a % p
sub_add p a b h =
    let same : a + (p - b) + b ≡ a + p = omega arith in
    mod-add-mod (a + (p - b)) p b ∙ ap (λ (x : ℕ). x % p) same ∙ add-mod_right a p

-- a + b, less b
pub add_sub : (p a b : ℕ) → b ≤ p → ((a + b) % p + (p - b)) % p ≡ a % p
add_sub p a b h =
    let same : a + b + (p - b) ≡ a + p = omega arith in
    mod-add-mod (a + b) p (p - b) ∙ ap (λ (x : ℕ). x % p) same ∙ add-mod_right a p

-- a - b with no difference in it: -1 is p - 1
pub sub_times : (p a b : ℕ) → 0 < p → b ≤ p → (a + (p - b)) % p ≡ (a + (p - 1) * b) % p
sub_times p a b pos h = same_mod p (a + (p - b)) (a + (p - 1) * b) b 1 (omega (arith, one_less))
  where
    one_less : (p - 1) * b + b ≡ p * b
    one_less = let up : suc (p - 1) ≡ p = omega arith in sym (suc-mul (p - 1) b) ∙ ap (λ (x : ℕ). x * b) up

-- a and its negation
pub add_neg : (p a : ℕ) → a ≤ p → (a + (p - a)) % p ≡ 0
add_neg p a h =
    let same : a + (p - a) ≡ p = omega arith in
    ap (λ (x : ℕ). x % p) same ∙ mod_self p

-- a factor that has an inverse cancels
pub mul_cancel : {p a : ℕ} → Invertible p a → (x y : ℕ) → a * x % p ≡ a * y % p → x % p ≡ y % p
mul_cancel {p} {a} h x y e =
    let u = inverse_undoes h in
    sym (undo x u) ∙ ap (λ (z : ℕ). inverse p a * z % p) e ∙ undo y u

-- a product that leaves 0 modulo a prime has a factor 0
pub prime_product : {p a b : ℕ} → Prime p → a < p → b < p → a * b % p ≡ 0 → (a ≡ 0) ⊎ (b ≡ 0)
prime_product {p} {a} {b} prime below below' e = ⊎_elim
    inl
    (λ pos. inr (sym (mod-eq_of_lt below') ∙ mul_cancel (prime_invertible prime pos below) b 0 (e ∙ sym (ap (λ (z : ℕ). z % p) (mul-zero a) ∙ zero-mod p)) ∙ zero-mod p))
    (eq-zero-or-pos a)
