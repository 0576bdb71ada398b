-- Remainders: inner ones are dropped by `mods`, products multiplied out by `prods`.
-- Strip first (`simp mods`), then `simp prods (omega arith)`.
-- Assumes nothing.
use mathlib.Core.Path.{◌≡◌, sym, ap, ◌∙◌}
use Prim.Native.Nat.{ℕ, zero, suc, ◌+◌, ◌*◌, ◌/◌, ◌%◌}
use native.Mathlib.Nat.{mod-mod, mod-add-mod, add-mod-mod, mod-add-div, add-mul-mod_self_left, mod-zero, suc-mul, add-mul, mul-add, mul_assoc, mul_comm, mul_left_comm, mul-one, one-mul, mul-zero, zero-mul}
use native.Mathlib.Omega.{arith}

pub ruleset prods = (mul-add, add-mul, mul_assoc, mul_comm, mul_left_comm, mul-one, one-mul, mul-zero, zero-mul)

-- an inner remainder of a factor changes nothing
pub mod_mul_mod : (a b m : ℕ) → (a % m * b) % m ≡ (a * b) % m
mod_mul_mod a b m =
    sym (add-mul-mod_self_left (a % m * b) m (a / m * b))
    ∙ ap (λ (x : ℕ). x % m) (ap (λ (x : ℕ). a % m * b + x) (sym (mul_assoc m (a / m) b)) ∙ sym (add-mul (a % m) (m * (a / m)) b) ∙ ap (λ (x : ℕ). x * b) (mod-add-div a m))

pub mul_mod_mod : (a b m : ℕ) → (a * (b % m)) % m ≡ (a * b) % m
mul_mod_mod a b m =
    ap (λ (x : ℕ). x % m) (mul_comm a (b % m)) ∙ mod_mul_mod b a m ∙ ap (λ (x : ℕ). x % m) (mul_comm b a)

pub ruleset mods = (mod-mod, mod-add-mod, add-mod-mod, mod_mul_mod, mul_mod_mod)

-- two numbers that agree up to multiples of p leave the same
pub same_mod : (p x y k l : ℕ) → x + p * k ≡ y + p * l → x % p ≡ y % p
same_mod p x y k l e =
    sym (add-mul-mod_self_left x p k) ∙ ap (λ (z : ℕ). z % p) e ∙ add-mul-mod_self_left y p l

-- z goes where suc q - 1 times it is added
shift : (q x z : ℕ) → x % suc q ≡ ((x + z) % suc q + q * z) % suc q
shift q x z =
    sym (add-mul-mod_self_left x (suc q) z)
    ∙ ap (λ (n : ℕ). n % suc q) (ap (λ (n : ℕ). x + n) (suc-mul q z) ∙ omega arith)
    ∙ sym (mod-add-mod (x + z) (suc q) (q * z))

-- what is added to both sides goes
pub cancel_mod : (p x y z : ℕ) → (x + z) % p ≡ (y + z) % p → x % p ≡ y % p
cancel_mod zero x y z e =
    let plain : x + z ≡ y + z = sym (mod-zero (x + z)) ∙ e ∙ mod-zero (y + z) in
    ap (λ (n : ℕ). n % 0) (omega arith)
cancel_mod (suc q) x y z e = shift q x z ∙ ap (λ (n : ℕ). (n + q * z) % suc q) e ∙ sym (shift q y z)
