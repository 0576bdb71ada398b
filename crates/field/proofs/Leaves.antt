-- What a number leaves modulo p where it is at most one p too large, and how wide a product is.
-- Assumes nothing.
use mathlib.Core.Path.{◌≡◌, sym, ap, ◌∙◌}
use Prim.Native.Nat.{ℕ, ◌+◌, ◌*◌, ◌^◌, ◌%◌, ◌<◌}
use native.Mathlib.Nat.{mod-eq_of_lt, add-mod_right, mul-le-mul_left, le_of_lt}
use native.Mathlib.Omega.{arith}
use lib.Arith.{digits_lt}
use lib.Pow.{pow-add}

-- a number below p leaves itself
pub leaves_itself : {p r : ℕ} → r < p → r ≡ r % p
leaves_itself h = sym (mod-eq_of_lt h)

-- one p too many is dropped
pub leaves_less : {p n r : ℕ} → r < p → n ≡ r + p → r ≡ n % p
leaves_less {p} {n} {r} h e =
    leaves_itself h ∙ sym (add-mod_right r p) ∙ ap (λ (x : ℕ). x % p) (sym e)

-- numbers of j and of k bits have a product of at most j + k: less than a and b as two digits
pub product_fits : (j k : ℕ) {a b : ℕ} → a < 2 ^ j → b < 2 ^ k → a * b < 2 ^ (j + k)
product_fits j k {a} {b} ha hb =
    let digits : a * 2 ^ k + b < 2 ^ j * 2 ^ k = digits_lt ha hb in
    rw pow-add (omega (arith, mul-le-mul_left a (le_of_lt hb)))
