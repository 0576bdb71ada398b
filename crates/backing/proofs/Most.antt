-- Back substitution never needs more entry places than U and L use.
-- Assumes nothing.
use Prim.Native.Nat.{ℕ, zero, suc, ◌+◌, ◌-◌, ◌*◌, ◌≤◌}
use native.Mathlib.Nat.{zero-mul, mul-le-mul}
use native.Mathlib.Omega.{arith}

-- e of k rows, each of at most n - k + 1 entries
pub entries_most : (e k n : ℕ) → e ≤ k → k ≤ n → n ≤ 1024 → e * (n - k + 1) ≤ 1048576
entries_most zero k n a b c = omega (arith, zero-mul (n - k + 1))
entries_most (suc e) k n a b c =
    let rows : suc e ≤ 1024 = omega arith in
    let width : n - k + 1 ≤ 1024 = omega arith in
    let most : suc e * (n - k + 1) ≤ 1024 * 1024 = mul-le-mul rows width in
    omega (arith, most)
