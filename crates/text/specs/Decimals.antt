-- Decimals, as the textbooks write them.
use Rattle.std.specs.Prelude.{ℕ, zero, suc, ◌+◌, ◌-◌, ◌*◌, ◌/◌, ◌%◌, true, false, List, [], ◌∷◌, ◌++◌, ltb}

-- the byte of the digit d
unfoldable pub glyph : ℕ → ℕ
glyph d = 48 + d

-- n by at most so many digits: below 10 its digit, else n / 10 and then the digit n % 10
unfoldable pub digits : ℕ → ℕ → List ℕ
digits zero n = []
digits (suc most) n = elim (ltb n 10) [ true ↦ glyph n ∷ [] | false ↦ digits most (n / 10) ++ (glyph (n % 10) ∷ []) ]

-- n in decimal: no number of 64 bits has more than twenty digits
unfoldable pub decimal : ℕ → List ℕ
decimal n = digits 20 n

-- the number that digits say, after what stands before them
unfoldable pub read_on : ℕ → List ℕ → ℕ
read_on n [] = n
read_on n (b ∷ bs) = read_on (n * 10 + (b - 48)) bs

unfoldable pub read_back : List ℕ → ℕ
read_back bs = read_on 0 bs
