-- Decimals: digit by digit, their lengths, and that reading one back gives the number.
-- Assumes nothing.
use mathlib.Core.Path.{◌≡◌, refl, sym, ap, ◌∙◌}
use mathlib.Core.List.{List, [], ◌∷◌, ◌++◌}
use Prim.Native.Nat.{ℕ, zero, suc, ◌+◌, ◌-◌, ◌*◌, ◌/◌, ◌%◌, ◌^◌, ◌≤◌, ◌<◌}
use native.Mathlib.Nat.{pow-suc}
use native.Mathlib.Decide.{dec_lt}
use native.Mathlib.Omega.{arith}
use borrow.Author.Tests.{lt-ltb, le-ltb}
use lib.ListN.{length, length-append}
use Rattle.text.specs.Decimals.{glyph, digits, decimal, read_on, read_back}

-- a number below 10 is its digit
digits_low : (k n : ℕ) → n < 10 → digits (suc k) n ≡ glyph n ∷ []
unfolding digits
digits_low k n h = rw (digits, lt-ltb n 10 h)

-- any other is a tenth of it, and its last digit
digits_high : (k n : ℕ) → 10 ≤ n → digits (suc k) n ≡ digits k (n / 10) ++ (glyph (n % 10) ∷ [])
unfolding digits
digits_high k n h = rw (digits, le-ltb n 10 h)

-- a tenth of a number has a digit less
tenth : (k n : ℕ) → n < 10 ^ suc k → n / 10 < 10 ^ k
tenth k n h = let e : 10 ^ suc k ≡ 10 ^ k * 10 = pow-suc 10 k in omega arith

-- one digit more than are needed changes nothing
digits_more : (k n : ℕ) → n < 10 ^ suc k → digits (suc (suc k)) n ≡ digits (suc k) n
digits_more zero n h = digits_low 1 n (omega arith) ∙ sym (digits_low 0 n (omega arith))
digits_more (suc k) n h = go (dec_lt n 10) (digits_more k (n / 10))
  where
    go : Dec (n < 10) → (n / 10 < 10 ^ suc k → digits (suc (suc k)) (n / 10) ≡ digits (suc k) (n / 10)) → digits (suc (suc (suc k))) n ≡ digits (suc (suc k)) n
    go (yes low) ih = digits_low (suc (suc k)) n low ∙ sym (digits_low (suc k) n low)
    go (no high) ih =
        let ten : 10 ≤ n = omega arith in
        digits_high (suc (suc k)) n ten ∙ ap (λ (l : List ℕ). l ++ (glyph (n % 10) ∷ [])) (ih (tenth (suc k) n h)) ∙ sym (digits_high (suc k) n ten)

-- the decimal of a number below 10, and of any other
pub decimal_low : (n : ℕ) → n < 10 → decimal n ≡ glyph n ∷ []
unfolding decimal
decimal_low n h = digits_low 19 n h

pub decimal_high : (n : ℕ) → 10 ≤ n → n < 10 ^ 20 → decimal n ≡ decimal (n / 10) ++ (glyph (n % 10) ∷ [])
unfolding decimal
decimal_high n h b = digits_high 19 n h ∙ ap (λ (l : List ℕ). l ++ (glyph (n % 10) ∷ [])) (sym (digits_more 18 (n / 10) (tenth 19 n b)))

-- read digit by digit
read_append : (n : ℕ) (xs ys : List ℕ) → read_on n (xs ++ ys) ≡ read_on (read_on n xs) ys
unfolding read_on
read_append n [] ys = refl
read_append n (x ∷ xs) ys = read_append (n * 10 + (x - 48)) xs ys

read_digits : (k n : ℕ) → n < 10 ^ k → read_back (digits k n) ≡ n
unfolding digits read_back read_on glyph
read_digits zero n h = omega arith
read_digits (suc k) n h = go (dec_lt n 10) (read_digits k (n / 10))
  where
    go : Dec (n < 10) → (n / 10 < 10 ^ k → read_back (digits k (n / 10)) ≡ n / 10) → read_back (digits (suc k) n) ≡ n
    go (yes low) ih = ap read_back (digits_low k n low) ∙ omega arith
    go (no high) ih =
        ap read_back (digits_high k n (omega arith))
        ∙ read_append 0 (digits k (n / 10)) (glyph (n % 10) ∷ [])
        ∙ ap (λ (t : ℕ). t * 10 + (48 + n % 10 - 48)) (ih (tenth k n h))
        ∙ omega arith

-- reading a decimal back gives the number
pub read_back_lem : (n : ℕ) → n < 10 ^ 20 → read_back (decimal n) ≡ n
unfolding decimal
read_back_lem n h = read_digits 20 n h

-- a decimal has a digit at least
some_digit : (k n : ℕ) → 1 ≤ length (digits (suc k) n)
some_digit k n = go (dec_lt n 10)
  where
    go : Dec (n < 10) → 1 ≤ length (digits (suc k) n)
    go (yes low) = omega (arith, ap length (digits_low k n low))
    go (no high) = omega (arith, ap length (digits_high k n (omega arith)), length-append (digits k (n / 10)) (glyph (n % 10) ∷ []))

-- no more digits than are allowed, and no more than j for a number below 10 ^ j
few_digits : (k n : ℕ) → length (digits k n) ≤ k
unfolding digits
few_digits zero n = omega arith
few_digits (suc k) n = go (dec_lt n 10) (few_digits k (n / 10))
  where
    go : Dec (n < 10) → length (digits k (n / 10)) ≤ k → length (digits (suc k) n) ≤ suc k
    go (yes low) ih = omega (arith, ap length (digits_low k n low))
    go (no high) ih = omega (arith, ap length (digits_high k n (omega arith)), length-append (digits k (n / 10)) (glyph (n % 10) ∷ []))

digits_below : (j k n : ℕ) → n < 10 ^ suc j → length (digits k n) ≤ suc j
unfolding digits
digits_below j zero n h = omega arith
digits_below j (suc k) n h = go j (dec_lt n 10) h (λ i. digits_below i k (n / 10))
  where
    go : (i : ℕ) → Dec (n < 10) → n < 10 ^ suc i → ((i : ℕ) → n / 10 < 10 ^ suc i → length (digits k (n / 10)) ≤ suc i) → length (digits (suc k) n) ≤ suc i
    go i (yes low) h ih = omega (arith, ap length (digits_low k n low))
    go zero (no high) h ih = absurd (omega arith)
    go (suc i) (no high) h ih = omega (arith, ap length (digits_high k n (omega arith)), length-append (digits k (n / 10)) (glyph (n % 10) ∷ []), ih i (tenth (suc i) n h))

-- 1 to 20 digits, and at most 10 for a number of 32 bits
pub decimal_some : (n : ℕ) → 1 ≤ length (decimal n)
unfolding decimal
decimal_some n = some_digit 19 n

pub decimal_most : (n : ℕ) → length (decimal n) ≤ 20
unfolding decimal
decimal_most n = few_digits 20 n

pub decimal_ten : (n : ℕ) → n < 2 ^ 32 → length (decimal n) ≤ 10
unfolding decimal
decimal_ten n h = digits_below 9 20 n (omega arith)

-- room for the last digit after a tenth of the number
pub decimal_tenth : (n : ℕ) → 10 ≤ n → n < 10 ^ 20 → length (decimal (n / 10)) + 1 ≤ 20
decimal_tenth n h b = omega (arith, decimal_most n, ap length (decimal_high n h b), length-append (decimal (n / 10)) (glyph (n % 10) ∷ []))
