-- Worked examples: texts that are read, and texts that are refused.
-- Assumes nothing.
use Rattle.std.specs.Prelude.{Err, Ok}
use mathlib.Core.Path.{◌≡◌, refl}
use mathlib.Core.List.{List, [], ◌∷◌, ◌++◌, map, flatten}
use Prim.Native.Nat.{ℕ}
use lib.ListN.{replicate}
use Rattle.sparse.specs.Refusals.{refuse, lowest, ◌else◌}
use Rattle.sparse.specs.declared.Refusal.TheVariants.{Size, Value, Zero, Outside, Order, Text}
use Rattle.text.specs.Decimals.{glyph, digits, decimal}
use Rattle.triplets.specs.Triplets.{triplet, before}
use Rattle.market.specs.Grammar.{feed, space, percent, banner}
use Rattle.market.specs.Parse.{got, past, uncomment, decimal_on, decimal_to, line, lines, size_line, market_of, whole, market, ◌then◌}
use Rattle.market.specs.Tests.{modulus, some, outside, rises, entries_test, read_test, market_test}

-- three numbers, with a space between each two
unfoldable pub three : ℕ → ℕ → ℕ → List ℕ
three i j v = decimal i ++ space ∷ decimal j ++ space ∷ decimal v

-- the first line, and lines after it
unfoldable pub text : List (List ℕ) → List ℕ
text ls = banner ++ flatten (map (λ l. l ++ feed ∷ []) ls)

-- document 01's example is read, also after a comment
pub documented : market (text (three 2 2 3 ∷ three 1 1 2 ∷ three 1 2 1 ∷ three 2 2 3 ∷ [])) ≡ got (market_of 2 2 (triplet 1 1 2 ∷ triplet 1 2 1 ∷ triplet 2 2 3 ∷ [])) []
unfolding text three banner feed space percent glyph digits decimal flatten market whole size_line lines line decimal_to decimal_on uncomment past ◌then◌
documented = refl

pub commented : market (text ((percent ∷ three 7 7 7) ∷ (percent ∷ []) ∷ three 1 2 1 ∷ three 1 2 9999999999 ∷ [])) ≡ got (market_of 1 2 (triplet 1 2 9999999999 ∷ [])) []
unfolding text three banner feed space percent glyph digits decimal flatten market whole size_line lines line decimal_to decimal_on uncomment past ◌then◌
commented = refl

-- it passes; a text with no entry does; a zero outside is 7; a value of 33 bits is 6; index 0 is 8, and so is one past the columns;
-- a place said twice is 9; 65 rows are 2, whatever else is wrong
pub judged : map (λ ls. market_test (text ls))
    ((three 2 2 3 ∷ three 1 1 2 ∷ three 1 2 1 ∷ three 2 2 3 ∷ [])
    ∷ (three 0 0 0 ∷ [])
    ∷ (three 2 2 1 ∷ three 5 5 0 ∷ [])
    ∷ (three 2 2 1 ∷ three 1 1 4294967297 ∷ [])
    ∷ (three 2 2 1 ∷ three 0 1 5 ∷ [])
    ∷ (three 2 2 1 ∷ three 1 3 5 ∷ [])
    ∷ (three 2 2 2 ∷ three 1 1 5 ∷ three 1 1 6 ∷ [])
    ∷ (three 65 2 1 ∷ three 5 5 0 ∷ [])
    ∷ [])
    ≡ Ok tt ∷ (Ok tt) ∷ Err Zero ∷ Err Value ∷ Err Outside ∷ Err Outside ∷ Err Order ∷ Err Size ∷ []
unfolding text three banner feed space percent glyph digits decimal flatten market whole size_line lines line decimal_to decimal_on uncomment past ◌then◌ market_test read_test entries_test lowest ◌else◌ refuse some outside rises before modulus
judged = refl

-- 15: fewer lines than said, or more; no line feed at the end; a second space; an eleventh digit; a carriage return; a blank line; a comment after
-- the size line; no first line
pub refused : map market_test
    (text (three 1 1 5000 ∷ three 1 1 5 ∷ [])
    ∷ text (three 1 1 1 ∷ three 1 1 5 ∷ three 1 1 6 ∷ [])
    ∷ (text (three 1 1 1 ∷ []) ++ three 1 1 5)
    ∷ text (three 1 1 1 ∷ (decimal 1 ++ space ∷ space ∷ decimal 1 ++ space ∷ decimal 5) ∷ [])
    ∷ text (three 1 1 1 ∷ three 1 1 10000000000 ∷ [])
    ∷ text (three 1 1 1 ∷ (three 1 1 5 ++ 13 ∷ []) ∷ [])
    ∷ text (three 1 1 1 ∷ [] ∷ three 1 1 5 ∷ [])
    ∷ text (three 1 1 1 ∷ (percent ∷ []) ∷ three 1 1 5 ∷ [])
    ∷ (three 1 1 0 ++ feed ∷ [])
    ∷ [])
    ≡ replicate 9 (Err Text)
unfolding text three banner feed space percent glyph digits decimal flatten market whole size_line lines line decimal_to decimal_on uncomment past ◌then◌ market_test read_test
refused = refl
