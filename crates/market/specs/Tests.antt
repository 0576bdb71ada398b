-- When a text is refused: 15 alone, else the lowest of 2, 6, 7, 8 and 9.
use Rattle.std.specs.Prelude.{Bool, true, false, not, ◌&&◌, ◌||◌, List, [], ◌∷◌, ℕ, leb, ltb, eqb, length, Err}
use Rattle.sparse.specs.Refusals.{refuse, lowest, Tested}
use Rattle.sparse.specs.declared.Refusal.TheVariants.{Size, Value, Zero, Outside, Order, Text}
use Rattle.triplets.specs.Triplets.{Triplet, triplet, before}
use Rattle.market.specs.Parse.{Read, nothing, got, Market, market}

-- the modulus, 2^31 - 1
unfoldable pub modulus : ℕ
modulus = 2147483647

-- f holds of some entry
unfoldable pub some : (Triplet → Bool) → List Triplet → Bool
some f [] = false
some f (t ∷ ts) = f t || some f ts

-- outside the shape: places count from 1
unfoldable pub outside : ℕ → ℕ → Triplet → Bool
outside nrows ncols t = eqb t.row 0 || ltb nrows t.row || eqb t.col 0 || ltb ncols t.col

-- each entry stands after the one before it by (row, column); the first after (0, 0), which is no place
unfoldable pub rises : Triplet → List Triplet → Bool
rises s [] = true
rises s (t ∷ ts) = before s t && rises t ts

-- 2, over 64 rows or columns, or over 1,024 entries; 6, a value is p or more; 7, a zero; 8; 9
unfoldable pub entries_test : ℕ → ℕ → List Triplet → Tested
entries_test nrows ncols ts =
    lowest
    (refuse (ltb 64 nrows || ltb 64 ncols || ltb 1024 (length ts)) Size
    ∷ refuse (some (λ t. leb modulus t.value) ts) Value
    ∷ refuse (some (λ t. eqb t.value 0) ts) Zero
    ∷ refuse (some (outside nrows ncols) ts) Outside
    ∷ refuse (not (rises (triplet 0 0 0) ts)) Order
    ∷ [])

-- a text that gets 15 gets nothing else
unfoldable pub read_test : Read Market → Tested
read_test nothing = Err Text
read_test (got m later) = entries_test m.nrows m.ncols m.entries

-- the test of a whole text
unfoldable pub market_test : List ℕ → Tested
market_test text = read_test (market text)
