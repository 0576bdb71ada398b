-- The tests of the entries in one pass over their lines. That this is `market_test` is proofs/Passes.antt's `pass_tests`.
use Rattle.std.specs.Prelude.{Bool, false, not, ◌||◌, List, [], ◌∷◌, ℕ, leb, ltb, eqb, None, Some, Option}
use Rattle.sparse.specs.Refusals.{refuse, lowest, Tested}
use Rattle.sparse.specs.declared.Refusal.TheVariants.{Size, Value, Zero, Outside, Order}
use Rattle.triplets.specs.Triplets.{Triplet, triplet, before}
use Rattle.market.specs.Parse.{Read, nothing, got, lines, ◌then◌}
use Rattle.market.specs.Tests.{modulus, outside}
use Rattle.market.specs.declared.tests.Faults.{Faults}

-- what the lines are found to be
abbrev pub Walked : Type 0
Walked = Option Faults

-- before the first entry: its last place is (0, 0), which is no place
unfoldable pub none : Faults
none = record { large = false; zero = false; outside = false; order = false; row = 0; col = 0 }

-- the faults with those of one entry more
unfoldable pub note : ℕ → ℕ → Faults → Triplet → Faults
note nrows ncols f t = record {
  large = f.large || leb modulus t.value;
  zero = f.zero || eqb t.value 0;
  outside = f.outside || outside nrows ncols t;
  order = f.order || not (before (triplet f.row f.col 0) t);
  row = t.row;
  col = t.col;
}

-- the faults with those of more entries
unfoldable pub note_all : ℕ → ℕ → Faults → List Triplet → Faults
note_all nrows ncols f [] = f
note_all nrows ncols f (t ∷ ts) = note_all nrows ncols (note nrows ncols f t) ts

-- 2: over 64 rows or columns, or over 1,024 entries
unfoldable pub oversize : ℕ → ℕ → ℕ → Bool
oversize nrows ncols count = ltb 64 nrows || ltb 64 ncols || ltb 1024 count

-- the lowest that applies
unfoldable pub verdict_of : ℕ → ℕ → ℕ → Faults → Tested
verdict_of nrows ncols count f =
    lowest
    (refuse (oversize nrows ncols count) Size
    ∷ refuse f.large Value
    ∷ refuse f.zero Zero
    ∷ refuse f.outside Outside
    ∷ refuse f.order Order
    ∷ [])

-- the faults with those of so many lines, and what is left after them
unfoldable pub walk_on : ℕ → ℕ → Faults → ℕ → List ℕ → Read Faults
walk_on nrows ncols f count bs = lines count bs then λ ts end. got (note_all nrows ncols f ts) end

-- the faults of a text with nothing after its lines
unfoldable pub walk_read : Walked → Read Faults
walk_read (Some f) = got f []
walk_read None = nothing
