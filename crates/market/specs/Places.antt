-- A place in the text, as what is left of the text there.
use Rattle.std.specs.Prelude.{Bool, true, false, List, [], ℕ, drop, None, Some, Option}
use Rattle.triplets.specs.Triplets.{Triplet, triplet}
use Rattle.market.specs.Parse.{Read, nothing, got}
use Rattle.market.specs.declared.lines.Parsed.{Parsed}
use Rattle.market.specs.declared.lines.Numbers.{Numbers}

-- a number, and what is left after it
unfoldable pub number_read : List ℕ → Option Parsed → Read ℕ
number_read text (Some n) = got n.value (drop n.next text)
number_read text None = nothing

-- three numbers, and what is left after their line
unfoldable pub line_read : List ℕ → Option Numbers → Read Triplet
line_read text (Some t) = got (triplet t.row t.col t.value) (drop t.next text)
line_read text None = nothing

-- the list that was read
unfoldable pub listed : Read (List Triplet) → List Triplet
listed nothing = []
listed (got ts later) = ts

-- the front of so many bytes, where it stands there, and what is left after it
unfoldable pub front_read : List ℕ → ℕ → Bool → Read Bool
front_read text many true = got true (drop many text)
front_read text many false = nothing
