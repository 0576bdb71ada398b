-- The reader reads what the grammar accepts, and nothing else.
-- Assumes nothing.
use mathlib.Core.Path.{◌≡◌}
use mathlib.Core.Logic.{◌↔◌}
use mathlib.Core.List.{List, []}
use Prim.Native.Nat.{ℕ}
use Rattle.triplets.specs.Triplets.{Triplet}
use Rattle.market.specs.Grammar.{Text}
use Rattle.market.specs.Parse.{got, market_of, market}
use Rattle.market.proofs.Accepts.{reads_complete}
use Rattle.market.proofs.Spells.{reads_sound}

pub reads_exactly : (text : List ℕ) (nrows ncols : ℕ) (ts : List Triplet) → (market text ≡ got (market_of nrows ncols ts) []) ↔ Text text nrows ncols ts
reads_exactly text nrows ncols ts = (reads_sound text (market_of nrows ncols ts), reads_complete text nrows ncols ts)
