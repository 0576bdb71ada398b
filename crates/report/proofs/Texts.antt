-- A text that passed its tests: its size line is there, and its entries follow it to the end.
-- Assumes nothing.
use Rattle.std.specs.Prelude.{None, Ok, Option, Some}
use mathlib.Core.Path.{◌≡◌, refl, sym, ap, ◌∙◌}
use mathlib.Core.Bool.{Bool, true, false}
use mathlib.Core.List.{List, [], ◌∷◌}
use Prim.Native.Nat.{ℕ}
use native.Mathlib.Omega.{arith}
use lib.Dec.{ltb}
use lib.ListN.{length, drop}
use Rattle.triplets.specs.Triplets.{Triplet, triplet}
use Rattle.market.specs.Parse.{Read, nothing, got, ◌then◌, lines, size_line, Market, market_of, whole, market}
use Rattle.market.specs.Places.{line_read, listed}
use Rattle.market.specs.Tests.{read_test, market_test}
use Rattle.market.specs.declared.lines.Numbers.{Numbers}
use Rattle.reporting.specs.Said.{entries_of, said_by, Passed}
use Rattle.report.specs.Report.{said}

-- what follows a size line
abbrev rest : Triplet → List ℕ → Read Market
rest s later = lines s.value later then λ ts end. got (market_of s.row s.col ts) end

-- the entries that it says, to the end
record Sayings (s : Triplet) (later : List ℕ) : Type 0 where
  ts : List Triplet
  read : lines s.value later ≡ got ts []
  says : whole (rest s later) ≡ got (market_of s.row s.col ts) []

unread : {A : Type 0} → read_test nothing ≡ Ok tt → A
unfolding read_test
unread e = let z : ◌≡◌ {A = ℕ} 0 1 = cc in absurd (omega arith)

sayings : (s : Triplet) (later : List ℕ) → read_test (whole (rest s later)) ≡ Ok tt → Sayings s later
unfolding ◌then◌ whole
sayings s later good = go (lines s.value later) refl good
  where
    go : (r : Read (List Triplet)) → lines s.value later ≡ r → read_test (whole (r then λ ts end. got (market_of s.row s.col ts) end)) ≡ Ok tt → Sayings s later
    go nothing e g = unread g
    go (got ts []) e g = record { ts = ts; read = e; says = ap (λ (r : Read (List Triplet)). whole (r then λ ts end. got (market_of s.row s.col ts) end)) e }
    go (got ts (b ∷ bs)) e g = unread g

-- a text within 32 KiB
abbrev by : List ℕ → Bool → Read Market
by text b = elim b [ true ↦ nothing | false ↦ whole (size_line text then rest) ]

short : (text : List ℕ) → market_test text ≡ Ok tt → market text ≡ whole (size_line text then rest)
unfolding market_test market
short text good = go (ltb 32768 (length text)) refl good
  where
    go : (b : Bool) → ltb 32768 (length text) ≡ b → read_test (by text b) ≡ Ok tt → by text b ≡ whole (size_line text then rest)
    go true e g = unread g
    go false e g = refl

module _ (text : List ℕ) (good : market_test text ≡ Ok tt) (r : Option Numbers) (read : line_read text r ≡ size_line text) where
  ends : read_test (whole (line_read text r then rest)) ≡ Ok tt
  unfolding market_test
  ends = rw (read, ← short text good) good

  -- there is a size line
  pub size_there : r ≡ None → ⊥
  unfolding line_read ◌then◌ whole
  size_there e = unread (rw e at ends)

  module _ {size : Numbers} (three : r ≡ Some size) where
    abbrev s : Triplet
    s = triplet size.row size.col size.value

    abbrev later : List ℕ
    later = drop size.next text

    says : Sayings s later
    unfolding line_read ◌then◌
    says = sayings s later (rw three at ends)

    entries_are : entries_of text size ≡ says.ts
    unfolding entries_of listed
    entries_are = ap listed says.read

    market_is : market text ≡ got (said_by text size) []
    unfolding said_by line_read ◌then◌
    market_is = short text good ∙ ap (λ (x : Read Triplet). whole (x then rest)) (sym read ∙ ap (line_read text) three) ∙ says.says ∙ ap (λ (ts : List Triplet). got (market_of size.row size.col ts) []) (sym entries_are)

    pub size_said : said (market text) ≡ said_by text size
    unfolding said
    size_said = ap said market_is

    pub size_passed : Passed text size
    unfolding market_test read_test said_by
    size_passed = record { good = rw market_is at good; read = says.read ∙ ap (λ (ts : List Triplet). got ts []) (sym entries_are) }
