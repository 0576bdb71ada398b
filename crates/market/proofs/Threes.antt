-- A line, number by number, and the size line, part by part.
-- Assumes nothing.
use Rattle.std.specs.Prelude.{None, Some, Option}
use mathlib.Core.Path.{◌≡◌}
use mathlib.Core.Bool.{true, false}
use mathlib.Core.List.{List}
use Prim.Native.Nat.{ℕ}
use lib.ListN.{drop}
use Rattle.triplets.specs.Triplets.{triplet}
use Rattle.market.specs.Grammar.{feed, space, banner}
use Rattle.market.specs.Parse.{nothing, got, past, uncomment, decimal_to, line, size_line, ◌then◌}
use Rattle.market.specs.Places.{front_read, number_read, line_read}
use Rattle.market.specs.declared.lines.Numbers.{Numbers}
use Rattle.market.specs.declared.lines.Parsed.{Parsed}

module _ (text : List ℕ) (at : ℕ) {a : Option Parsed} (row : number_read text a ≡ decimal_to 32 (drop at text)) where
  -- the first number is none,
  pub line_rowless : a ≡ None → nothing ≡ line (drop at text)
  unfolding line space number_read ◌then◌
  line_rowless e = rw (← row, e)

  module _ {i : Parsed} (had : a ≡ Some i) {b : Option Parsed} (col : number_read text b ≡ decimal_to 32 (drop i.next text)) where
    -- or the second,
    pub line_colless : b ≡ None → nothing ≡ line (drop at text)
    unfolding line space number_read ◌then◌
    line_colless e = rw (← row, had, ← col, e)

    module _ {j : Parsed} (has : b ≡ Some j) {d : Option Parsed} (value : number_read text d ≡ decimal_to 10 (drop j.next text)) where
      -- or the third,
      pub line_valueless : d ≡ None → nothing ≡ line (drop at text)
      unfolding line space feed number_read ◌then◌
      line_valueless e = rw (← row, had, ← col, has, ← value, e)

      -- or there are three
      pub line_three : {v : Parsed} → d ≡ Some v → got (triplet i.value j.value v.value) (drop v.next text) ≡ line (drop at text)
      unfolding line space feed number_read ◌then◌
      line_three e = rw (← row, had, ← col, has, ← value, e)

-- a text without the first line has no size line
pub unsized : (text : List ℕ) → front_read text 49 false ≡ past banner text → nothing ≡ size_line text
unfolding size_line front_read ◌then◌
unsized text q = rw (← q)

-- one with it has the line after the comments
pub sized : (text : List ℕ) (i : ℕ) (l : Option Numbers) → front_read text 49 true ≡ past banner text → drop i text ≡ uncomment false (drop 49 text) → line_read text l ≡ line (drop i text) → line_read text l ≡ size_line text
unfolding size_line front_read ◌then◌
sized text i l q r s = rw (← q, ← r) s
