-- What the functions that write rows ask of their arguments.
use Rattle.std.specs.Prelude.{◌≡◌, true, false, ℕ, ◌≤◌, ◌<◌, List, length, get_or}
use Rattle.field.specs.Prime.{is_modulus}
use Rattle.state.specs.Fresh.{keeps}
use Rattle.state.specs.declared.Mode.{Mode}
use Rattle.state.specs.declared.Mode.TheVariants.{Full}
use Rattle.walk.specs.Left.{over, rest_of}
use Rattle.walk.specs.Step.{divided}
use Rattle.storing.specs.Gathers.{stands, gathered, part_of, l_row}
use Rattle.storing.specs.declared.Part.{Part}

-- columns from a to b, nothing standing before a, and room for what is gathered
pub record Gathers (part : Part) (pivots dense : List ℕ) (limit a b : ℕ) (out : List ℕ) : Type 0 where
  pub rises : a ≤ b
  pub narrow : b ≤ 1024
  pub columns : b ≤ length dense
  pub table : b ≤ length pivots
  pub before : (j : ℕ) → j < a → stands part pivots dense limit j ≡ false
  pub room : length (gathered part pivots dense limit b) ≤ length out

-- one column of them
pub record AtColumn (table row : List ℕ) (j : ℕ) : Type 0 where
  pub narrow : j < 1024
  pub column : j < length row
  pub pivot : j < length table

-- columns of residues modulo p, and room for as many
pub record Scales (p f : ℕ) (dense cols out : List ℕ) : Type 0 where
  pub factor : f < p
  pub below : (k : ℕ) → k < length cols → get_or cols k 0 < length dense
  pub small : (j : ℕ) → j < length dense → get_or dense j 0 < p
  pub room : length cols ≤ length out

-- a walk's end with a head, and room for the row of U
pub record Heads (p : ℕ) (pivots dense : List ℕ) (limit head : ℕ) (cols vals : List ℕ) : Type 0 where
  pub modulus : is_modulus p ≡ true
  pub narrow : length dense ≤ 1024
  pub table : length dense ≤ length pivots
  pub small : (j : ℕ) → j < length dense → get_or dense j 0 < p
  pub within : head < length dense
  pub nonzero : get_or dense head 0 ≡ 0 → ⊥
  pub free : over pivots limit head ≡ false
  pub before : (j : ℕ) → j < head → rest_of pivots limit dense j ≡ 0
  pub columns : length (divided p (length dense) (rest_of pivots limit dense) head) ≤ length cols
  pub numbers : length (divided p (length dense) (rest_of pivots limit dense) head) ≤ length vals

-- a walk's end, nothing before `from`, and room for a part of L's row
pub record Ends (part : Part) (pivots dense : List ℕ) (top from head last : ℕ) (out : List ℕ) : Type 0 where
  pub narrow : length dense ≤ 1024
  pub table : length dense ≤ length pivots
  pub limit : top ≤ length dense
  pub rises : from ≤ top
  pub before : (j : ℕ) → j < from → get_or dense j 0 ≡ 0
  pub room : length (part_of part pivots dense top head last) ≤ length out

-- the same for the whole row of L, by what is kept of it
pub record Keeps (mode : Mode) (pivots dense : List ℕ) (top from head rank : ℕ) (cols vals : List ℕ) : Type 0 where
  pub narrow : length dense ≤ 1024
  pub table : length dense ≤ length pivots
  pub limit : top ≤ length dense
  pub rises : from ≤ top
  pub before : (j : ℕ) → j < from → get_or dense j 0 ≡ 0
  pub columns : keeps mode ≡ true → length (l_row pivots dense top head rank) ≤ length cols
  pub numbers : mode ≡ Full → length (l_row pivots dense top head rank) ≤ length vals
