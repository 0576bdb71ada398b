-- Document 01's numbers, and which of several is given.
use Rattle.std.specs.Prelude.{ℕ, zero, suc, Bool, true, false, List, [], ◌∷◌, Err, Ok, Result}
use Rattle.sparse.specs.declared.Refusal.{Refusal}
use Rattle.sparse.specs.declared.Refusal.TheVariants.{Modulus, Size, Shape, Pointer, Column, Value, Zero, Outside, Order, NotSquare, Mismatch, Positions, State, Room, Text}

-- what a test finds: nothing, or a refusal
abbrev pub Tested : Type 0
Tested = Result (Unit {0}) Refusal

-- the table's number of each refusal
unfoldable pub number : Refusal → ℕ
number Modulus = 1
number Size = 2
number Shape = 3
number Pointer = 4
number Column = 5
number Value = 6
number Zero = 7
number Outside = 8
number Order = 9
number NotSquare = 10
number Mismatch = 11
number Positions = 12
number State = 13
number Room = 14
number Text = 15

-- the refusal r exactly where its clause holds
unfoldable pub refuse : Bool → Refusal → Tested
refuse true r = Err r
refuse false r = Ok tt

infixr 20 ◌else◌
-- the first of two refusals
unfoldable pub ◌else◌ : Tested → Tested → Tested
Ok _ else t = t
Err r else t = Err r

-- the first refusal of a list that stands in the table's order: the lowest number that applies
unfoldable pub lowest : List Tested → Tested
lowest [] = Ok tt
lowest (t ∷ ts) = t else lowest ts

-- the first refusal of f 0, …, f (n - 1): the first bad row, or entry, decides
unfoldable pub first_of : ℕ → (ℕ → Tested) → Tested
first_of zero f = Ok tt
first_of (suc n) f = first_of n f else f n
