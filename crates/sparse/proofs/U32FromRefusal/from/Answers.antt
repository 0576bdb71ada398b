-- `from` gives the table's number: the variants stand in the table's order.
-- Assumes nothing.
use mathlib.Core.Path.{◌≡◌, refl}
use Prim.Native.Nat.{◌+◌}
use native.Mathlib.Omega.{arith}
use denote.Enum.Declared.{tag_of}
use Rattle.sparse.specs.Refusals.{number}
use Rattle.sparse.specs.contracts.Refusal.{the_type}
use Rattle.sparse.specs.declared.Refusal.{Refusal}
use Rattle.sparse.specs.declared.Refusal.TheVariants.{Modulus, Size, Shape, Pointer, Column, Value, Zero, Outside, Order, NotSquare, Mismatch, Positions, State, Room, Text}
use Rattle.sparse.proofs.U32FromRefusal.from.Goals as goal

numbered : (why : Refusal) → tag_of the_type why + 1 ≡ number why
unfolding number
numbered Modulus = refl
numbered Size = refl
numbered Shape = refl
numbered Pointer = refl
numbered Column = refl
numbered Value = refl
numbered Zero = refl
numbered Outside = refl
numbered Order = refl
numbered NotSquare = refl
numbered Mismatch = refl
numbered Positions = refl
numbered State = refl
numbered Room = refl
numbered Text = refl

pub returns : goal.returns
returns c = omega (arith, numbered c.args.why)
