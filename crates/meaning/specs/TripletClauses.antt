-- The table's clauses of `from_triplets`, as statements.
use Rattle.std.specs.Prelude.{◌≡◌, ◌⊎◌, List, ℕ, ◌+◌, ◌-◌, ◌≤◌, ◌<◌, length}
use Rattle.field.specs.Prime.{Prime}
use Rattle.meaning.specs.Clauses.{Some, Stored}
use Rattle.sparse.specs.Lent.{Lent}
use Rattle.triplets.specs.Triplets.{Triplet, at, triplets}
use Rattle.sparse.specs.declared.Refusal.{Refusal}
use Rattle.sparse.specs.declared.Refusal.TheVariants.{Modulus, Size, Shape, Pointer, Column, Value, Zero, Outside, Order, NotSquare, Mismatch, Positions, State, Room, Text}

-- s stands before t by (row, column)
abbrev pub Before : Triplet → Triplet → Type 0
Before s t = (s.row < t.row) ⊎ ((s.row ≡ t.row) × (s.col < t.col))

-- some triplet lies outside the shape
abbrev pub SomeOutside : ℕ → ℕ → List Triplet → Type 0
SomeOutside nrows ncols ts = Some (length ts) (λ k. (nrows ≤ (at ts k).row) ⊎ (ncols ≤ (at ts k).col))

-- some triplet doesn't stand after the one before it
abbrev pub SomeFall : List Triplet → Type 0
SomeFall ts = Some (length ts) (λ k. (0 < k) × (Before (at ts (k - 1)) (at ts k) → ⊥))

-- the pointers or the entries don't fit
abbrev pub NoRoom : ℕ → ℕ → Lent → Type 0
NoRoom rows entries l = ((length l.row_ptrs < rows + 1) ⊎ (length l.col_idcs < entries)) ⊎ (length l.values < entries)

-- where each number's clause holds
abbrev pub TripletsApply : ℕ → ℕ → ℕ → List ℕ → List ℕ → List ℕ → Lent → Refusal → Type 0
TripletsApply p nrows ncols rows cols vals l Modulus = (Prime p × (p ≤ 2147483647)) → ⊥
TripletsApply p nrows ncols rows cols vals l Size = ((1024 < nrows) ⊎ (1024 < ncols)) ⊎ (65536 < length vals)
TripletsApply p nrows ncols rows cols vals l Shape = (length rows ≡ length vals → ⊥) ⊎ (length cols ≡ length vals → ⊥)
TripletsApply p nrows ncols rows cols vals l Pointer = ⊥
TripletsApply p nrows ncols rows cols vals l Column = ⊥
TripletsApply p nrows ncols rows cols vals l Value = Stored vals (λ v. p ≤ v)
TripletsApply p nrows ncols rows cols vals l Zero = ⊥
TripletsApply p nrows ncols rows cols vals l Outside = SomeOutside nrows ncols (triplets rows cols vals)
TripletsApply p nrows ncols rows cols vals l Order = SomeFall (triplets rows cols vals)
TripletsApply p nrows ncols rows cols vals l NotSquare = ⊥
TripletsApply p nrows ncols rows cols vals l Mismatch = ⊥
TripletsApply p nrows ncols rows cols vals l Positions = ⊥
TripletsApply p nrows ncols rows cols vals l State = ⊥
TripletsApply p nrows ncols rows cols vals l Room = NoRoom nrows (length vals) l
TripletsApply p nrows ncols rows cols vals l Text = ⊥
