-- The table's clauses 1 to 7 of a matrix, as statements.
use Rattle.std.specs.Prelude.{◌≡◌, ◌⊎◌, ℕ, ◌+◌, ◌-◌, ◌≤◌, ◌<◌, List, length, get_or}
use Rattle.field.specs.Prime.{Prime}
use Rattle.sparse.specs.Matrix.{Matrix, row}
use Rattle.sparse.specs.declared.Refusal.{Refusal}
use Rattle.sparse.specs.declared.Refusal.TheVariants.{Modulus, Size, Shape, Pointer, Column, Value, Zero, Outside, Order, NotSquare, Mismatch, Positions, State, Room, Text}

-- P holds of some number below n
pub record Some (n : ℕ) (P : ℕ → Type 0) : Type 0 where
  pub place : ℕ
  pub within : place < n
  pub such : P place

-- row i's pointer falls, or passes the value count
abbrev pub BadPointer : Matrix → ℕ → Type 0
BadPointer m i = (get_or m.row_ptrs (i + 1) 0 < get_or m.row_ptrs i 0) ⊎ (length m.values < get_or m.row_ptrs (i + 1) 0)

-- an entry of a row has a column that is not below n, or not above the one before it
abbrev pub BadColumn : ℕ → List ℕ → Type 0
BadColumn n cols = Some (length cols) (λ k. (n ≤ get_or cols k 0) ⊎ ((0 < k) × (get_or cols k 0 ≤ get_or cols (k - 1) 0)))

abbrev pub BadRow : Matrix → ℕ → Type 0
BadRow m i = BadColumn m.ncols (row m.row_ptrs m.col_idcs i)

-- a row is the first bad one, and bad in this way
abbrev pub FirstBad : Matrix → (ℕ → Type 0) → Type 0
FirstBad m Bad = Some m.nrows (λ i. ((h : ℕ) → h < i → (BadPointer m h → ⊥) × (BadRow m h → ⊥)) × Bad i)

-- a value v with P v is stored
abbrev pub Stored : List ℕ → (ℕ → Type 0) → Type 0
Stored vals P = Some (length vals) (λ k. P (get_or vals k 0))

-- where each number's clause holds; for 4 and 5 the first bad row decides, 4 before 5 in it
abbrev pub Applies : ℕ → ℕ → Matrix → Refusal → Type 0
Applies limit p m Modulus = (Prime p × (p ≤ 2147483647)) → ⊥
Applies limit p m Size = ((1024 < m.nrows) ⊎ (1024 < m.ncols)) ⊎ (limit < length m.values)
Applies limit p m Shape =
    (((length m.col_idcs ≡ length m.values → ⊥) ⊎ (length m.row_ptrs ≡ m.nrows + 1 → ⊥)) ⊎ (get_or m.row_ptrs 0 0 ≡ 0 → ⊥))
    ⊎ (get_or m.row_ptrs m.nrows 0 ≡ length m.values → ⊥)
Applies limit p m Pointer = FirstBad m (BadPointer m)
Applies limit p m Column = FirstBad m (λ i. (BadPointer m i → ⊥) × BadRow m i)
Applies limit p m Value = Stored m.values (λ v. p ≤ v)
Applies limit p m Zero = Stored m.values (λ v. v ≡ 0)
Applies limit p m Outside = ⊥
Applies limit p m Order = ⊥
Applies limit p m NotSquare = ⊥
Applies limit p m Mismatch = ⊥
Applies limit p m Positions = ⊥
Applies limit p m State = ⊥
Applies limit p m Room = ⊥
Applies limit p m Text = ⊥
