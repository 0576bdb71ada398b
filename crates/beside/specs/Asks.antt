-- What the functions that write ask of their arguments: what the tests before them have shown.
use Rattle.std.specs.Prelude.{◌≡◌, List, ℕ, ◌+◌, ◌≤◌, ltb, length}
use Rattle.lists.specs.Find.{count}
use Rattle.lists.specs.Table.{table}
use Rattle.sparse.specs.Lent.{Lent}
use Rattle.sparse.specs.Matrix.{Matrix}
use Rattle.sparse.specs.Rows.{entries}
use Rattle.writing.specs.Asks.{RowPut, Readable, Roomy}
use Rattle.writing.specs.Puts.{Put}
use Rattle.joining.specs.Asks.{Strict}
use Rattle.beside.specs.Beside.{with_one, with_column}
use Rattle.beside.specs.Parts.{in_column}

-- what `append_identity` writes
pub record OnesFit (m : Matrix) (l : Lent) : Type 0 where
  pub from : Readable m
  pub narrow : m.ncols + m.nrows ≤ 1024
  pub rows : Roomy (table m.nrows (with_one m)) l

-- a cursor over indices that rise strictly stands behind those below i
pub record Cursor (idcs : List ℕ) (i next : ℕ) : Type 0 where
  pub strict : Strict idcs
  pub stands : next ≡ count (λ c. ltb c i) idcs

-- a row to which the vector's entry is joined
pub record ColumnRow (ptrs cols vals idcs nums : List ℕ) (n i next : ℕ) (s : Put) : Type 0 where
  pub cursor : Cursor idcs i next
  pub each : length idcs ≡ length nums
  pub writes : RowPut ptrs cols vals i (length (in_column n (entries idcs nums) i)) s

-- what `append_col` writes
pub record ColumnFits (m : Matrix) (idcs nums : List ℕ) (l : Lent) : Type 0 where
  pub from : Readable m
  pub strict : Strict idcs
  pub each : length idcs ≡ length nums
  pub rows : Roomy (table m.nrows (with_column m (entries idcs nums))) l
