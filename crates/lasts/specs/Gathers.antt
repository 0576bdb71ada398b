-- One way to gather all three: each index has a source, a row or the mark.
use Rattle.std.specs.Prelude.{ℕ, ◌-◌, cond, eqb, length, get_or, None, Some, Option}
use mathlib.Core.List.{List, [], ◌∷◌, flatten}
use Rattle.lists.specs.Onto.{◌onto◌}
use Rattle.lists.specs.Table.{table}
use Rattle.sparse.specs.Lent.{LentVector, lent_vector}
use Rattle.sparse.specs.Matrix.{Matrix}
use Rattle.sparse.specs.Pivots.{mark}
use Rattle.sparse.specs.Put.{cols_of, values_of}
use Rattle.sparse.specs.Rows.{Entry, entry}
use Rattle.lasts.specs.Lasts.{last_of}
use Rattle.lasts.specs.declared.gather.Order.{Order}
use Rattle.lasts.specs.declared.gather.Order.TheVariants.{ByRow, Reversed, ByPivot}

-- what a row holds in the last column
abbrev pub Last : Type 0
Last = Option ℕ

-- how many indices there are
unfoldable pub size_of : Order → ℕ → List ℕ → ℕ
size_of ByRow rows pivots = rows
size_of Reversed rows pivots = rows
size_of ByPivot rows pivots = length pivots

-- the row that is read for index k, or the mark
unfoldable pub source_of : Order → ℕ → List ℕ → ℕ → ℕ
source_of ByRow rows pivots k = k
source_of Reversed rows pivots k = rows - 1 - k
source_of ByPivot rows pivots k = get_or pivots k 0

-- what goes to index k
unfoldable pub taken_at : Order → Matrix → List ℕ → ℕ → List Entry
taken_at o m pivots k = cond (eqb (source_of o m.nrows pivots k) mark) [] (last_of m (source_of o m.nrows pivots k) k)

-- for each index what goes there
unfoldable pub taken : Order → Matrix → List ℕ → List (List Entry)
taken o m pivots = table (size_of o m.nrows pivots) (taken_at o m pivots)

-- and all of it
unfoldable pub gathered : Order → Matrix → List ℕ → List Entry
gathered o m pivots = flatten (taken o m pivots)

-- what was found, as the entry at index k
unfoldable pub held : Last → ℕ → List Entry
held None k = []
held (Some v) k = entry k v ∷ []

-- these entries at the front of lent memory
unfoldable pub put_entries : List Entry → LentVector → LentVector
put_entries es l = lent_vector (cols_of es onto l.idcs) (values_of es onto l.values)
