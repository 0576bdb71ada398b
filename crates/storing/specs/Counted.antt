-- How much was written, and the list afterwards.
use Rattle.std.specs.Prelude.{ℕ, List, length}
use Rattle.lists.specs.Onto.{◌onto◌}
use Rattle.sparse.specs.Put.{cols_of, values_of}
use Rattle.sparse.specs.Rows.{Entry}
use Rattle.state.specs.declared.Mode.{Mode}
use Rattle.state.specs.declared.Mode.TheVariants.{Full, Pattern, None}

pub record Counted : Type 0 where
  pub len : ℕ
  pub list : List ℕ

abbrev pub counted : ℕ → List ℕ → Counted
counted n xs = record { len = n; list = xs }

-- the same of a row: its columns and values
pub record Stored : Type 0 where
  pub len : ℕ
  pub cols : List ℕ
  pub vals : List ℕ

abbrev pub stored : ℕ → List ℕ → List ℕ → Stored
stored n cols vals = record { len = n; cols = cols; vals = vals }

-- a row written to the front of lent columns and values
unfoldable pub stored_row : List Entry → List ℕ → List ℕ → Stored
stored_row es cols vals = stored (length es) (cols_of es onto cols) (values_of es onto vals)

-- a row of L, by what is kept of it
unfoldable pub kept_row : Mode → List Entry → List ℕ → List ℕ → Stored
kept_row Full es cols vals = stored_row es cols vals
kept_row Pattern es cols vals = stored (length es) (cols_of es onto cols) vals
kept_row None es cols vals = stored 0 cols vals
