-- U and L with one row more.
use Rattle.std.specs.Prelude.{ℕ, ◌+◌, List, length, set}
use Rattle.sparse.specs.Put.{cols_of, values_of}
use Rattle.sparse.specs.Rows.{Entry}
use Rattle.state.specs.declared.Mode.{Mode}
use Rattle.state.specs.declared.Mode.TheVariants.{Full, Pattern, None}
use Rattle.writing.specs.Puts.{put_at}

-- U's lists, and the pivot table
pub record Upper : Type 0 where
  pub cols : List ℕ
  pub vals : List ℕ
  pub ptrs : List ℕ
  pub pivots : List ℕ

abbrev pub upper : List ℕ → List ℕ → List ℕ → List ℕ → Upper
upper cols vals ptrs pivots = record { cols = cols; vals = vals; ptrs = ptrs; pivots = pivots }

-- a row more in U: its entries from the fill on, the next pointer, and its number at its head's column
unfoldable pub with_u : ℕ → ℕ → ℕ → List Entry → Upper → Upper
with_u rank fill head es u =
    upper (put_at fill (cols_of es) u.cols) (put_at fill (values_of es) u.vals) (set u.ptrs (rank + 1) (fill + length es)) (set u.pivots head rank)

-- L's lists
pub record Lower : Type 0 where
  pub cols : List ℕ
  pub vals : List ℕ
  pub ptrs : List ℕ

abbrev pub lower : List ℕ → List ℕ → List ℕ → Lower
lower cols vals ptrs = record { cols = cols; vals = vals; ptrs = ptrs }

-- a row more in L, by what is kept of it
unfoldable pub with_l : Mode → ℕ → ℕ → List Entry → Lower → Lower
with_l Full rows fill es l = lower (put_at fill (cols_of es) l.cols) (put_at fill (values_of es) l.vals) (set l.ptrs (rows + 1) (fill + length es))
with_l Pattern rows fill es l = lower (put_at fill (cols_of es) l.cols) l.vals (set l.ptrs (rows + 1) (fill + length es))
with_l None rows fill es l = l

-- how many entries that is
unfoldable pub kept_entries : Mode → List Entry → ℕ
kept_entries Full es = length es
kept_entries Pattern es = length es
kept_entries None es = 0
