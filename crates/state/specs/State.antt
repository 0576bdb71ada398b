-- When reducer memory is a state: what 13 is given for otherwise.
use Rattle.std.specs.Prelude.{ℕ, ◌+◌, Bool, not, ◌&&◌, ◌||◌, List, leb, ltb, eqb, get_or, take, is_err}
use Rattle.lists.specs.Find.{any}
use Rattle.sparse.specs.Matrix.{Matrix, matrix}
use Rattle.sparse.specs.Pivots.{mark}
use Rattle.sparse.specs.Refusals.{refuse, Tested}
use Rattle.sparse.specs.Tests.{clean, values_test}
use Rattle.sparse.specs.declared.Refusal.TheVariants.{State}
use Rattle.sparse.specs.declared.inside.Clause.TheVariants.{Residue, Nonzero}
use Rattle.state.specs.Memory.{Memory, places}
use Rattle.state.specs.declared.Counts.{Counts}
use Rattle.state.specs.declared.Mode.{Mode}
use Rattle.state.specs.declared.Mode.TheVariants.{Full, Pattern, None}

-- the column of row r's head, its first entry
unfoldable pub head_of : Matrix → ℕ → ℕ
head_of u r = get_or u.col_idcs (get_or u.row_ptrs r 0) 0

-- row r is empty, its head isn't 1, or the pivot table doesn't hold r at its head's column
unfoldable pub headless : Matrix → List ℕ → ℕ → Bool
headless u pivots r =
    leb (get_or u.row_ptrs (r + 1) 0) (get_or u.row_ptrs r 0)
    || not (eqb (get_or u.values (get_or u.row_ptrs r 0) 0) 1)
    || not (eqb (get_or pivots (head_of u r) 0) r)

-- the pivot table has at column j neither the mark nor a row whose head is there
unfoldable pub misplaced : Matrix → List ℕ → ℕ → Bool
misplaced u pivots j = not (eqb (get_or pivots j 0) mark) && (leb u.nrows (get_or pivots j 0) || not (eqb (head_of u (get_or pivots j 0)) j))

-- U isn't clean, or the pivot table isn't that of its heads
unfoldable pub u_fault : ℕ → Matrix → List ℕ → Bool
u_fault p u pivots = is_err (clean 1048576 p u) || any u.nrows (headless u pivots) || any u.ncols (misplaced u pivots)

-- U's rows or entries pass their places
unfoldable pub u_lost : ℕ → ℕ → List ℕ → List ℕ → List ℕ → Bool
u_lost rank fill cols vals ptrs = leb (places ptrs) rank || ltb (places cols) fill || ltb (places vals) fill

-- so many rows and entries of U
unfoldable pub u_rows : ℕ → ℕ → ℕ → List ℕ → List ℕ → List ℕ → Matrix
u_rows n rank fill cols vals ptrs = matrix rank n (take (rank + 1) ptrs) (take fill cols) (take fill vals)

-- pointers don't start at 0, fall, or don't end at the fill
unfoldable pub crooked : ℕ → ℕ → List ℕ → Bool
crooked rows fill ptrs = not (eqb (get_or ptrs 0 0) 0) || any rows (λ i. ltb (get_or ptrs (i + 1) 0) (get_or ptrs i 0)) || not (eqb (get_or ptrs rows 0) fill)

-- L's rows or columns pass their places, its pointers are crooked, or a column isn't below the rank
unfoldable pub pattern_fault : ℕ → ℕ → ℕ → List ℕ → List ℕ → Bool
pattern_fault rank rows fill cols ptrs =
    leb (places ptrs) rows
    || ltb (places cols) fill
    || crooked rows fill ptrs
    || any fill (λ k. leb rank (get_or cols k 0))

-- L's values pass their places, or one isn't in 1..p-1
unfoldable pub values_fault : ℕ → ℕ → List ℕ → Bool
values_fault p fill vals =
    ltb (places vals) fill
    || is_err (values_test Residue p (take fill vals))
    || is_err (values_test Nonzero p (take fill vals))

-- L, by what is kept of it
unfoldable pub l_fault : Mode → Counts → List ℕ → List ℕ → List ℕ → Bool
l_fault Full c cols vals ptrs = pattern_fault c.rank c.l_rows c.l_fill cols ptrs || values_fault c.modulus c.l_fill vals
l_fault Pattern c cols vals ptrs = pattern_fault c.rank c.l_rows c.l_fill cols ptrs
l_fault None c cols vals ptrs = not (eqb c.l_rows 0) || not (eqb c.l_fill 0)

-- U, as the counts say
unfoldable pub u_of : Counts → Memory → Matrix
u_of c m = u_rows c.ncols c.rank c.u_fill m.u_cols m.u_vals m.u_ptrs

-- 13
unfoldable pub state_test : Counts → Memory → Tested
state_test c m =
    refuse
    (u_lost c.rank c.u_fill m.u_cols m.u_vals m.u_ptrs
    || u_fault c.modulus (u_of c m) m.pivots
    || l_fault c.mode c m.l_cols m.l_vals m.l_ptrs)
    State
