-- One row against U: document 01's steps 3 and 4.
use Rattle.std.specs.Prelude.{ℕ, zero, suc, ◌+◌, ◌-◌, ◌*◌, ◌%◌, Bool, true, false, not, ◌&&◌, ◌||◌, cond, List, [], ◌∷◌, ◌++◌, map, eqb, get_or, None, Some, Option}
use Rattle.lists.specs.Find.{count, keep}
use Rattle.lists.specs.Table.{table}
use Rattle.field.specs.Inverse.{inverse}
use Rattle.sparse.specs.Matrix.{row, value_in}
use Rattle.sparse.specs.Pivots.{mark}
use Rattle.sparse.specs.Put.{cols_of, values_of}
use Rattle.sparse.specs.Rows.{Entry, entry}

-- a row's answer: the column where it was accepted, or None
abbrev pub Answer : Type 0
Answer = Option ℕ

-- U as a row meets it: the value of row r at column j, and the pivot table
pub record Upper : Type 0 where
  pub value : ℕ → ℕ → ℕ
  pub pivots : List ℕ

-- U, from its lists
unfoldable pub upper : List ℕ → List ℕ → List ℕ → List ℕ → Upper
upper cols vals ptrs pivots = record { value = λ r j. value_in (row ptrs cols r) (row ptrs vals r) j; pivots = pivots }

-- the row whose pivot stands at column c, or the mark
unfoldable pub pivot_at : List ℕ → ℕ → ℕ
pivot_at pivots c = get_or pivots c 0

-- the answer is None
unfoldable pub is_none : Answer → Bool
is_none None = true
is_none (Some c) = false

-- a row on its way up through the columns: what is left of it, its L row and its answer, so far
pub record Way : Type 0 where
  pub rest : ℕ → ℕ
  pub l : List Entry
  pub answer : Answer

abbrev pub way : (ℕ → ℕ) → List Entry → Answer → Way
way x l a = record { rest = x; l = l; answer = a }

-- subtract that multiple of the pivot row and append (pivot row, multiple) to L
unfoldable pub subtract : ℕ → Upper → ℕ → Way → Way
subtract p u c w =
    way (λ j. (w.rest j + (p - w.rest c) * u.value (pivot_at u.pivots c) j) % p)
    (w.l ++ (entry (pivot_at u.pivots c) (w.rest c) ∷ []))
    w.answer

-- at the first nonzero entry with no pivot the row is accepted
unfoldable pub accept : ℕ → Way → Way
accept c w = way w.rest w.l (cond (is_none w.answer) (Some c) w.answer)

-- there the first walk stops; the second goes on
unfoldable pub stopped : Bool → Way → Bool
stopped on w = not on && not (is_none w.answer)

-- column c
unfoldable pub at : Bool → ℕ → Upper → ℕ → Way → Way
at on p u c w = cond (stopped on w || eqb (w.rest c) 0) w (cond (eqb (pivot_at u.pivots c) mark) (accept c w) (subtract p u c w))

-- up through the first n columns
unfoldable pub climb : Bool → ℕ → Upper → ℕ → Way → Way
climb on p u zero w = w
climb on p u (suc c) w = at on p u c (climb on p u c w)

-- what a row comes to: its answer, its row of U (none where the answer is None) and its row of L
pub record Taken : Type 0 where
  pub answer : Answer
  pub u : List Entry
  pub l : List Entry

abbrev pub taken : Answer → List Entry → List Entry → Taken
taken a u l = record { answer = a; u = u; l = l }

-- divide by the head, store without zeros
unfoldable pub divided : ℕ → ℕ → (ℕ → ℕ) → ℕ → List Entry
divided p n x h = keep (λ e. not (eqb e.value 0)) (table n (λ j. entry j (x j * inverse p (x h) % p)))

-- at the end: accepted, with (new row number, head) last in L; or None, and L's row has no diagonal
unfoldable pub ended : ℕ → ℕ → ℕ → Answer → Way → Taken
ended p n rank (Some h) w = taken (Some h) (divided p n w.rest h) (w.l ++ (entry rank (w.rest h) ∷ []))
ended p n rank None w = taken None [] w.l

-- the row itself, at its start
unfoldable pub start : List Entry → Way
start es = way (value_in (cols_of es) (values_of es)) [] None

-- step 4
unfoldable pub walked : Bool → ℕ → ℕ → ℕ → Upper → List Entry → Taken
walked on p n rank u es = ended p n rank (climb on p u n (start es)).answer (climb on p u n (start es))

-- the row goes to U divided by its head; L gets the head on the diagonal
unfoldable pub copied : ℕ → ℕ → List Entry → Taken
copied p rank [] = taken None [] []
copied p rank (e ∷ es) = taken (Some e.col) (map (λ d. entry d.col (d.value * inverse p e.value % p)) (e ∷ es)) (entry rank e.value ∷ [])

-- step 3 is for a head column with no pivot; in the second walk only if no entry at all stands over a pivot
unfoldable pub direct : Bool → Upper → List Entry → Bool
direct on u [] = false
direct false u (e ∷ es) = eqb (pivot_at u.pivots e.col) mark
direct true u (e ∷ es) = eqb (count (λ d. not (eqb (pivot_at u.pivots d.col) mark)) (e ∷ es)) 0

-- steps 3 and 4
unfoldable pub step : Bool → ℕ → ℕ → ℕ → Upper → List Entry → Taken
step on p n rank u es = cond (direct on u es) (copied p rank es) (walked on p n rank u es)
