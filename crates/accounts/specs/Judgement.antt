-- One row of an account that doesn't fall under step 1: its answer and its L row.
use Rattle.std.specs.Prelude.{ℕ, ◌-◌, ◌%◌, Bool, not, ◌&&◌, ◌||◌, cond, List, leb, ltb, eqb, length}
use Rattle.lists.specs.Find.{any}
use Rattle.sparse.specs.Matrix.{Matrix, value_at}
use Rattle.sparse.specs.Rows.{Entry}
use Rattle.state.specs.State.{head_of}
use Rattle.steps.specs.Rows.{value_of, entry_at, times}
use Rattle.telling.specs.Answers.{none}

-- a value that isn't in 1..p-1
unfoldable pub unstorable : ℕ → ℕ → Bool
unstorable p v = eqb v 0 || leb p v

-- entry i of an L row names no earlier U row, its pivot column isn't above that of the entry before it, or its value isn't in 1..p-1
unfoldable pub astray : ℕ → Matrix → ℕ → List Entry → ℕ → Bool
astray p u k l i =
    leb k (entry_at l i).col
    || ltb 0 i && leb (head_of u (entry_at l i).col) (head_of u (entry_at l (i - 1)).col)
    || unstorable p (entry_at l i).value

-- the last entry of an L row
unfoldable pub diagonal : List Entry → Entry
diagonal l = entry_at l (length l - 1)

-- the L row of an accepted row k: after entries that name earlier rows comes its own number with such a value
unfoldable pub diagonal_fault : ℕ → Matrix → ℕ → List Entry → Bool
diagonal_fault p u k l =
    eqb (length l) 0
    || any (length l - 1) (astray p u k l)
    || not (eqb (diagonal l).col k)
    || unstorable p (diagonal l).value

-- an answer that isn't the pivot column of the next U row, number k
unfoldable pub answer_fault : Matrix → ℕ → ℕ → Bool
answer_fault u k a = leb u.nrows k || not (eqb a (head_of u k))

-- in some column the L row times U isn't the row
unfoldable pub product_fault : ℕ → Matrix → List Entry → List Entry → Bool
product_fault p u l es = any u.ncols (λ j. not (eqb (times l (value_at u) j % p) (value_of es j)))

-- what is wrong with a row es that was met after k accepted rows, by its answer and its L row
unfoldable pub judge_fault : ℕ → Matrix → ℕ → List Entry → ℕ → List Entry → Bool
judge_fault p u k es a l =
    cond (eqb a none) (any (length l) (astray p u k l)) (answer_fault u k a || diagonal_fault p u k l)
    || product_fault p u l es
