-- The account check: yes exactly if rows, their answers, U, L and pivots fit together as document 01 says.
use Rattle.walk.specs.Step.{Answer}
use Rattle.std.specs.Prelude.{ℕ, zero, suc, ◌+◌, ◌-◌, Bool, not, ◌||◌, cond, List, leb, eqb, length, get_or, None, Some}
use Rattle.lists.specs.Find.{any}
use Rattle.lists.specs.Table.{table}
use Rattle.sparse.specs.Matrix.{Matrix, matrix, row}
use Rattle.sparse.specs.Rows.{Entry, entries, row_at}
use Rattle.state.specs.Memory.{Memory}
use Rattle.state.specs.State.{u_fault}
use Rattle.steps.specs.History.{Told, told}
use Rattle.telling.specs.Answers.{none}
use Rattle.accounts.specs.Judgement.{judge_fault}

-- an account: the modulus, clean rows, an answer for each, U, L with values, and pivots
pub record Account : Type 0 where
  pub modulus : ℕ
  pub rows : Matrix
  pub answers : List ℕ
  pub memory : Memory

abbrev pub account : ℕ → Matrix → List ℕ → Memory → Account
account p rows answers m = record { modulus = p; rows = rows; answers = answers; memory = m }

-- a rule for rows without an L row, step 1: by the column count, the accepted count so far and the row
abbrev pub Rule : Type 0
Rule = ℕ → ℕ → List Entry → Bool

-- U, the whole slices; rows: pointers less one
unfoldable pub u_whole : Account → Matrix
u_whole a = matrix (length a.memory.u_ptrs - 1) a.rows.ncols a.memory.u_ptrs a.memory.u_cols a.memory.u_vals

-- how many rows L has
unfoldable pub l_count : Account → ℕ
l_count a = length a.memory.l_ptrs - 1

-- L's row j
unfoldable pub l_row : Account → ℕ → List Entry
l_row a j = row a.memory.l_ptrs (entries a.memory.l_cols a.memory.l_vals) j

-- the answer of row i, a number
unfoldable pub answer_at : Account → ℕ → ℕ
answer_at a i = get_or a.answers i 0

-- how many of the first i rows were accepted
unfoldable pub accepted_in : Account → ℕ → ℕ
accepted_in a zero = 0
accepted_in a (suc i) = accepted_in a i + cond (eqb (answer_at a i) none) 0 1

-- row i falls under step 1
unfoldable pub without : Rule → Account → ℕ → Bool
without rule a i = rule a.rows.ncols (accepted_in a i) (row_at a.rows i)

-- how many of the first i rows have an L row
unfoldable pub used_in : Rule → Account → ℕ → ℕ
used_in rule a zero = 0
used_in rule a (suc i) = used_in rule a i + cond (without rule a i) 0 1

-- what is wrong with row i: under step 1 another answer than None; else no L row is left, or the judgement with the next one
unfoldable pub row_fault : Rule → Account → ℕ → Bool
row_fault rule a i =
    cond (without rule a i)
    (not (eqb (answer_at a i) none))
    (leb (l_count a) (used_in rule a i) || judge_fault a.modulus (u_whole a) (accepted_in a i) (row_at a.rows i) (answer_at a i) (l_row a (used_in rule a i)))

-- U and pivots are no state, a row is wrong, or U or L has rows left over
unfoldable pub account_fault : Rule → Account → Bool
account_fault rule a =
    u_fault a.modulus (u_whole a) a.memory.pivots
    || any a.rows.nrows (row_fault rule a)
    || not (eqb (accepted_in a a.rows.nrows) (u_whole a).nrows)
    || not (eqb (used_in rule a a.rows.nrows) (l_count a))

-- the check's answer: yes
unfoldable pub is_account : Rule → Account → Bool
is_account rule a = not (account_fault rule a)

-- the answer that a number stands for
unfoldable pub answer_of : ℕ → Answer
answer_of v = cond (eqb v none) None (Some v)

-- the first i rows and what they were answered
unfoldable pub told_in : Account → ℕ → List Told
told_in a i = table i (λ e. told (row_at a.rows e) (answer_of (answer_at a e)))
