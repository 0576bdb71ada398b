-- What is wrong with the entries of an L row.
use Rattle.std.specs.Prelude.{Bool, ◌||◌, cond, List, ℕ, eqb, length}
use Rattle.lists.specs.Find.{any}
use Rattle.sparse.specs.Matrix.{Matrix}
use Rattle.sparse.specs.Rows.{Entry}
use Rattle.telling.specs.Answers.{none}
use Rattle.accounts.specs.Judgement.{astray, diagonal_fault, answer_fault}

-- by the row's answer: an entry is astray; or the answer or the diagonal is wrong
unfoldable pub entries_fault : ℕ → Matrix → ℕ → ℕ → List Entry → Bool
entries_fault p u k a l = cond (eqb a none) (any (length l) (astray p u k l)) (answer_fault u k a || diagonal_fault p u k l)
