-- The program's output: rank, determinant and U, a line each.
use Rattle.solving.specs.Solve.{Worth}
use Rattle.std.specs.Prelude.{ℕ, ◌+◌, List, [], ◌∷◌, ◌++◌, take, None, Some}
use Rattle.sparse.specs.Matrix.{Matrix, matrix}
use Rattle.text.specs.Decimals.{decimal}
use Rattle.text.specs.Mma.{matrix_text}
use Rattle.state.specs.Memory.{Memory}
use Rattle.state.specs.declared.Counts.{Counts}
use Rattle.solving.specs.declared.Solved.{Solved}

-- U, a matrix of as many rows as its rank
unfoldable pub upper_of : Counts → Memory → Matrix
upper_of c m = matrix c.rank c.ncols (take (c.rank + 1) m.u_ptrs) (take c.u_fill m.u_cols) (take c.u_fill m.u_vals)

-- the determinant, or `none` where the matrix isn't square
unfoldable pub worth_text : Worth → List ℕ
worth_text (Some v) = decimal v
worth_text None = 110 ∷ 111 ∷ 110 ∷ 101 ∷ []

-- rank R and det D, a line each
unfoldable pub heading : ℕ → Worth → List ℕ
heading rank det = 114 ∷ 97 ∷ 110 ∷ 107 ∷ 32 ∷ decimal rank ++ 10 ∷ 100 ∷ 101 ∷ 116 ∷ 32 ∷ worth_text det ++ 10 ∷ []

-- and then U
unfoldable pub report_text : Solved → Memory → List ℕ
report_text s m = heading s.counts.rank s.det ++ (matrix_text (upper_of s.counts m) ++ 10 ∷ [])
