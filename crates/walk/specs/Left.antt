-- What a walk leaves in dense memory: over pivots below a limit the multiples, elsewhere what is left of the row.
use Rattle.std.specs.Prelude.{◌≡◌, ℕ, ◌≤◌, ◌<◌, Bool, true, false, not, ◌&&◌, cond, List, ltb, eqb, length, get_or, None, Some}
use Rattle.lists.specs.Gather.{gather}
use Rattle.sparse.specs.Pivots.{mark}
use Rattle.sparse.specs.Rows.{Entry, entry}
use Rattle.walk.specs.Step.{Upper, pivot_at, Way, Answer}

-- column j is below the limit, over a pivot
unfoldable pub over : List ℕ → ℕ → ℕ → Bool
over pivots limit j = ltb j limit && not (eqb (pivot_at pivots j) mark)

-- what is left of the row at column j
unfoldable pub rest_of : List ℕ → ℕ → List ℕ → ℕ → ℕ
rest_of pivots limit dense j = cond (over pivots limit j) 0 (get_or dense j 0)

-- the L row: the multiples below the limit, in pivot column order
unfoldable pub multiples : List ℕ → ℕ → List ℕ → List Entry
multiples pivots limit dense = gather (λ j. not (eqb (pivot_at pivots j) mark) && not (eqb (get_or dense j 0) 0)) (λ j. entry (pivot_at pivots j) (get_or dense j 0)) limit

-- the answer, by the head's column; none where that is n
unfoldable pub answer_of : ℕ → ℕ → Answer
answer_of n head = cond (ltb head n) (Some head) None

-- up to where pivots hold multiples: the head, where the first walk stops; all n columns in the second
unfoldable pub limit_of : Bool → ℕ → ℕ → ℕ
limit_of true n head = n
limit_of false n head = head

-- a walk w of n columns that has left dense memory so
pub record Left (p n limit : ℕ) (u : Upper) (w : Way) (dense : List ℕ) (head : ℕ) : Type 0 where
  pub long : length dense ≡ n
  pub small : (j : ℕ) → j < n → get_or dense j 0 < p
  pub rest : (j : ℕ) → j < n → w.rest j ≡ rest_of u.pivots limit dense j
  pub l : w.l ≡ multiples u.pivots limit dense
  pub answer : w.answer ≡ answer_of n head

-- the same of a row whose first entry stands at column `from`: nothing is left before it
pub record LeftFrom (p n limit : ℕ) (u : Upper) (w : Way) (from : ℕ) (dense : List ℕ) (head : ℕ) : Type 0 where
  pub left : Left p n limit u w dense head
  pub bound : head ≤ n
  pub before : (j : ℕ) → j < from → get_or dense j 0 ≡ 0
