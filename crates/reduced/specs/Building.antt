-- Back substitution: rows taken by falling head, each by the second walk, into a U that was empty.
use Rattle.std.specs.Prelude.{◌≡◌, ℕ, zero, suc, ◌<◌, true, List}
use Rattle.lists.specs.Table.{table}
use Rattle.sparse.specs.Pivots.{mark}
use Rattle.sparse.specs.Rows.{Entry}
use Rattle.walk.specs.Step.{Upper, Answer}
use Rattle.steps.specs.History.{answered, NoPivots, Next, extended}
use Rattle.steps.specs.Rows.{value_of, CleanRow}
use Rattle.steps.specs.Setting.{Tabled}
use Rattle.reduced.specs.Reduced.{Reduced, SameSpan}

-- m clean rows, row i with 1 at column h i and 0 before it; each head is lower than those before it
pub record Falling (p n m : ℕ) (rows : ℕ → List Entry) (h : ℕ → ℕ) : Type 0 where
  pub clean : (i : ℕ) → i < m → CleanRow p n (rows i)
  pub within : (i : ℕ) → i < m → h i < n
  pub one : (i : ℕ) → i < m → value_of (rows i) (h i) ≡ 1
  pub before : (i : ℕ) → i < m → (j : ℕ) → j < h i → value_of (rows i) j ≡ 0
  pub falls : (i e : ℕ) → i < e → e < m → h e < h i

-- U after the first k rows, whatever holds it
pub data Built (p n : ℕ) (rows : ℕ → List Entry) : ℕ → Upper → Type 0 where
  empty : (u : Upper) → NoPivots n u → Built p n rows 0 u
  more : (k : ℕ) (u : Upper) → Built p n rows k u → (a : Answer) (v : Upper) → Next true p n k u (rows k) a v → Built p n rows (suc k) v

-- U after the first k rows, as values
unfoldable pub finished : ℕ → ℕ → (ℕ → List Entry) → ℕ → Upper
finished p n rows zero = record { value = λ i j. 0; pivots = table n (λ c. mark) }
finished p n rows (suc k) = let u = finished p n rows k in extended k u (answered true p n k u (rows k))

-- after k rows U has one for each, with its head at the same column; they are reduced, and span what the rows do
pub record Finished (p n k : ℕ) (rows : ℕ → List Entry) (h : ℕ → ℕ) (u : Upper) : Type 0 where
  pub table : Tabled n k h u.pivots
  pub reduced : Reduced p n k u.value h
  pub spans : SameSpan p n k (λ i. value_of (rows i)) k u.value
