-- Parts of the joins' definitions that a function of its own writes.
use Rattle.std.specs.Prelude.{List, map, ℕ, eqb}
use Rattle.lists.specs.Find.{keep}
use Rattle.sparse.specs.Rows.{Entry, entry}

-- what a vector's entries add to row i, in column n
unfoldable pub in_column : ℕ → List Entry → ℕ → List Entry
in_column n v i = map (λ e. entry n e.value) (keep (λ e. eqb e.col i) v)
