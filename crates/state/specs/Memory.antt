-- The lists that are lent for a reducer.
use Rattle.std.specs.Prelude.{ℕ, cond, List, ltb, length}

pub record Memory : Type 0 where
  pub u_cols : List ℕ
  pub u_vals : List ℕ
  pub u_ptrs : List ℕ
  pub l_cols : List ℕ
  pub l_vals : List ℕ
  pub l_ptrs : List ℕ
  pub pivots : List ℕ

abbrev pub memory : List ℕ → List ℕ → List ℕ → List ℕ → List ℕ → List ℕ → List ℕ → Memory
memory uc uv up lc lv lp pivots = record { u_cols = uc; u_vals = uv; u_ptrs = up; l_cols = lc; l_vals = lv; l_ptrs = lp; pivots = pivots }

-- U and L use at most the first 1,048,576 elements of a lent slice
unfoldable pub at_most : ℕ → ℕ
at_most n = cond (ltb 1048576 n) 1048576 n

-- the places of a lent slice that they use
unfoldable pub places : List ℕ → ℕ
places xs = at_most (length xs)
