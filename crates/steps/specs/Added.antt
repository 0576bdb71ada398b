-- What a row's step adds to U and L.
use Rattle.std.specs.Prelude.{◌≡◌, ℕ, ◌+◌, ◌≤◌, ◌<◌, List, [], ◌∷◌, ◌++◌, length}
use Rattle.sparse.specs.Pivots.{mark}
use Rattle.sparse.specs.Rows.{Entry, entry}
use Rattle.walk.specs.Step.{Upper, pivot_at, Taken}
use Rattle.steps.specs.Rows.{Storable, CleanRow, LRow}

-- an accepted row: a clean row of U with head 1 at column g, where no pivot stood, and a row of L, the diagonal k last
pub record Added (p n k : ℕ) (u : Upper) (h : ℕ → ℕ) (g : ℕ) (t : Taken) : Type 0 where
  pub within : g < n
  pub free : pivot_at u.pivots g ≡ mark
  pub clean : CleanRow p n t.u
  pub beyond : List Entry
  pub head : t.u ≡ entry g 1 ∷ beyond
  pub l : List Entry
  pub order : LRow p n k h l
  pub diagonal : ℕ
  pub value : Storable p diagonal
  pub last : t.l ≡ l ++ (entry k diagonal ∷ [])
  pub l_room : length t.l ≤ k + 1
  pub u_room : length t.u ≤ n

-- a row that is answered None: no row of U, and a row of L without diagonal
pub record NotAdded (p n k : ℕ) (h : ℕ → ℕ) (t : Taken) : Type 0 where
  pub none : t.u ≡ []
  pub order : LRow p n k h t.l
  pub l_room : length t.l ≤ k
