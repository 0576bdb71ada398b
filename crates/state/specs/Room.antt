-- Room for one row more: what 14 is given for otherwise.
use Rattle.std.specs.Prelude.{ℕ, ◌+◌, ◌-◌, Bool, false, ◌||◌, List, leb, ltb}
use Rattle.sparse.specs.Refusals.{refuse, Tested}
use Rattle.sparse.specs.declared.Refusal.TheVariants.{Room}
use Rattle.state.specs.Memory.{Memory, places}
use Rattle.state.specs.declared.Counts.{Counts}
use Rattle.state.specs.declared.Mode.{Mode}
use Rattle.state.specs.declared.Mode.TheVariants.{Full, Pattern, None}

-- U has fewer free entry places than columns, or no free row pointer
unfoldable pub u_full : ℕ → ℕ → ℕ → List ℕ → List ℕ → List ℕ → Bool
u_full n rank fill cols vals ptrs = ltb (places cols - fill) n || ltb (places vals - fill) n || leb (places ptrs) (rank + 1)

-- L has fewer than rank+1 free column places, or no free pointer
unfoldable pub pattern_full : ℕ → ℕ → ℕ → List ℕ → List ℕ → Bool
pattern_full rank rows fill cols ptrs = ltb (places cols - fill) (rank + 1) || leb (places ptrs) (rows + 1)

-- in Full mode value places too
unfoldable pub l_full : Mode → Counts → List ℕ → List ℕ → List ℕ → Bool
l_full Full c cols vals ptrs = pattern_full c.rank c.l_rows c.l_fill cols ptrs || ltb (places vals - c.l_fill) (c.rank + 1)
l_full Pattern c cols vals ptrs = pattern_full c.rank c.l_rows c.l_fill cols ptrs
l_full None c cols vals ptrs = false

-- 14
unfoldable pub room_test : Counts → Memory → Tested
room_test c m =
    refuse
    (u_full c.ncols c.rank c.u_fill m.u_cols m.u_vals m.u_ptrs
    || l_full c.mode c m.l_cols m.l_vals m.l_ptrs)
    Room
