-- When lent memory is too short for many rows.
use Rattle.std.specs.Prelude.{ℕ, ◌||◌, List, ltb, length}
use Rattle.sparse.specs.Refusals.{refuse, Tested}
use Rattle.sparse.specs.declared.Refusal.TheVariants.{Mismatch}

-- 11: dense memory or the pivot table is shorter than the columns, or answer memory than the rows
unfoldable pub short_test : ℕ → ℕ → List ℕ → List ℕ → List ℕ → Tested
short_test rows n dense answers pivots = refuse (ltb (length dense) n || ltb (length pivots) n || ltb (length answers) rows) Mismatch
