-- A pivot table: for each column the row whose pivot stands there, or the mark.
use Rattle.std.specs.Prelude.{ℕ, not, ◌||◌, List, leb, eqb, length, get_or}
use Rattle.lists.specs.Find.{any, count, keep}
use Rattle.sparse.specs.Refusals.{refuse, Tested}
use Rattle.sparse.specs.declared.Refusal.TheVariants.{Positions}

-- a column without a pivot
unfoldable pub mark : ℕ
mark = 4294967295

-- the rows that the table names, in its order
unfoldable pub named : List ℕ → List ℕ
named pivots = keep (λ r. not (eqb r mark)) pivots

-- 12: the table names something that is no row, or a row not exactly once
unfoldable pub pivots_test : ℕ → List ℕ → Tested
pivots_test rows pivots =
    refuse (any (length (named pivots)) (λ k. leb rows (get_or (named pivots) k 0)) || any rows (λ r. not (eqb (count (eqb r) (named pivots)) 1))) Positions
