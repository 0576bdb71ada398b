-- The memory that a report works in, and when it is too short.
use Rattle.std.specs.Prelude.{ℕ, Bool, ◌||◌, List, [], ◌∷◌, ltb, length}
use Rattle.sparse.specs.Lent.{Lent}
use Rattle.sparse.specs.Refusals.{refuse, lowest, Tested}
use Rattle.sparse.specs.declared.Refusal.TheVariants.{Mismatch, Room}
use Rattle.running.specs.Rows.{Night}

-- lent for the matrix, for its reduction, and for the output
pub record Work : Type 0 where
  pub lent : Lent
  pub night : Night
  pub out : List ℕ

-- the three together
abbrev pub work : Lent → Night → List ℕ → Work
work l w out = record { lent = l; night = w; out = out }

-- a list has less than n places
unfoldable pub short : ℕ → List ℕ → Bool
short n xs = ltb (length xs) n

-- 11: dense memory, answer memory or the pivot table has less than 64 places
-- 14: less than 64 × 64 places for U's or L's entries, 1,024 for the matrix's, 65 for pointers, 40 × 64 × 64 for the output
unfoldable pub work_test : Work → Tested
work_test w =
    lowest
    (refuse (short 64 w.night.dense || short 64 w.night.answers || short 64 w.night.memory.pivots) Mismatch
    ∷ refuse
    (short 65 w.lent.row_ptrs || short 1024 w.lent.col_idcs || short 1024 w.lent.values
    || short 4096 w.night.memory.u_cols || short 4096 w.night.memory.u_vals || short 65 w.night.memory.u_ptrs
    || short 4096 w.night.memory.l_cols || short 4096 w.night.memory.l_vals || short 65 w.night.memory.l_ptrs
    || short 163840 w.out)
    Room
    ∷ [])
