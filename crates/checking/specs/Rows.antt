-- The parts of the account check that code goes through: the rows' tests, one row, all rows.
use Rattle.std.specs.Prelude.{Bool, not, ◌||◌, cond, List, [], ◌∷◌, ℕ, ◌-◌, eqb, leb, length}
use Rattle.lists.specs.Find.{any}
use Rattle.sparse.specs.Matrix.{Matrix, row}
use Rattle.sparse.specs.Refusals.{refuse, Tested}
use Rattle.sparse.specs.Rows.{Entry, entries}
use Rattle.sparse.specs.Tests.{modulus_test, size_test, clean}
use Rattle.sparse.specs.declared.Refusal.TheVariants.{Shape}
use Rattle.steps.specs.History.{at_once}
use Rattle.telling.specs.Answers.{none}
use Rattle.accounts.specs.Account.{Account, u_whole, l_count, accepted_in, used_in, row_fault}
use Rattle.accounts.specs.Judgement.{judge_fault}
use Rattle.judging.specs.Asks.{upper}

-- 1 and 2 of the rows; 3 of the answers; 1 to 7 of the rows
unfoldable pub rows_tests : ℕ → Matrix → List ℕ → List Tested
rows_tests p m answers =
    modulus_test p
    ∷ size_test 65536 m.nrows m.ncols (length m.values)
    ∷ refuse (not (eqb (length answers) m.nrows)) Shape
    ∷ clean 65536 p m
    ∷ []

-- what is wrong with a row es, met after k accepted rows and as many L rows as are used
unfoldable pub row_wrong : ℕ → ℕ → List ℕ → List ℕ → List ℕ → List ℕ → List ℕ → List ℕ → ℕ → ℕ → List Entry → ℕ → Bool
row_wrong p n u_cols u_vals u_ptrs l_cols l_vals l_ptrs k used es a =
    cond (at_once n k es)
    (not (eqb a none))
    (leb (length l_ptrs - 1) used || judge_fault p (upper n u_cols u_vals u_ptrs) k es a (row l_ptrs (entries l_cols l_vals) used))

-- a row is wrong, or U or L has rows left over
unfoldable pub rows_fault : Account → Bool
rows_fault a =
    any a.rows.nrows (row_fault at_once a)
    || not (eqb (accepted_in a a.rows.nrows) (u_whole a).nrows)
    || not (eqb (used_in at_once a a.rows.nrows) (l_count a))
