-- Dense memory that is cleared: whole, or by its front.
-- Assumes nothing.
use mathlib.Core.Path.{◌≡◌, sym, ap, ◌∙◌}
use mathlib.Core.Bool.{cond}
use mathlib.Core.List.{List, ◌++◌, append-nil}
use Prim.Native.Nat.{ℕ, ◌≤◌}
use native.Mathlib.Omega.{arith}
use borrow.Author.Tests.{le-ltb}
use lib.Dec.{ltb}
use lib.ListN.{length, get_or, take, drop}
use lib.Seq.{drop-length, length-take-le}
use Rattle.lists.specs.Onto.{◌onto◌}
use Rattle.lists.specs.Table.{table}
use Rattle.lists.proofs.Tables.{length-table, table_ext}
use Rattle.walk.specs.Dense.{wiped}
use Rattle.stepping.specs.Take.{cleared}

-- writing all of a list anew leaves it
onto_itself : (xs : List ℕ) → xs onto xs ≡ xs
unfolding ◌onto◌
onto_itself xs = rw (drop-length xs) (append-nil xs)

-- what is zero stays so
pub cleared_zero : (n : ℕ) (dense : List ℕ) → dense ≡ table n (λ j. 0) → cleared n dense ≡ dense
unfolding cleared
cleared_zero n dense e = ap (λ (xs : List ℕ). xs onto dense) (sym e) ∙ onto_itself dense

-- the front, wiped
pub front_zero : (n : ℕ) (dense front : List ℕ) → n ≤ length dense → front ≡ wiped 0 (take n dense) → front ≡ table n (λ j. 0)
unfolding wiped
front_zero n dense front fits wipe =
    wipe
    ∙ ap (λ (k : ℕ). table k (λ j. cond (ltb j 0) (get_or (take n dense) j 0) 0)) (length-take-le n dense fits)
    ∙ table_ext n _ _ (λ j h. rw (le-ltb j 0 (omega arith)))

-- a zero front is given back
pub front_cleared : (n : ℕ) (dense front : List ℕ) → front ≡ table n (λ j. 0) → front ++ drop n dense ≡ cleared n dense
unfolding cleared ◌onto◌
front_cleared n dense front zero = ap (λ (y : List ℕ). y ++ drop n dense) zero ∙ ap (λ (k : ℕ). table n (λ j. 0) ++ drop k dense) (sym (length-table n (λ j. 0)))
