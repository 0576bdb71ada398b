-- A pivot table: counting what it names, and what a good one tells of each place.
-- Assumes nothing.
use Rattle.std.specs.Prelude.{Ok}
use mathlib.Core.Path.{◌≡◌, refl, sym, ◌∙◌}
use mathlib.Core.Bool.{Bool, true, false, not, ◌&&◌}
use mathlib.Core.List.{List}
use mathlib.Core.Logic.{◌⊎◌, inl, inr}
use Prim.Native.Nat.{ℕ, ◌<◌}
use native.Mathlib.Omega.{arith}
use lib.Dec.{leb, eqb}
use lib.ListN.{length, get_or}
use borrow.Author.Tests.{eqb-true, ne_eqb, leb-false}
use Rattle.lists.specs.Find.{count}
use Rattle.lists.proofs.Find.{any_false}
use Rattle.sparse.specs.Pivots.{mark, named, pivots_test}
use Rattle.sparse.proofs.Firsts.{refuse_good, neither}
use Rattle.lists.proofs.Scans.{any_kept, count_kept}

-- no row has the mark's number, so the marks needn't be left out
pub named_count : (i : ℕ) (pivots : List ℕ) → i < mark → count (eqb i) (named pivots) ≡ count (eqb i) pivots
unfolding named
named_count i pivots h =
    count_kept (λ r. not (eqb r mark)) (eqb i) pivots (λ x e. let q : i ≡ x = eqb-true i x e in rw (ne_eqb x mark (λ z. omega arith)))

-- 12 finds nothing: each place has the mark or a row
pub sources : (rows : ℕ) (pivots : List ℕ) → pivots_test rows pivots ≡ Ok tt → (k : ℕ) → k < length pivots → (get_or pivots k 0 ≡ mark) ⊎ (get_or pivots k 0 < rows)
unfolding pivots_test named
sources rows pivots good k h =
    go (eqb (get_or pivots k 0) mark) refl
    (any_false (length pivots) (λ j. not (eqb (get_or pivots j 0) mark) && leb rows (get_or pivots j 0))
    (sym (any_kept (λ r. not (eqb r mark)) (leb rows) 0 pivots) ∙ (neither _ _ (refuse_good _ _ good)).0) k h)
  where
    go : (b : Bool) → eqb (get_or pivots k 0) mark ≡ b → (not b && leb rows (get_or pivots k 0)) ≡ false → (get_or pivots k 0 ≡ mark) ⊎ (get_or pivots k 0 < rows)
    go true e f = inl (eqb-true _ _ e)
    go false e f = inr (leb-false _ _ f)
