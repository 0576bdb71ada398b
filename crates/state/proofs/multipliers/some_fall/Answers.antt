-- `some_fall` meets its contract: pointers that are sorted don't fall.
-- Assumes nothing.
use mathlib.Core.Path.{◌≡◌, sym}
use mathlib.Core.Bool.{Bool, true, false, not}
use mathlib.Core.List.{List}
use Prim.Native.Nat.{ℕ, ◌+◌, ◌≤◌, ◌<◌}
use native.Mathlib.Omega.{arith}
use borrow.Author.Tests.{lt-ltb, le-ltb}
use lib.Dec.{ltb}
use lib.ListN.{length, get_or, take}
use lib.Seq.{length-take-le}
use Rattle.std.specs.Bool.{MatchBool}
use Rattle.std.specs.List.Sorted.{IsNonDecreasing}
use Rattle.std.proofs.lemmas.List.{get_or-take}
use Rattle.std.proofs.lemmas.List.Sorted.{non_decreasing_from_is_sorted}
use Rattle.lists.specs.Find.{any}
use Rattle.lists.proofs.Find.{any_true, any_none}
use Rattle.state.proofs.multipliers.some_fall.Goals as goal

abbrev Falls : List ℕ → Type 0
Falls xs = (k : ℕ) × (k + 1 < length xs) × ((d : ℕ) → get_or xs (k + 1) d < get_or xs k d)

falls : (r : Bool) (rows : ℕ) (ptrs : List ℕ) → rows + 1 ≤ length ptrs → MatchBool r (IsNonDecreasing (take (rows + 1) ptrs)) (Falls (take (rows + 1) ptrs)) → not r ≡ any rows (λ i. ltb (get_or ptrs (i + 1) 0) (get_or ptrs i 0))
falls true rows ptrs h up =
    let long = length-take-le (rows + 1) ptrs h in
    sym (any_none rows _ (λ i below. le-ltb _ _ (omega (arith, up i (i + 1) 0 (omega arith) (omega arith), get_or-take (rows + 1) ptrs i 0 (omega arith), get_or-take (rows + 1) ptrs (i + 1) 0 (omega arith)))))
falls false rows ptrs h (k, within, less) =
    let long = length-take-le (rows + 1) ptrs h in
    let below : k < rows = omega arith in
    sym (any_true rows (λ i. ltb (get_or ptrs (i + 1) 0) (get_or ptrs i 0)) below (lt-ltb _ _ (omega (arith, less 0, get_or-take (rows + 1) ptrs k 0 (omega arith), get_or-take (rows + 1) ptrs (k + 1) 0 (omega arith)))))

pub returns : goal.returns
returns c = falls _ c.args.rows c.args.ptrs.now (omega (arith, c.requires)) (non_decreasing_from_is_sorted _ _ c.is_sorted.ensures.cases)
