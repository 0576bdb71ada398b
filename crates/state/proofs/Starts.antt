-- A fresh start: what room gives, and what is then written.
-- Assumes nothing.
use Rattle.std.specs.Prelude.{Ok}
use mathlib.Core.Path.{◌≡◌, refl, sym, ap, ◌∙◌}
use mathlib.Core.Bool.{Bool, true, false, ◌&&◌}
use mathlib.Core.List.{List, [], ◌∷◌}
use Prim.Native.Nat.{ℕ, ◌<◌}
use native.Mathlib.Omega.{arith}
use borrow.Author.Tests.{eqb-false, ltb-false}
use lib.Dec.{eqb}
use lib.ListN.{length, set}
use Rattle.lists.specs.Onto.{◌onto◌}
use Rattle.lists.specs.Table.{table}
use Rattle.lists.proofs.Ontos.{onto_more}
use Rattle.sparse.specs.Pivots.{mark}
use Rattle.sparse.proofs.Firsts.{neither, refuse_good, lowest_good}
use Rattle.state.specs.Asks.{Startable}
use Rattle.state.specs.Fresh.{Opening, opening, keeps, start_test, started, new_test}
use Rattle.state.specs.declared.Mode.{Mode}

-- a list that isn't empty has a first place
filled : (xs : List ℕ) → eqb (length xs) 0 ≡ false → 0 < length xs
filled xs e = let ne : length xs ≡ 0 → ⊥ = eqb-false (length xs) 0 e in omega arith

module _ (mode : Mode) (u l : List ℕ) (good : start_test mode u l ≡ Ok tt) where
  pub first_pointer : 0 < length u
  unfolding start_test
  first_pointer = filled u (neither _ _ (refuse_good _ _ good)).0

  pub first_of_kept : keeps mode ≡ true → 0 < length l
  unfolding start_test
  first_of_kept k = filled l (ap (λ (b : Bool). b && eqb (length l) 0) (sym k) ∙ (neither (eqb (length u) 0) (keeps mode && eqb (length l) 0) (refuse_good _ _ good)).1)

-- the first element written
set_first : (xs : List ℕ) → 0 < length xs → set xs 0 0 ≡ (0 ∷ []) onto xs
unfolding ◌onto◌
set_first xs h = onto_more [] xs 0 0 refl h

module _ (n : ℕ) (mode : Mode) (u l pivots : List ℕ) (s : Startable n mode (opening u l pivots)) {w : List ℕ} (e : w ≡ table n (λ j. mark) onto pivots) where
  pub started_kept : keeps mode ≡ true → opening (set u 0 0) (set l 0 0) w ≡ started mode n (opening u l pivots)
  unfolding started
  started_kept k = rw (k, set_first u (first_pointer mode u l s.room), set_first l (first_of_kept mode u l s.room k), e)

  pub started_bare : keeps mode ≡ false → opening (set u 0 0) l w ≡ started mode n (opening u l pivots)
  unfolding started
  started_bare k = rw (k, set_first u (first_pointer mode u l s.room), e)

-- what the tests of a fresh start give
pub startable : (p n : ℕ) (mode : Mode) (o : Opening) → new_test p n mode o ≡ Ok tt → Startable n mode o
unfolding new_test
startable p n mode o e =
    let h = lowest_good _ _ (lowest_good _ _ (lowest_good _ _ e).1).1 in
    record { table = ltb-false (length o.pivots) n (refuse_good _ _ h.0); room = (lowest_good _ _ h.1).0 }
