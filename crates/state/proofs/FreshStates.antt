-- A fresh start is a state.
-- Assumes nothing.
use Rattle.std.specs.Prelude.{Ok}
use mathlib.Core.Path.{◌≡◌, refl, ap, ◌∙◌}
use mathlib.Core.Bool.{true, false, cond}
use mathlib.Core.List.{List, [], ◌∷◌}
use Prim.Native.Nat.{ℕ, ◌≤◌, ◌<◌}
use native.Mathlib.Decide.{dec_lt}
use native.Mathlib.Omega.{arith}
use borrow.Author.Tests.{eq-eqb, lt-ltb, le-ltb, lt-leb}
use lib.Dec.{leb, ltb}
use lib.ListN.{length, get_or, drop, get_or-append}
use Rattle.lists.specs.Find.{any}
use Rattle.lists.specs.Onto.{◌onto◌}
use Rattle.lists.specs.Table.{table}
use Rattle.lists.proofs.Find.{any_none}
use Rattle.lists.proofs.Ontos.{length-onto}
use Rattle.lists.proofs.Tables.{length-table, get_or-table}
use Rattle.sparse.specs.Matrix.{Matrix, matrix}
use Rattle.sparse.specs.Pivots.{mark}
use Rattle.sparse.specs.Refusals.{refuse, ◌else◌, lowest, first_of}
use Rattle.sparse.specs.Tests.{modulus_test, size_test, shape_test, rows_test, rows_values_test, values_test, matrix_test, well_formed, clean}
use Rattle.sparse.proofs.Cuts.{small}
use Rattle.sparse.proofs.Firsts.{lowest_good}
use Rattle.state.specs.Fresh.{Opening, counts, keeps, started, new_test}
use Rattle.state.specs.Memory.{memory, at_most, places}
use Rattle.state.specs.State.{misplaced, u_fault, u_lost, u_rows, u_of, crooked, pattern_fault, values_fault, l_fault, state_test}
use Rattle.state.specs.declared.Mode.{Mode}
use Rattle.state.specs.declared.Mode.TheVariants.{Full, Pattern, None}
use Rattle.state.proofs.Starts.{startable, first_pointer, first_of_kept}

-- a place there is
some_place : (n : ℕ) → 0 < n → leb (at_most n) 0 ≡ false
unfolding at_most
some_place n h = go (dec_lt 1048576 n)
  where
    go : Dec (1048576 < n) → leb (cond (ltb 1048576 n) 1048576 n) 0 ≡ false
    go (yes l) = rw (lt-ltb 1048576 n l)
    go (no l) = rw (le-ltb 1048576 n (omega arith)) (lt-leb n 0 h)

none_less : (n : ℕ) → ltb n 0 ≡ false
none_less n = le-ltb n 0 (omega arith)

first_long : (xs : List ℕ) → 0 < length xs → length ((0 ∷ []) onto xs) ≡ length xs
first_long xs h = length-onto (0 ∷ []) xs h

-- no row, and so a clean U
empty_clean : (p n : ℕ) (rest : List ℕ) → modulus_test p ≡ Ok tt → n ≤ 1024 → clean 1048576 p (matrix 0 n (0 ∷ []) [] []) ≡ Ok tt
unfolding clean well_formed matrix_test size_test shape_test rows_test rows_values_test first_of refuse lowest ◌else◌
empty_clean p n rest m h = rw (m, le-ltb 1024 n h)

module _ (p n : ℕ) (mode : Mode) (o : Opening) (good : new_test p n mode o ≡ Ok tt) (uc uv lc lv : List ℕ) where
  abbrev after : Opening
  after = started mode n o

  fits : n ≤ length o.pivots
  fits = (startable p n mode o good).table

  wide : n ≤ 1024
  unfolding new_test
  wide = (small 65536 0 n 0 (lowest_good _ _ (lowest_good _ _ good).1).0).wide

  modulus : modulus_test p ≡ Ok tt
  unfolding new_test
  modulus = (lowest_good _ _ good).0

  marked : (j : ℕ) → j < n → get_or (table n (λ i. mark) onto o.pivots) j 0 ≡ mark
  unfolding ◌onto◌
  marked j l = get_or-append (table n (λ i. mark)) (drop (length (table n (λ i. mark))) o.pivots) 0 j (rw length-table l) ∙ get_or-table n (λ i. mark) j 0 l

  no_pivot : (u : Matrix) → any n (misplaced u (table n (λ i. mark) onto o.pivots)) ≡ false
  unfolding misplaced
  no_pivot u = any_none n (misplaced u (table n (λ i. mark) onto o.pivots)) (λ j l. rw (eq-eqb (get_or (table n (λ i. mark) onto o.pivots) j 0) mark (marked j l)))

  u_first : 0 < length o.u_ptrs
  u_first = first_pointer mode o.u_ptrs o.l_ptrs (startable p n mode o good).room

  u_sound : u_fault p (u_rows n 0 0 uc uv ((0 ∷ []) onto o.u_ptrs)) (table n (λ i. mark) onto o.pivots) ≡ false
  unfolding u_fault u_rows any ◌onto◌
  u_sound = rw (empty_clean p n o.u_ptrs modulus wide) (no_pivot (matrix 0 n (0 ∷ []) [] []))

  pattern : keeps mode ≡ true → pattern_fault 0 0 0 lc ((0 ∷ []) onto o.l_ptrs) ≡ false
  unfolding pattern_fault crooked any places ◌onto◌
  pattern k =
      rw (some_place (length ((0 ∷ []) onto o.l_ptrs)) (rw (first_long o.l_ptrs (l_first k)) (l_first k)), none_less (at_most (length lc)))
    where
      l_first : keeps mode ≡ true → 0 < length o.l_ptrs
      l_first q = first_of_kept mode o.u_ptrs o.l_ptrs (startable p n mode o good).room q

  values : values_fault p 0 lv ≡ false
  unfolding values_fault values_test first_of places
  values = rw (none_less (at_most (length lv)))

  l_sound : (m : Mode) → mode ≡ m → l_fault m (counts mode p n 0 0 0 0) lc lv (cond (keeps m) ((0 ∷ []) onto o.l_ptrs) o.l_ptrs) ≡ false
  unfolding l_fault keeps
  l_sound Full e = rw (pattern (ap keeps e), values)
  l_sound Pattern e = pattern (ap keeps e)
  l_sound None e = refl

  pub fresh_state : state_test (counts mode p n 0 0 0 0) (memory uc uv after.u_ptrs lc lv after.l_ptrs after.pivots) ≡ Ok tt
  unfolding state_test started u_of u_lost places refuse
  fresh_state =
      rw (
        some_place (length ((0 ∷ []) onto o.u_ptrs)) (rw (first_long o.u_ptrs u_first) u_first),
        none_less (at_most (length uc)),
        none_less (at_most (length uv)),
        u_sound,
        l_sound mode refl,
      )
