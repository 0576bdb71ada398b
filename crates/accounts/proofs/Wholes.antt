-- The whole slices of U: where they and the pivots are a state, U's rows have distinct heads.
-- Assumes nothing.
use Rattle.std.specs.Prelude.{Ok, is_err}
use mathlib.Core.Path.{◌≡◌, sym, ap, subst, ◌∙◌}
use mathlib.Core.Bool.{false, ◌||◌}
use mathlib.Core.List.{List}
use Prim.Native.Nat.{ℕ, ◌+◌, ◌-◌, ◌≤◌, ◌<◌}
use native.Mathlib.Nat.{le_refl}
use native.Mathlib.Omega.{arith}
use borrow.Author.Tests.{le-ltb, lt-leb}
use lib.ListN.{length, get_or}
use lib.Seq.{take_all}
use Rattle.lists.specs.Find.{any}
use Rattle.linear.proofs.Heads.{Heads}
use Rattle.sparse.specs.Matrix.{Matrix, matrix, value_at}
use Rattle.sparse.specs.Tests.{modulus_test, clean, well_formed}
use Rattle.sparse.proofs.Cuts.{Small, small, Laid, formed_laid}
use Rattle.sparse.proofs.Firsts.{neither, lowest_good}
use Rattle.state.specs.Asks.{Opened}
use Rattle.state.specs.Memory.{at_most, places}
use Rattle.state.specs.State.{head_of, headless, misplaced, u_fault, u_lost, u_rows}
use Rattle.state.proofs.Faults.{not_refused}
use Rattle.walk.specs.Asks.{PivotRow}
use Rattle.walk.specs.Step.{upper}
use Rattle.states.proofs.Echelons.{head_at, state_row, state_echelon}

-- a slice within the limit has all its places
pub all_places : (xs : List ℕ) → length xs ≤ 1048576 → places xs ≡ length xs
unfolding places at_most
all_places xs h = rw (le-ltb 1048576 (length xs) h)

-- heads by another name
heads_same : {p n k : ℕ} {u : ℕ → ℕ → ℕ} {g h : ℕ → ℕ} → ((i : ℕ) → i < k → g i ≡ h i) → Heads p n k u h → Heads p n k u g
heads_same {p} {n} {k} {u} {g} {h} same heads = record {
  within = λ i l. rw (same i l) (heads.within i l);
  one = λ i l. rw (same i l) (heads.one i l);
  before = λ i l j b. heads.before i l j (rw (same i l) at b);
  apart = λ i e l q z. heads.apart i e l q (sym (same i l) ∙ z ∙ same e q);
}

module _ (p n : ℕ) (cols vals ptrs pivots : List ℕ) (wide : n ≤ length pivots) (sound : u_fault p (matrix (length ptrs - 1) n ptrs cols vals) pivots ≡ false) where
  abbrev rank : ℕ
  rank = length ptrs - 1

  abbrev u : Matrix
  u = matrix (length ptrs - 1) n ptrs cols vals

  is_clean : clean 1048576 p u ≡ Ok tt
  unfolding u_fault
  is_clean =
      not_refused (clean 1048576 p u)
      (neither (is_err (clean 1048576 p u)) (any rank (headless u pivots)) (neither (is_err (clean 1048576 p u) || any rank (headless u pivots)) (any n (misplaced u pivots)) sound).0).0

  formed : well_formed 1048576 p u ≡ Ok tt
  unfolding clean
  formed = (lowest_good _ _ is_clean).0

  pub whole_modulus : modulus_test p ≡ Ok tt
  unfolding well_formed
  whole_modulus = (lowest_good _ _ formed).0

  sizes : Small 1048576 rank n (length vals)
  unfolding well_formed
  sizes = small 1048576 rank n (length vals) (lowest_good _ _ (lowest_good _ _ formed).1).0

  lies : Laid u
  lies = formed_laid 1048576 p u formed

  opened : Opened p n pivots
  opened = record { modulus = whole_modulus; wide = sizes.wide; table = wide }

  found : u_lost rank (length vals) cols vals ptrs ≡ false
  unfolding u_lost
  found = rw (
    lt-leb (places ptrs) rank (omega (arith, lies.shape.many, sizes.high, all_places ptrs (omega (arith, lies.shape.many, sizes.high)))),
    le-ltb (places cols) (length vals) (omega (arith, lies.shape.col_each, sizes.few, all_places cols (omega (arith, lies.shape.col_each, sizes.few)))),
    le-ltb (places vals) (length vals) (omega (arith, sizes.few, all_places vals sizes.few)),
  )

  same : u_rows n rank (length vals) cols vals ptrs ≡ u
  unfolding u_rows
  same = λ i. matrix rank n (take_all (rank + 1) ptrs (omega (arith, lies.shape.many)) i) (take_all (length vals) cols (omega (arith, lies.shape.col_each)) i) (take_all (length vals) vals (le_refl (length vals)) i)

  whole : u_fault p (u_rows n rank (length vals) cols vals ptrs) pivots ≡ false
  whole = ap (λ (m : Matrix). u_fault p m pivots) same ∙ sound

  at_first : (r : ℕ) → r < rank → head_of u r ≡ head_at p n rank (length vals) cols vals ptrs pivots opened found whole r
  unfolding head_of
  at_first r h = (state_row p n rank (length vals) cols vals ptrs pivots opened found whole r h).starts

  -- the rows of U, their heads where the first entries stand
  pub whole_heads : Heads p n rank (value_at u) (head_of u)
  unfolding value_at upper
  whole_heads = heads_same at_first (state_echelon p n rank (length vals) cols vals ptrs pivots opened found whole).heads

  -- each with its head
  pub whole_row : (r : ℕ) → r < rank → PivotRow n (get_or cols (get_or ptrs r 0) 0) cols vals ptrs r
  whole_row r h =
      let s = state_row p n rank (length vals) cols vals ptrs pivots opened found whole r h in
      subst (λ (k : ℕ). PivotRow n k cols vals ptrs r) (sym s.starts) s
