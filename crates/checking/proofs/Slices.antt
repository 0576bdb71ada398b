-- U's and L's slices: what tests that find nothing tell of them, and the state's own test of U.
-- Assumes nothing.
use Rattle.std.specs.Prelude.{Err, Ok, is_err}
use mathlib.Core.Path.{◌≡◌, refl, sym, ap, subst, ◌∙◌}
use mathlib.Core.Logic.{⊎_elim}
use mathlib.Core.Bool.{Bool, true, false, not, ◌||◌, or-true, true≢false}
use mathlib.Core.List.{List, [], ◌∷◌, ◌++◌}
use Prim.Native.Nat.{ℕ, zero, suc, ◌+◌, ◌-◌, ◌≤◌, ◌<◌}
use native.Mathlib.Nat.{le_refl}
use native.Mathlib.Decide.{dec_lt, ℕ_discrete}
use native.Mathlib.Numerals.{add-one}
use native.Mathlib.Omega.{arith}
use borrow.Author.Tests.{eqb-true, eqb-false, ltb-false, lt-leb, le-ltb, lt-ltb, not-false}
use lib.Dec.{eqb, ltb}
use lib.ListN.{length, get_or}
use lib.Seq.{take_all}
use Rattle.lists.specs.Find.{any}
use Rattle.lists.proofs.Find.{told, any_false}
use Rattle.sparse.specs.Matrix.{Matrix, matrix}
use Rattle.sparse.specs.Refusals.{refuse, ◌else◌, lowest, Tested}
use Rattle.sparse.specs.Tests.{modulus_test, size_test, well_formed, clean}
use Rattle.sparse.specs.declared.Refusal.{Refusal}
use Rattle.sparse.specs.declared.Refusal.TheVariants.{State}
use Rattle.sparse.proofs.Firsts.{neither, lowest_stop, lowest_next, lowest_last}
use Rattle.adding.specs.RowTests.{short_test}
use Rattle.state.specs.Fresh.{counts}
use Rattle.state.specs.Memory.{memory, places}
use Rattle.state.specs.State.{u_fault, u_lost, u_rows, u_of, crooked, l_fault, state_test}
use Rattle.state.specs.declared.Mode.TheVariants.{None}
use Rattle.state.proofs.Faults.{fault_high}
use Rattle.accounts.specs.Account.{Account}
use Rattle.accounts.specs.Tests.{broken, answers_test, memory_test, slices_test, account_test}
use Rattle.accounts.proofs.Wholes.{all_places}
use Rattle.judging.specs.Asks.{upper}
use Rattle.checking.specs.Asks.{Whole, Lower}
use Rattle.checking.specs.Rows.{rows_tests}

-- slices that aren't broken
pub record Unbroken (cols vals ptrs : List ℕ) : Type 0 where
  pub same : length cols ≡ length vals
  pub pointers : 0 < length ptrs
  pub straight : crooked (length ptrs - 1) (length vals) ptrs ≡ false

pub unbroken : (cols vals ptrs : List ℕ) → broken cols vals ptrs ≡ false → Unbroken cols vals ptrs
unfolding broken
unbroken cols vals ptrs e =
    let last = neither (not (eqb (length cols) (length vals)) || eqb (length ptrs) 0) (crooked (length ptrs - 1) (length vals) ptrs) e in
    let first = neither (not (eqb (length cols) (length vals))) (eqb (length ptrs) 0) last.0 in
    record { same = eqb-true (length cols) (length vals) (not-false _ first.0); pointers = omega (arith, eqb-false (length ptrs) 0 first.1); straight = last.1 }

-- pointers that never fall
climbing : (ptrs : List ℕ) (rows : ℕ) → ((i : ℕ) → i < rows → get_or ptrs i 0 ≤ get_or ptrs (i + 1) 0) → (k i : ℕ) → k ≤ rows → i ≤ k → get_or ptrs i 0 ≤ get_or ptrs k 0
climbing ptrs rows rises zero i h l = let e : i ≡ 0 = omega arith in rw e (le_refl (get_or ptrs 0 0))
climbing ptrs rows rises (suc k) i h l = go (ℕ_discrete i (suc k)) (climbing ptrs rows rises k i)
  where
    go : Dec (i ≡ suc k) → (k ≤ rows → i ≤ k → get_or ptrs i 0 ≤ get_or ptrs k 0) → get_or ptrs i 0 ≤ get_or ptrs (suc k) 0
    go (yes e) ih = rw e (le_refl (get_or ptrs (suc k) 0))
    go (no e) ih =
        let up : get_or ptrs k 0 ≤ get_or ptrs (suc k) 0 = subst (λ (m : ℕ). get_or ptrs k 0 ≤ get_or ptrs m 0) (add-one k) (rises k (omega arith)) in
        omega (arith, ih (omega arith) (omega arith), up)

pub unbroken_lower : {cols vals ptrs : List ℕ} → Unbroken cols vals ptrs → Lower cols vals ptrs
unfolding crooked
unbroken_lower {cols} {vals} {ptrs} s =
    let last = neither (not (eqb (get_or ptrs 0 0) 0) || any (length ptrs - 1) (λ i. ltb (get_or ptrs (i + 1) 0) (get_or ptrs i 0))) (not (eqb (get_or ptrs (length ptrs - 1) 0) (length vals))) s.straight in
    let first = neither (not (eqb (get_or ptrs 0 0) 0)) (any (length ptrs - 1) (λ i. ltb (get_or ptrs (i + 1) 0) (get_or ptrs i 0))) last.0 in
    let rises : (i : ℕ) → i < length ptrs - 1 → get_or ptrs i 0 ≤ get_or ptrs (i + 1) 0 = λ i h. ltb-false (get_or ptrs (i + 1) 0) (get_or ptrs i 0) (any_false (length ptrs - 1) (λ i. ltb (get_or ptrs (i + 1) 0) (get_or ptrs i 0)) first.1 i h) in
    let ends : get_or ptrs (length ptrs - 1) 0 ≡ length vals = eqb-true _ _ (not-false _ last.1) in
    record {
      same = s.same;
      cut = record {
        many = omega (arith, s.pointers);
        rises = rises;
        within = λ i h. omega (arith, ends, climbing ptrs (length ptrs - 1) rises (length ptrs - 1) (i + 1) (le_refl _) (omega arith));
      };
    }

-- U by its counts is the whole
whole_same : (n : ℕ) (cols vals ptrs : List ℕ) → 0 < length ptrs → length cols ≡ length vals → u_rows n (length ptrs - 1) (length vals) cols vals ptrs ≡ upper n cols vals ptrs
unfolding u_rows
whole_same n cols vals ptrs pos same = λ i. matrix (length ptrs - 1) n (take_all (length ptrs - 1 + 1) ptrs (omega arith) i) (take_all (length vals) cols (omega arith) i) (take_all (length vals) vals (le_refl (length vals)) i)

-- more entries than are allowed aren't clean
fault_long : (p : ℕ) (u : Matrix) (pivots : List ℕ) → modulus_test p ≡ Ok tt → 1048576 < length u.values → u_fault p u pivots ≡ true
unfolding u_fault clean well_formed size_test refuse lowest ◌else◌
fault_long p u pivots m h = rw (m, lt-ltb 1048576 (length u.values) h, or-true (ltb 1024 u.nrows || ltb 1024 u.ncols))

refused_is : (b : Bool) (r : Refusal) → is_err (refuse b r) ≡ b
unfolding refuse
refused_is true r = refl
refused_is false r = refl

module _ {p n : ℕ} {cols vals ptrs pivots : List ℕ} (s : Whole p n cols vals ptrs pivots) where
  abbrev u : Matrix
  u = upper n cols vals ptrs

  abbrev lost : Bool
  lost = u_lost (length ptrs - 1) (length vals) cols vals ptrs

  -- slices past their places are at fault
  lost_fault : lost ≡ true → u_fault p u pivots ≡ true
  unfolding u_lost
  lost_fault e = high (dec_lt 1048576 (length ptrs))
    where
      long : length ptrs ≤ 1048576 → Dec (1048576 < length vals) → u_fault p u pivots ≡ true
      long few (yes h) = fault_long p u pivots s.opened.modulus h
      long few (no h) =
          let none : lost ≡ false = rw (
            lt-leb (places ptrs) (length ptrs - 1) (omega (arith, s.pointers, all_places ptrs few)),
            le-ltb (places cols) (length vals) (omega (arith, s.same, all_places cols (omega (arith, s.same)))),
            le-ltb (places vals) (length vals) (omega (arith, all_places vals (omega arith))),
          ) in
          absurd (true≢false (sym e ∙ none))

      high : Dec (1048576 < length ptrs) → u_fault p u pivots ≡ true
      high (yes h) = fault_high p u pivots s.opened.modulus (omega arith)
      high (no h) = long (omega arith) (dec_lt 1048576 (length vals))

  either : lost || u_fault p u pivots ≡ u_fault p u pivots
  either = ⊎_elim (λ q. rw (lost_fault q) (or-true lost)) (λ q. rw q) (told lost)

  -- the state's test, of a reducer without L
  pub whole_fault : {t : Tested} {r : Bool} → t ≡ state_test (counts None p n (length ptrs - 1) (length vals) 0 0) (memory cols vals ptrs cols vals ptrs pivots) → r ≡ is_err t → r ≡ u_fault p u pivots
  unfolding state_test u_of l_fault
  whole_fault tested q =
      q
      ∙ ap is_err tested
      ∙ refused_is _ _
      ∙ no_l (lost || u_fault p (u_rows n (length ptrs - 1) (length vals) cols vals ptrs) pivots)
      ∙ ap (λ (m : Matrix). lost || u_fault p m pivots) (whole_same n cols vals ptrs s.pointers s.same)
      ∙ either
    where
      no_l : (b : Bool) → b || false ≡ b
      no_l true = refl
      no_l false = refl

-- a list of tests in two parts, as code goes through it
lowest_both : (xs ys : List Tested) → lowest (xs ++ ys) ≡ lowest xs else lowest ys
unfolding lowest ◌else◌
lowest_both [] ys = refl
lowest_both (Ok _ ∷ xs) ys = lowest_both xs ys
lowest_both (Err r ∷ xs) ys = refl

tests_stop : {s : Tested} {r : Refusal} (xs ys : List Tested) → s ≡ lowest xs → s ≡ Err r → Err r ≡ lowest (xs ++ ys)
unfolding ◌else◌
tests_stop xs ys q e = sym (lowest_both xs ys ∙ ap (λ (t : Tested). t else lowest ys) (sym q ∙ e))

tests_next : {s x : Tested} (xs ys : List Tested) → s ≡ lowest xs → s ≡ Ok tt → x ≡ lowest ys → x ≡ lowest (xs ++ ys)
unfolding ◌else◌
tests_next xs ys q e h = h ∙ sym (lowest_both xs ys ∙ ap (λ (t : Tested). t else lowest ys) (sym q ∙ e))

-- the account's tests
module _ (dense : List ℕ) (a : Account) {s : Tested} (rows : s ≡ lowest (rows_tests a.modulus a.rows a.answers)) where
  abbrev after : List Tested
  after = memory_test dense a ∷ slices_test a ∷ []

  pub account_rows : {r : Refusal} → s ≡ Err r → Err r ≡ account_test dense a
  unfolding account_test answers_test rows_tests
  account_rows e = tests_stop (rows_tests a.modulus a.rows a.answers) after rows e

  module _ (fine : s ≡ Ok tt) {t : Tested} (short : t ≡ short_test a.rows.ncols dense a.memory.pivots) where
    pub account_short : {r : Refusal} → t ≡ Err r → Err r ≡ account_test dense a
    unfolding account_test answers_test rows_tests memory_test short_test
    account_short e = tests_next (rows_tests a.modulus a.rows a.answers) after rows fine (lowest_stop (slices_test a ∷ []) short e)

    pub account_slices : t ≡ Ok tt → {x : Tested} → x ≡ refuse (broken a.memory.u_cols a.memory.u_vals a.memory.u_ptrs || broken a.memory.l_cols a.memory.l_vals a.memory.l_ptrs) State → x ≡ account_test dense a
    unfolding account_test answers_test rows_tests memory_test short_test slices_test
    account_slices e q = tests_next (rows_tests a.modulus a.rows a.answers) after rows fine (lowest_next (slices_test a ∷ []) short e (lowest_last q))
