-- The account check: what its tests give, and each outcome.
-- Assumes nothing.
use Rattle.std.specs.Prelude.{Err, Ok, false, true}
use mathlib.Core.Path.{◌≡◌, sym, ap, ap₂, ◌∙◌}
use mathlib.Core.Bool.{Bool, true, false, not}
use mathlib.Core.List.{List, ◌++◌}
use Prim.Native.Nat.{ℕ, ◌≤◌}
use native.Mathlib.Omega.{arith}
use borrow.Author.Tests.{ltb-false, eqb-true, not-false}
use lib.Dec.{ltb}
use lib.ListN.{length, take, drop}
use Rattle.sparse.specs.Refusals.{Tested}
use Rattle.lists.specs.Table.{table}
use Rattle.sparse.specs.Lent.{Outcome, outcome, unless}
use Rattle.sparse.specs.Tests.{clean}
use Rattle.sparse.specs.declared.Refusal.{Refusal}
use Rattle.sparse.specs.declared.Refusal.TheVariants.{Shape, Mismatch, State}
use Rattle.sparse.proofs.Cuts.{small}
use Rattle.sparse.proofs.Firsts.{refuse_good, neither, lowest_good}
use Rattle.state.specs.State.{u_fault}
use Rattle.steps.specs.History.{at_once}
use Rattle.stepping.specs.Take.{cleared}
use Rattle.stepping.proofs.Clears.{front_zero, front_cleared}
use Rattle.walk.specs.Dense.{wiped}
use Rattle.accounts.specs.Account.{Account, u_whole, account_fault, is_account}
use Rattle.accounts.specs.Tests.{broken, answers_test, memory_test, slices_test, account_test}
use Rattle.accounts.proofs.Presents.{presented_prime}
use Rattle.accounts.proofs.Wholes.{whole_row}
use Rattle.judging.specs.Asks.{upper}
use Rattle.checking.specs.Asks.{Whole, Checks}
use Rattle.checking.specs.Check.{check_account, judged}
use Rattle.checking.specs.Rows.{rows_fault}
use Rattle.checking.proofs.Slices.{Unbroken, unbroken, unbroken_lower}

-- an account that isn't refused
pub record Apt (a : Account) (dense : List ℕ) : Type 0 where
  pub whole : Whole a.modulus a.rows.ncols a.memory.u_cols a.memory.u_vals a.memory.u_ptrs a.memory.pivots
  pub answers : length a.answers ≡ a.rows.nrows
  pub rows : clean 65536 a.modulus a.rows ≡ Ok tt
  pub long : a.rows.ncols ≤ length dense
  pub lower : Unbroken a.memory.l_cols a.memory.l_vals a.memory.l_ptrs

module _ (a : Account) (dense : List ℕ) (good : account_test dense a ≡ Ok tt) where
  pub apt : Apt a dense
  unfolding account_test answers_test memory_test slices_test
  apt =
      let first = lowest_good _ _ good in
      let second = lowest_good _ _ first.1 in
      let third = lowest_good _ _ second.1 in
      let fourth = lowest_good _ _ third.1 in
      let fifth = lowest_good _ _ fourth.1 in
      let short = neither (ltb (length dense) a.rows.ncols) (ltb (length a.memory.pivots) a.rows.ncols) (refuse_good _ Mismatch fifth.0) in
      let slices = neither (broken a.memory.u_cols a.memory.u_vals a.memory.u_ptrs) (broken a.memory.l_cols a.memory.l_vals a.memory.l_ptrs) (refuse_good _ State (lowest_good _ _ fifth.1).0) in
      let u : Unbroken a.memory.u_cols a.memory.u_vals a.memory.u_ptrs = unbroken a.memory.u_cols a.memory.u_vals a.memory.u_ptrs slices.0 in
      record {
        whole = record {
          opened = record {
            modulus = first.0;
            wide = (small 65536 a.rows.nrows a.rows.ncols (length a.rows.values) second.0).wide;
            table = ltb-false (length a.memory.pivots) a.rows.ncols short.1;
          };
          same = u.same;
          pointers = u.pointers;
        };
        answers = eqb-true (length a.answers) a.rows.nrows (not-false _ (refuse_good _ Shape third.0));
        rows = fourth.0;
        long = ltb-false (length dense) a.rows.ncols short.0;
        lower = unbroken a.memory.l_cols a.memory.l_vals a.memory.l_ptrs slices.1;
      }

  -- dense memory is cleared, and its front lent
  module _ {front : List ℕ} (wipe : front ≡ wiped 0 (take a.rows.ncols dense)) where
    zero : front ≡ table a.rows.ncols (λ j. 0)
    zero = front_zero a.rows.ncols dense front apt.long wipe

    module _ {r : Bool} (tested : r ≡ u_fault a.modulus (upper a.rows.ncols a.memory.u_cols a.memory.u_vals a.memory.u_ptrs) a.memory.pivots) where
      -- U and pivots are no state
      pub u_wrong : r ≡ true → outcome true (front ++ drop a.rows.ncols dense) ≡ outcome (account_fault at_once a) (cleared a.rows.ncols dense)
      unfolding account_fault u_whole
      u_wrong e = ap₂ (λ (b : Bool) (x : List ℕ). outcome b x) (rw (sym tested ∙ e)) (front_cleared a.rows.ncols dense front zero)

      module _ (right : r ≡ false) where
        pub u_checks : Checks a front
        u_checks = record {
          positive = omega (arith, (presented_prime dense a good).least);
          rows = apt.rows;
          answers = apt.answers;
          upper = record {
            each = λ k h. whole_row a.modulus a.rows.ncols a.memory.u_cols a.memory.u_vals a.memory.u_ptrs a.memory.pivots apt.whole.opened.table (sym tested ∙ right) k (omega arith);
          };
          pointers = apt.whole.pointers;
          lower = unbroken_lower apt.lower;
          zero = zero;
        }

        pub u_right : {b : Bool} {d : List ℕ} → outcome b d ≡ outcome (rows_fault a) front → outcome b (d ++ drop a.rows.ncols dense) ≡ outcome (account_fault at_once a) (cleared a.rows.ncols dense)
        unfolding account_fault u_whole rows_fault
        u_right {b} {d} e =
            ap (λ (o : Outcome Bool (List ℕ)). outcome o.answer (o.memory ++ drop a.rows.ncols dense)) e
            ∙ ap₂ (λ (b : Bool) (x : List ℕ). outcome b x) (rw (sym tested ∙ right)) (front_cleared a.rows.ncols dense front zero)

-- a refusal, and a verdict
module _ (a : Account) (dense : List ℕ) {t : Tested} (tested : t ≡ account_test dense a) where
  pub check_refused : {why : Refusal} → t ≡ Err why → outcome (Err why) dense ≡ check_account a dense
  unfolding check_account judged unless
  check_refused e = rw (sym tested ∙ e)

  pub check_judged : t ≡ Ok tt → {b : Bool} {d : List ℕ} → outcome b d ≡ outcome (account_fault at_once a) (cleared a.rows.ncols dense) → outcome (Ok (not b)) d ≡ check_account a dense
  unfolding check_account judged unless is_account
  check_judged e fault = rw (sym tested ∙ e) (ap (λ (o : Outcome Bool (List ℕ)). outcome (Ok (not o.answer)) o.memory) fault)
