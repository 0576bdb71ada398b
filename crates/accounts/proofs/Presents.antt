-- An account that isn't refused: soundness holds of it, for edition 1 as for any rule that spares only combinations.
-- Assumes nothing.
use Rattle.std.specs.Prelude.{Ok}
use mathlib.Core.Path.{◌≡◌}
use mathlib.Core.Logic.{◌↔◌}
use mathlib.Core.Bool.{true, not}
use mathlib.Core.List.{List}
use Prim.Native.Nat.{ℕ, ◌<◌}
use borrow.Author.Tests.{ltb-false, not-false}
use lib.Dec.{ltb}
use lib.ListN.{length}
use Rattle.field.specs.Prime.{Prime, is_modulus}
use Rattle.field.proofs.Primes.{modulus_iff}
use Rattle.linear.specs.Combination.{Combination}
use Rattle.sparse.specs.Rows.{row_at}
use Rattle.sparse.specs.Tests.{modulus_test}
use Rattle.sparse.specs.declared.Refusal.TheVariants.{Modulus, Mismatch}
use Rattle.sparse.proofs.Firsts.{refuse_good, neither, lowest_good}
use Rattle.steps.specs.History.{at_once, accepted, values_in}
use Rattle.steps.specs.Rows.{value_of}
use Rattle.telling.specs.Answers.{none}
use Rattle.accounts.specs.Account.{Account, answer_at, is_account, told_in}
use Rattle.accounts.specs.Tests.{memory_test, account_test, Presented}
use Rattle.accounts.proofs.Rules.{once_spares}
use Rattle.accounts.proofs.Sounds.{sound}

module _ (dense : List ℕ) (a : Account) (good : account_test dense a ≡ Ok tt) where
  -- its modulus is a prime
  pub presented_prime : Prime a.modulus
  unfolding account_test modulus_test
  presented_prime = ((modulus_iff a.modulus).0 (not-false (is_modulus a.modulus) (refuse_good (not (is_modulus a.modulus)) Modulus (lowest_good _ _ good).0))).0

  -- its rows are clean, and each column has a place in the pivot table
  pub presented : Presented a
  unfolding account_test memory_test
  presented =
      let rest = lowest_good _ _ (lowest_good _ _ (lowest_good _ _ (lowest_good _ _ good).1).1).1 in
      let short = refuse_good _ Mismatch (lowest_good _ _ rest.1).0 in
      record { rows = rest.0; table = ltb-false (length a.memory.pivots) a.rows.ncols (neither (ltb (length dense) a.rows.ncols) (ltb (length a.memory.pivots) a.rows.ncols) short).1 }

  -- edition 1: where the check says yes, None means a combination of the rows accepted before
  pub first_sound : is_account at_once a ≡ true → (i : ℕ) → i < a.rows.nrows → (answer_at a i ≡ none) ↔ Combination a.modulus a.rows.ncols (length (accepted (told_in a i))) (values_in (accepted (told_in a i))) (value_of (row_at a.rows i))
  first_sound right = sound at_once once_spares a presented_prime presented right
