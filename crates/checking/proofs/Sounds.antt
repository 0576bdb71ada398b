-- The call is sound: where it answers yes, a row is answered None exactly if it is a combination of the rows accepted before it.
-- Assumes nothing.
use Rattle.std.specs.Prelude.{Err, Ok, false, true}
use mathlib.Core.Path.{◌≡◌, refl, ap}
use mathlib.Core.Logic.{◌↔◌}
use mathlib.Core.Bool.{Bool, true, false}
use mathlib.Core.List.{List}
use Prim.Native.Nat.{ℕ, ◌<◌}
use native.Mathlib.Omega.{arith}
use lib.ListN.{length}
use Rattle.sparse.specs.Refusals.{Tested}
use Rattle.linear.specs.Combination.{Combination}
use Rattle.sparse.specs.Lent.{Outcome, outcome, unless}
use Rattle.sparse.specs.Rows.{row_at}
use Rattle.steps.specs.History.{at_once, accepted, values_in}
use Rattle.steps.specs.Rows.{value_of}
use Rattle.stepping.specs.Take.{cleared}
use Rattle.telling.specs.Answers.{none}
use Rattle.accounts.specs.Account.{Account, answer_at, is_account, told_in}
use Rattle.accounts.specs.Tests.{account_test}
use Rattle.accounts.proofs.Presents.{first_sound}
use Rattle.checking.specs.Check.{judged, check_account, Verdict}

-- yes: not refused, and an account
yes_parts : (t : Tested) (b : Bool) (dense after d : List ℕ) → outcome (Ok true) d ≡ unless Err t dense (outcome (Ok b) after) → (t ≡ Ok tt) × (b ≡ true)
unfolding unless
yes_parts (Ok _) true dense after d e = (refl, refl)
yes_parts (Ok _) false dense after d e =
    let q : ◌≡◌ {A = Verdict} (Ok true) (Ok false) = ap (λ (o : Outcome Verdict (List ℕ)). o.answer) e in
    let z : ◌≡◌ {A = ℕ} 0 1 = cc in
    absurd (omega arith)
yes_parts (Err r) b dense after d e =
    let q : ◌≡◌ {A = Verdict} (Ok true) (Err r) = ap (λ (o : Outcome Verdict (List ℕ)). o.answer) e in
    let z : ◌≡◌ {A = ℕ} 0 1 = cc in
    absurd (omega arith)

module _ (a : Account) (dense d : List ℕ) (yes_given : outcome (Ok true) d ≡ check_account a dense) where
  parts : (account_test dense a ≡ Ok tt) × (is_account at_once a ≡ true)
  unfolding check_account judged
  parts = yes_parts (account_test dense a) (is_account at_once a) dense (cleared a.rows.ncols dense) d yes_given

  pub check_sound : (i : ℕ) → i < a.rows.nrows → (answer_at a i ≡ none) ↔ Combination a.modulus a.rows.ncols (length (accepted (told_in a i))) (values_in (accepted (told_in a i))) (value_of (row_at a.rows i))
  check_sound = first_sound dense a parts.0 parts.1
