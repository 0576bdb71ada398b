-- `check_account` answers `Ok true` to our own reduction's account.
-- Assumes nothing.
use Rattle.std.specs.Prelude.{Ok, true}
use mathlib.Core.Path.{◌≡◌}
use mathlib.Core.List.{List, flatten}
use Prim.Native.Nat.{ℕ, ◌≤◌}
use lib.ListN.{length}
use Rattle.sparse.specs.Lent.{outcome, unless}
use Rattle.sparse.specs.Rows.{compressed}
use Rattle.state.specs.Memory.{Memory}
use Rattle.state.specs.declared.Counts.{Counts}
use Rattle.state.specs.declared.Mode.TheVariants.{Full}
use Rattle.steps.specs.History.{Told}
use Rattle.stepping.specs.Take.{cleared}
use Rattle.checking.specs.Check.{judged, check_account}
use Rattle.strides.specs.Strides.{rows_of_told}
use Rattle.ledgers.specs.Own.{account_of}
use Rattle.ledgers.specs.Taken.{Took}
use Rattle.ledgers.proofs.Completes.{complete}
use Rattle.ledgers.proofs.Testeds.{complete_tested}

-- rows and entries within the limits, and dense memory with a place for each column
pub own_yes : {p n : ℕ} {ts : List Told} {c : Counts} {m : Memory} → Took Full p n ts c m → length ts ≤ 1024 → length (flatten (rows_of_told ts)) ≤ 65536 → (dense : List ℕ) → n ≤ length dense
    → check_account (account_of p n ts c m) dense ≡ outcome (Ok true) (cleared n dense)
unfolding check_account judged unless account_of compressed
own_yes took high few dense long = rw (complete_tested took high few dense long, complete took)
