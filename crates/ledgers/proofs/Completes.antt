-- The account check is complete: it says yes to the account of every reduction with values in L.
-- Assumes nothing.
use mathlib.Core.Path.{◌≡◌}
use mathlib.Core.Bool.{true, false}
use mathlib.Core.List.{List}
use Prim.Native.Nat.{ℕ}
use native.Mathlib.Omega.{arith}
use lib.ListN.{length}
use Rattle.sparse.specs.Rows.{compressed}
use Rattle.state.specs.Fresh.{counts}
use Rattle.state.specs.Memory.{Memory}
use Rattle.state.specs.State.{u_fault}
use Rattle.state.specs.declared.Counts.{Counts}
use Rattle.state.specs.declared.Mode.TheVariants.{Full}
use Rattle.steps.specs.History.{at_once, Told}
use Rattle.accounts.specs.Account.{Account, u_whole, l_row, is_account}
use Rattle.strides.specs.Strides.{Begun, Strides, still, stride}
use Rattle.ledgers.specs.Own.{account_of}
use Rattle.ledgers.specs.Taken.{Took}
use Rattle.ledgers.proofs.Balances.{Balanced, ledger_balanced, balanced_account}
use Rattle.ledgers.proofs.Judges.{books_of}
use Rattle.ledgers.proofs.Ledgers.{Ledger, empty, ledger_same}
use Rattle.ledgers.proofs.Owns.{own_many, own_tells, own_rank, own_sound, own_rows, own_alike}
use Rattle.ledgers.proofs.Pages.{books_in, ledger_more}
use Rattle.ledgers.proofs.Takens.{Stood, strides_stood, took_stood}

-- the rows taken have a ledger
strides_ledger : {p n : ℕ} {from : Memory} → Begun Full p n from → {ts : List Told} {c : Counts} {m : Memory} → Strides p n (counts Full p n 0 0 0 0) from ts c m → Ledger p n (books_in m) ts c.rank c.l_rows
strides_ledger start still = empty
strides_ledger start (stride ts c m before on es row room) =
    let k = (strides_stood start before).kept in
    rw (← k.modulus, ← k.ncols) (ledger_more on c m k.stands k.mode es (rw (k.modulus, k.ncols) row) ts (rw (k.modulus, k.ncols) (strides_ledger start before)) room)

pub took_ledger : {p n : ℕ} {ts : List Told} {c : Counts} {m : Memory} → Took Full p n ts c m → Ledger p n (books_in m) ts c.rank c.l_rows
took_ledger took = strides_ledger took.start took.strides

module _ {p n : ℕ} {ts : List Told} {c : Counts} {m : Memory} (took : Took Full p n ts c m) where
  abbrev a : Account
  a = account_of p n ts c m

  stood : Stood Full p n ts c m
  stood = took_stood took

  ledger : Ledger p n (books_of (u_whole a) (l_row a)) ts c.rank c.l_rows
  ledger = ledger_same (own_alike p n ts c m stood.kept.stands stood.kept.mode) (took_ledger took)

  balanced : Balanced a (length ts) c.rank c.l_rows
  unfolding account_of compressed
  balanced =
      ledger_balanced a (omega (arith, stood.kept.stands.opened.wide, stood.kept.ncols)) (own_tells p n ts c m)
      (omega (arith, own_rank p n ts c m stood.kept.stands)) (omega (arith, own_rows p n ts c m stood.kept.stands stood.kept.mode)) ledger

  -- the check says yes
  pub complete : is_account at_once (account_of p n ts c m) ≡ true
  complete =
      let s = stood.kept.stands in
      let sound : u_fault a.modulus (u_whole a) a.memory.pivots ≡ false = (unfold account_of in own_sound p n ts c m s stood.kept.modulus stood.kept.ncols) in
      let many : a.rows.nrows ≡ length ts = (unfold account_of in own_many n ts) in
      balanced_account a sound balanced many (own_rank p n ts c m s) (own_rows p n ts c m s stood.kept.mode)
