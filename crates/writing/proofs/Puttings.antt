-- What tests of sizes and of room leave, and what a call that writes rows comes to, in the form in which code gives it.
-- Assumes nothing.
use Rattle.std.specs.Prelude.{Err, Ok}
use mathlib.Core.Path.{◌≡◌, sym}
use mathlib.Core.List.{List, flatten}
use Prim.Native.Nat.{ℕ, ◌+◌}
use lib.Dec.{ltb}
use lib.ListN.{length}
use borrow.Author.Tests.{ltb-false}
use Rattle.sparse.specs.Lent.{Lent, room_test, outcome, unless}
use Rattle.sparse.specs.Put.{put_rows, putting}
use Rattle.sparse.specs.Refusals.{◌else◌, lowest, Tested}
use Rattle.sparse.specs.Rows.{Entry}
use Rattle.sparse.specs.declared.Refusal.{Refusal}
use Rattle.sparse.specs.declared.Refusal.TheVariants.{Room as NoRoom}
use Rattle.sparse.proofs.Firsts.{refuse_good, neither}
use Rattle.writing.proofs.Writing.{Room}

-- 14 finds nothing
pub roomy : (rs : List (List Entry)) (l : Lent) → room_test (length rs) (length (flatten rs)) l ≡ Ok tt → Room rs l
unfolding room_test
roomy rs l e =
    let long = neither _ (ltb (length l.values) (length (flatten rs))) (refuse_good _ NoRoom e) in
    let front = neither (ltb (length l.row_ptrs) (length rs + 1)) (ltb (length l.col_idcs) (length (flatten rs))) long.0 in
    record { pointers = ltb-false _ _ front.0; columns = ltb-false _ _ front.1; numbers = ltb-false _ _ long.1 }

-- how many rows, and how many entries, as code reckons them
pub record Sized (rs : List (List Entry)) (rows entries : ℕ) : Type 0 where
  pub many : length rs ≡ rows
  pub long : length (flatten rs) ≡ entries

-- room for so many is room for the rows
pub room_known : (rs : List (List Entry)) (l : Lent) {s : Tested} {n k : ℕ} → Sized rs n k → s ≡ room_test n k l → s ≡ Ok tt → room_test (length rs) (length (flatten rs)) l ≡ Ok tt
room_known rs l size q e = rw (size.many, size.long, ← q, e)

module _ {t : Tested} (rs : List (List Entry)) (l : Lent) where
  -- the tests refused
  pub put_refused : {s : Tested} {r : Refusal} → s ≡ t → s ≡ Err r → outcome (Err r) l ≡ putting t rs l
  unfolding putting unless lowest ◌else◌
  put_refused q e = rw (← q, e)

  -- they found nothing, and there was no room
  pub put_no_room : {s : Tested} {r : Refusal} {n k : ℕ} → t ≡ Ok tt → Sized rs n k → s ≡ room_test n k l → s ≡ Err r → outcome (Err r) l ≡ putting t rs l
  unfolding putting unless lowest ◌else◌
  put_no_room good size q e = rw (good, size.many, size.long, ← q, e)

  -- there was room, and the rows were written
  pub put_made : {s : Tested} {n k : ℕ} {l' : Lent} → t ≡ Ok tt → Sized rs n k → s ≡ room_test n k l → s ≡ Ok tt → l' ≡ put_rows rs l → outcome (Ok k) l' ≡ putting t rs l
  unfolding putting unless lowest ◌else◌
  put_made good size q e w = rw (good, room_known rs l size q e) (λ i. outcome (Ok (sym size.long i)) (w i))
