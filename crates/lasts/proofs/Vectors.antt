-- What a call that writes a vector comes to, in the form in which code gives it.
-- Assumes nothing.
use Rattle.std.specs.Prelude.{Err, Ok}
use mathlib.Core.Path.{◌≡◌, ap, ◌∙◌}
use mathlib.Core.List.{List}
use Prim.Native.Nat.{ℕ}
use lib.ListN.{length}
use Rattle.sparse.specs.Lent.{LentVector, vector_room_test, Outcome, outcome, unless}
use Rattle.sparse.specs.Put.{putting_vector, Built}
use Rattle.sparse.specs.Refusals.{◌else◌, lowest, Tested}
use Rattle.sparse.specs.Rows.{Entry}
use Rattle.sparse.specs.declared.Refusal.{Refusal}
use Rattle.lasts.specs.Gathers.{put_entries}

module _ (es : List Entry) (l : LentVector) where
  -- the tests refused
  pub vector_refused : {s t : Tested} {r : Refusal} → s ≡ t → s ≡ Err r → outcome (Err r) l ≡ putting_vector t es l
  unfolding putting_vector unless lowest ◌else◌
  vector_refused q e = rw (← q, e)

  -- other tests that find the same, and the same entries
  pub vector_same : {s t : Tested} {fs : List Entry} {o : Outcome Built LentVector} → s ≡ t → fs ≡ es → o ≡ putting_vector s fs l → o ≡ putting_vector t es l
  vector_same same each q = q ∙ (λ i. putting_vector (same i) (each i) l)

  module _ {s : Tested} {n : ℕ} (many : n ≡ length es) (q : s ≡ vector_room_test n l) where
    room_known : s ≡ vector_room_test (length es) l
    room_known = q ∙ ap (λ (k : ℕ). vector_room_test k l) many

    -- there was no room
    pub vector_no_room : {r : Refusal} → s ≡ Err r → outcome (Err r) l ≡ putting_vector (Ok tt) es l
    unfolding putting_vector unless lowest ◌else◌
    vector_no_room e = rw (← room_known, e)

    -- there was room, and the entries were written
    pub vector_made : {l' : LentVector} → s ≡ Ok tt → l' ≡ put_entries es l → outcome (Ok n) l' ≡ putting_vector (Ok tt) es l
    unfolding putting_vector unless lowest ◌else◌ put_entries
    vector_made e w = rw (← room_known, e) (λ i. outcome (Ok (many i)) (w i))
