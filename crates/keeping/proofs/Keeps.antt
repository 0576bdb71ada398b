-- A row's step leaves a state, whatever its answer.
-- Assumes nothing.
use Rattle.std.specs.Prelude.{None, Ok, Some}
use mathlib.Core.Path.{◌≡◌, refl, sym, ap, ap₂, subst, ◌∙◌}
use mathlib.Core.Bool.{Bool, cond}
use mathlib.Core.List.{List, []}
use Prim.Native.Nat.{ℕ, ◌+◌, ◌<◌}
use native.Mathlib.Nat.{add-zero}
use native.Mathlib.Omega.{arith}
use lib.ListN.{length}
use Rattle.sparse.specs.Rows.{Entry, entry, entries}
use Rattle.state.specs.Fresh.{counts, keeps}
use Rattle.state.specs.Room.{room_test}
use Rattle.state.specs.declared.Counts.{Counts}
use Rattle.walk.specs.Step.{is_none, Taken, Answer}
use Rattle.steps.specs.Added.{Added, NotAdded}
use Rattle.steps.specs.Rows.{Each, Storable, CleanRow}
use Rattle.steps.proofs.Entries.{each_more}
use Rattle.steps.proofs.Steps.{step_added, step_not_added, step_echelon}
use Rattle.taking.specs.Stores.{with_u, kept_entries}
use Rattle.stepping.specs.Asks.{Stands, Offered}
use Rattle.stepping.specs.Take.{lower_of, Lists, lists, cleared, room_asked, step_of, counts_after, stored, step_row}
use Rattle.stepping.proofs.Room.{l_free}
use Rattle.stepping.proofs.Walks.{parts, heads, stands_inverts, stands_echelon}
use Rattle.keeping.proofs.Accepts.{stored_grown, accepted_found, accepted_opened, accepted_sound}
use Rattle.keeping.proofs.Lowers.{lower_keeps}
use Rattle.keeping.proofs.Settings.{rows_in, parts_state}
use Rattle.keeping.proofs.Ways.{room_there, step_ways}

module _ (on : Bool) (c : Counts) (es : List Entry) (o : Lists) (s : Stands c o) (row : CleanRow c.modulus c.ncols es) where
  abbrev t : Taken
  t = step_of on c es o.memory

  -- what the step adds, by its answer
  pub took_added : {g : ℕ} → t.answer ≡ Some g → Added c.modulus c.ncols c.rank (rows_in o.memory) (heads c o s) g t
  unfolding step_of
  took_added e = step_added on c.modulus c.ncols c.rank (rows_in o.memory) (heads c o s) (stands_inverts c o s) (stands_echelon c o s) es row e

  pub took_not_added : t.answer ≡ None → NotAdded c.modulus c.ncols c.rank (heads c o s) t
  unfolding step_of
  took_not_added e = step_not_added on c.modulus c.ncols c.rank (rows_in o.memory) (heads c o s) (stands_inverts c o s) (stands_echelon c o s) es row e

  module _ (room : room_test c o.memory ≡ Ok tt) (d : List ℕ) where
    accepted_stands : (g : ℕ) → t.answer ≡ Some g → Stands (counts_after c (Some g) t) (lists (stored c (Some g) t o.memory) d)
    unfolding counts_after stored with_u is_none step_of
    accepted_stands g e =
        let a : Added c.modulus c.ncols c.rank (rows_in o.memory) (heads c o s) g t = took_added e in
        let below : Each (λ e. e.col < c.rank + 1) t.l = subst (Each (λ e. e.col < c.rank + 1)) (sym a.last) (each_more {l = a.l} {e = entry c.rank a.diagonal} (record { at = λ i b. omega (arith, a.order.rows.at i b) }) (omega arith)) in
        let values : Each (λ e. Storable c.modulus e.value) t.l = subst (Each (λ e. Storable c.modulus e.value)) (sym a.last) (each_more {l = a.l} {e = entry c.rank a.diagonal} a.order.values a.value) in
        record {
          opened = accepted_opened s room a;
          state = parts_state (record {
            lost = accepted_found s room a;
            fault = accepted_sound s room a (step_echelon on c.modulus c.ncols c.rank (rows_in o.memory) (heads c o s) (stands_inverts c o s) (stands_echelon c o s) es row e (stored_grown s room a));
            multipliers = lower_keeps c (c.rank + 1) (c.u_fill + length t.u) t.l (lower_of o.memory) (omega arith) a.l_room below values c.mode (l_free c o.memory room) (parts c o s).multipliers;
          });
        }

    -- with no row for U its counts stay
    none_counts : t.u ≡ [] → counts_after c None t ≡ counts c.mode c.modulus c.ncols c.rank c.u_fill (c.l_rows + cond (keeps c.mode) 1 0) (c.l_fill + kept_entries c.mode t.l)
    unfolding counts_after is_none
    none_counts e =
        ap₂ (λ (r f : ℕ). counts c.mode c.modulus c.ncols r f (c.l_rows + cond (keeps c.mode) 1 0) (c.l_fill + kept_entries c.mode t.l))
        (add-zero c.rank) (ap (λ (l : List Entry). c.u_fill + length l) e ∙ add-zero c.u_fill)

    none_stands : t.answer ≡ None → Stands (counts_after c None t) (lists (stored c None t o.memory) d)
    unfolding stored
    none_stands e =
        let a : NotAdded c.modulus c.ncols c.rank (heads c o s) t = took_not_added e in
        rw (none_counts a.none) (record {
          opened = s.opened;
          state = parts_state (record {
            lost = (parts c o s).lost;
            fault = (parts c o s).fault;
            multipliers = lower_keeps c c.rank c.u_fill t.l (lower_of o.memory) (omega arith) (omega (arith, a.l_room)) a.order.rows a.order.values c.mode (l_free c o.memory room) (parts c o s).multipliers;
          });
        })

    answer_stands : (a : Answer) → t.answer ≡ a → Stands (counts_after c a t) (lists (stored c a t o.memory) d)
    answer_stands (Some g) e = accepted_stands g e
    answer_stands None e = none_stands e

-- a state again
pub step_stands : (on : Bool) (c : Counts) (cols vals : List ℕ) (o : Lists) → Stands c o → Offered c cols vals → room_asked c (entries cols vals) o.memory ≡ Ok tt
    → Stands (step_row on c (entries cols vals) o).answer.counts (step_row on c (entries cols vals) o).memory
step_stands on c cols vals o s row room =
    step_ways on c (entries cols vals) o (λ r. Stands r.answer.counts r.memory)
    (λ e. record { opened = s.opened; state = s.state })
    (λ e. answer_stands on c (entries cols vals) o s row.clean (room_there c (entries cols vals) o.memory room e) (cleared c.ncols o.dense) (step_of on c (entries cols vals) o.memory).answer refl)
