-- A row past step 1: what its walk asks for, and what is told and seen after it.
-- Assumes nothing.
use Rattle.std.specs.Prelude.{None, Ok, Some}
use mathlib.Core.Path.{◌≡◌, refl, sym, ap, subst, ◌∙◌}
use mathlib.Core.Bool.{Bool, true, false, ◌||◌}
use mathlib.Core.List.{List}
use Prim.Native.Nat.{ℕ, ◌+◌, ◌≤◌, ◌<◌}
use native.Mathlib.Omega.{arith}
use borrow.Author.Tests.{lt-ltb, le-ltb, eqb-false, not-false}
use lib.Dec.{eqb}
use lib.ListN.{length}
use Rattle.sparse.specs.Refusals.{Tested}
use Rattle.lists.proofs.Tables.{length-table}
use Rattle.field.specs.Prime.{is_modulus}
use Rattle.field.proofs.Primes.{modulus_iff}
use Rattle.sparse.specs.Lent.{outcome}
use Rattle.sparse.specs.Rows.{Entry, entries}
use Rattle.sparse.specs.Tests.{modulus_test}
use Rattle.sparse.specs.declared.Refusal.TheVariants.{Modulus}
use Rattle.sparse.proofs.Firsts.{refuse_good, neither}
use Rattle.meaning.proofs.RowLists.{length-entries}
use Rattle.state.specs.Fresh.{keeps}
use Rattle.state.specs.Memory.{Memory}
use Rattle.state.specs.Room.{room_test}
use Rattle.state.specs.declared.Counts.{Counts}
use Rattle.state.specs.declared.Mode.{Mode}
use Rattle.state.specs.declared.Mode.TheVariants.{Full, Pattern, None as NoL}
use Rattle.walk.specs.Left.{answer_of}
use Rattle.walk.specs.Step.{is_none, Taken, step, Answer}
use Rattle.walk.specs.Step as S
use Rattle.steps.specs.History.{at_once}
use Rattle.steps.specs.Setting.{Inverts, Echelon}
use Rattle.steps.proofs.Nones.{rows_few}
use Rattle.steps.proofs.Steps.{prime_inverts, step_added, step_not_added}
use Rattle.states.proofs.Echelons.{head_at, state_pivoted, state_echelon}
use Rattle.taking.specs.Rows.{Shown, shown, storing, Takes}
use Rattle.taking.specs.Stores.{Upper, Lower, kept_entries}
use Rattle.taking.specs.declared.Walked.{Walked}
use Rattle.stepping.specs.After.{one_if, after_walk}
use Rattle.stepping.specs.Asks.{Stands, Ready, Countable}
use Rattle.stepping.specs.Take.{Lists, lists, upper_of, lower_of, together, room_asked, step_of, counts_after, stepped, stored, took, row_step, step_row}
use Rattle.stepping.specs.declared.Stepped.{Stepped}
use Rattle.stepping.proofs.Clears.{cleared_zero}
use Rattle.stepping.proofs.Room.{URoom, LRoom, u_free, l_free, Parts, state_parts, none_kept}

-- step 1, by the number of columns
pub at_once_lem : (n rank : ℕ) (cols vals : List ℕ) → length cols ≡ length vals → at_once n rank (entries cols vals) ≡ eqb (length cols) 0 || eqb rank n
unfolding at_once
at_once_lem n rank cols vals same = ap (λ (k : ℕ). eqb k 0 || eqb rank n) (length-entries cols vals ∙ sym same)

-- room, by the same
pub not_asked : {b : Bool} (c : Counts) (cols vals : List ℕ) (m : Memory) → length cols ≡ length vals → b ≡ eqb (length cols) 0 || eqb c.rank c.ncols → b ≡ true → Ok tt ≡ room_asked c (entries cols vals) m
unfolding room_asked
not_asked c cols vals m same e h = rw (at_once_lem c.ncols c.rank cols vals same ∙ sym e ∙ h)

pub asked : {b : Bool} {r : Tested} (c : Counts) (cols vals : List ℕ) (m : Memory) → length cols ≡ length vals → b ≡ eqb (length cols) 0 || eqb c.rank c.ncols → b ≡ false → r ≡ room_test c m → r ≡ room_asked c (entries cols vals) m
unfolding room_asked
asked c cols vals m same e h found = rw (at_once_lem c.ncols c.rank cols vals same ∙ sym e ∙ h) found

-- what is counted is at most 1
pub at_most_one : {k : ℕ} (b : Bool) → k ≡ one_if b → k ≤ 1
unfolding one_if
at_most_one true e = omega arith
at_most_one false e = omega arith

-- U in memory that is a state
module _ (c : Counts) (o : Lists) (s : Stands c o) where
  pub parts : Parts c o.memory
  parts = state_parts c o.memory s.state

  abbrev above : S.Upper
  above = S.upper o.memory.u_cols o.memory.u_vals o.memory.u_ptrs o.memory.pivots

  unfoldable pub heads : ℕ → ℕ
  heads = head_at c.modulus c.ncols c.rank c.u_fill o.memory.u_cols o.memory.u_vals o.memory.u_ptrs o.memory.pivots s.opened parts.lost parts.fault

  pub stands_echelon : Echelon c.modulus c.ncols c.rank above heads
  unfolding heads
  stands_echelon = state_echelon _ _ _ _ _ _ _ _ s.opened parts.lost parts.fault

  pub stands_modulus : is_modulus c.modulus ≡ true
  unfolding modulus_test
  stands_modulus = not-false _ (refuse_good _ Modulus s.opened.modulus)

  pub stands_inverts : Inverts c.modulus
  stands_inverts = prime_inverts ((modulus_iff c.modulus).0 stands_modulus).0

  pub rank_low : c.rank ≤ c.ncols
  rank_low = rows_few stands_echelon

-- a row past step 1
module _ {c : Counts} {cols vals : List ℕ} {o : Lists} (r : Ready c cols vals o) (later : eqb (length cols) 0 || eqb c.rank c.ncols ≡ false) where
  abbrev es : List Entry
  es = entries cols vals

  abbrev u : S.Upper
  u = above c o r.stands

  past : at_once c.ncols c.rank es ≡ false
  past = at_once_lem c.ncols c.rank cols vals r.row.same ∙ later

  room : room_test c o.memory ≡ Ok tt
  unfolding room_asked
  room = rw past at r.room

  ends : (eqb (length cols) 0 ≡ false) × (eqb c.rank c.ncols ≡ false)
  ends = neither (eqb (length cols) 0) (eqb c.rank c.ncols) later

  some : 0 < length cols
  some = omega (arith, eqb-false (length cols) 0 ends.0)

  rank_lower : c.rank < c.ncols
  rank_lower = omega (arith, eqb-false c.rank c.ncols ends.1, rank_low c o r.stands)

  u_has : URoom c.ncols c.rank c.u_fill o.memory.u_cols o.memory.u_vals o.memory.u_ptrs
  u_has = u_free c o.memory room (omega (arith, rank_lower))

  l_has : LRoom c.mode (c.rank + 1) c.l_rows c.l_fill o.memory.l_cols o.memory.l_vals o.memory.l_ptrs
  l_has = l_free c o.memory room

  long : length o.dense ≡ c.ncols
  long = ap length r.zero ∙ length-table c.ncols (λ j. 0)

  module _ (on : Bool) where
    abbrev t : Taken
    t = step on c.modulus c.ncols c.rank u es

    -- a row of U has at most a place for each column
    few : (a : Answer) → t.answer ≡ a → length t.u ≤ c.ncols
    few (Some g) e = (step_added on c.modulus c.ncols c.rank u (heads c o r.stands) (stands_inverts c o r.stands) (stands_echelon c o r.stands) es r.row.clean e).u_room
    few None e = let none = (step_not_added on c.modulus c.ncols c.rank u (heads c o r.stands) (stands_inverts c o r.stands) (stands_echelon c o r.stands) es r.row.clean e).none in omega (arith, ap length none)

    -- its walk may begin
    pub ready_takes : Takes on c.modulus (length o.dense) c.mode c.rank c.u_fill c.l_rows c.l_fill cols vals o.dense (upper_of o.memory) (lower_of o.memory)
    ready_takes = rw long (record {
      modulus = stands_modulus c o r.stands;
      narrow = r.stands.opened.wide;
      zero = r.zero;
      same = r.row.same;
      some = some;
      clean = r.row.clean;
      heads = heads c o r.stands;
      echelon = stands_echelon c o r.stands;
      pivoted = state_pivoted _ _ _ _ _ _ _ _ r.stands.opened (parts c o r.stands).lost (parts c o r.stands).fault;
      low = omega (arith, rank_lower, r.stands.opened.wide);
      u_columns = omega (arith, few t.answer refl, u_has.columns);
      u_numbers = omega (arith, few t.answer refl, u_has.numbers);
      u_pointer = u_has.pointers;
      l_columns = l_has.columns;
      l_numbers = l_has.numbers;
      l_pointer = l_has.pointers;
    })

    -- what is stored
    abbrev ended : Answer → Shown
    ended a = storing c.mode c.ncols c.rank c.u_fill c.l_rows c.l_fill a t (upper_of o.memory) (lower_of o.memory)

    kept_few : length t.l ≤ c.rank + 1 → c.l_fill + kept_entries c.mode t.l ≤ 1048576
    unfolding keeps kept_entries
    kept_few h = go c.mode l_has.few (λ k. (none_kept c.mode c _ _ _ k (parts c o r.stands).multipliers).1)
      where
        go : (mode : Mode) → (keeps mode ≡ true → c.l_fill + (c.rank + 1) ≤ 1048576) → (keeps mode ≡ false → c.l_fill ≡ 0) → c.l_fill + kept_entries mode t.l ≤ 1048576
        go Full some none = omega (arith, some refl)
        go Pattern some none = omega (arith, some refl)
        go NoL some none = omega (arith, none refl)

    rows_low : c.l_rows ≤ 1048576
    unfolding keeps
    rows_low = go c.mode l_has.low (λ k. (none_kept c.mode c _ _ _ k (parts c o r.stands).multipliers).0)
      where
        go : (mode : Mode) → (keeps mode ≡ true → c.l_rows + 1 < 1048576) → (keeps mode ≡ false → c.l_rows ≡ 0) → c.l_rows ≤ 1048576
        go Full some none = omega (arith, some refl)
        go Pattern some none = omega (arith, some refl)
        go NoL some none = omega (arith, none refl)

    -- what is told after it, and that it can be counted
    pub record Told (a : Answer) : Type 0 where
      pub countable : Countable c (ended a).told
      pub same : outcome (after_walk c (ended a).told) (lists (together (ended a).u (ended a).l) (ended a).dense) ≡ outcome (took c t o.memory).answer (lists (took c t o.memory).memory o.dense)

    tell : (a : Answer) → t.answer ≡ a → Told a
    unfolding storing took counts_after stored after_walk one_if answer_of is_none
    tell (Some g) e =
        let added = step_added on c.modulus c.ncols c.rank u (heads c o r.stands) (stands_inverts c o r.stands) (stands_echelon c o r.stands) es r.row.clean e in
        record {
          countable = record {
            head = omega (arith, added.within, r.stands.opened.wide);
            rank = omega (arith, rank_lower, r.stands.opened.wide);
            u = omega (arith, added.u_room, u_has.few);
            rows = rows_low;
            l = kept_few added.l_room;
          };
          same = rw (e, lt-ltb g c.ncols added.within, r.zero);
        }
    tell None e =
        let added = step_not_added on c.modulus c.ncols c.rank u (heads c o r.stands) (stands_inverts c o r.stands) (stands_echelon c o r.stands) es r.row.clean e in
        record {
          countable = record {
            head = r.stands.opened.wide;
            rank = omega (arith, rank_lower, r.stands.opened.wide);
            u = omega (arith, u_has.few);
            rows = rows_low;
            l = kept_few (omega (arith, added.l_room));
          };
          same = rw (e, added.none, le-ltb c.ncols c.ncols (omega arith), r.zero);
        }

    -- the walk's own words
    module _ {w : Walked} {v : Upper} {l : Lower} {dense : List ℕ}
        (walk : shown w v l dense ≡ storing c.mode (length o.dense) c.rank c.u_fill c.l_rows c.l_fill (step on c.modulus (length o.dense) c.rank u es).answer (step on c.modulus (length o.dense) c.rank u es) (upper_of o.memory) (lower_of o.memory)) where
      seen : shown w v l dense ≡ ended t.answer
      seen = rw long at walk

      pub ready_countable : Countable c w
      ready_countable = subst (λ (x : Shown). Countable c x.told) (sym seen) (tell t.answer refl).countable

      pub ready_returns : {x : Stepped} → x ≡ after_walk c w → outcome x (lists (together v l) dense) ≡ step_row on c es o
      unfolding step_row row_step step_of
      ready_returns {x} e = rw (past, cleared_zero c.ncols o.dense r.zero)
          (ap (λ (y : Stepped). outcome y (lists (together v l) dense)) e
          ∙ ap (λ (y : Shown). outcome (after_walk c y.told) (lists (together y.u y.l) y.dense)) seen
          ∙ (tell t.answer refl).same)

-- a row at step 1
pub ready_at_once : (on : Bool) {c : Counts} {cols vals : List ℕ} {o : Lists} → Ready c cols vals o → eqb (length cols) 0 || eqb c.rank c.ncols ≡ true → outcome (stepped None c) o ≡ step_row on c (entries cols vals) o
unfolding step_row row_step
ready_at_once on {c} {cols} {vals} {o} r e = rw (at_once_lem c.ncols c.rank cols vals r.row.same ∙ e, cleared_zero c.ncols o.dense r.zero)
