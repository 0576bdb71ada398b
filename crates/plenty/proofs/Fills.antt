-- A row adds at most a row of n entries to U and to L.
-- Assumes nothing.
use Rattle.std.specs.Prelude.{None, Some}
use mathlib.Core.Path.{◌≡◌, refl, ap}
use mathlib.Core.Bool.{Bool, true, false, cond}
use mathlib.Core.List.{List}
use Prim.Native.Nat.{ℕ, ◌+◌, ◌*◌, ◌≤◌, ◌<◌}
use native.Mathlib.Nat.{add-zero, add-mul, one-mul}
use native.Mathlib.Omega.{arith}
use borrow.Author.Tests.{eqb-false}
use lib.Dec.{eqb}
use lib.ListN.{length}
use Rattle.sparse.specs.Rows.{Entry}
use Rattle.sparse.proofs.Firsts.{neither}
use Rattle.state.specs.Fresh.{keeps}
use Rattle.state.specs.declared.Counts.{Counts}
use Rattle.state.specs.declared.Mode.{Mode}
use Rattle.state.specs.declared.Mode.TheVariants.{Full, Pattern, None as NoL}
use Rattle.walk.specs.Step.{is_none, Taken, Answer}
use Rattle.steps.specs.Added.{Added, NotAdded}
use Rattle.steps.specs.History.{at_once}
use Rattle.steps.specs.Rows.{CleanRow}
use Rattle.taking.specs.Stores.{kept_entries}
use Rattle.stepping.specs.Asks.{Stands}
use Rattle.stepping.specs.Take.{Lists, step_of, counts_after, step_row}
use Rattle.stepping.proofs.Walks.{heads, rank_low}
use Rattle.keeping.proofs.Keeps.{took_added, took_not_added}
use Rattle.keeping.proofs.Settings.{rows_in}
use Rattle.keeping.proofs.Ways.{step_ways}

-- one more row of n
pub one_row_more : (k n : ℕ) → (k + 1) * n ≡ k * n + n
one_row_more k n = omega (arith, add-mul k 1 n, one-mul n)

-- where a row is walked, there is a column without a pivot
pub rank_lower : (c : Counts) (es : List Entry) (o : Lists) → Stands c o → at_once c.ncols c.rank es ≡ false → c.rank < c.ncols
unfolding at_once
rank_lower c es o s e = omega (arith, eqb-false c.rank c.ncols (neither (eqb (length es) 0) (eqb c.rank c.ncols) e).1, rank_low c o s)

-- the counts c, and d after one row more
pub record OneMore (n : ℕ) (c d : Counts) : Type 0 where
  pub u_fill : c.u_fill ≤ c.rank * n → d.u_fill ≤ d.rank * n
  pub l_rows : d.l_rows ≤ c.l_rows + 1
  pub l_fill : d.l_fill ≤ c.l_fill + n

kept_few : (m : Mode) (es : List Entry) → kept_entries m es ≤ length es
unfolding kept_entries
kept_few Full es = omega arith
kept_few Pattern es = omega arith
kept_few NoL es = omega arith

kept_one : (b : Bool) → cond b 1 0 ≤ 1
kept_one true = omega arith
kept_one false = omega arith

module _ (on : Bool) (c : Counts) (es : List Entry) (o : Lists) (s : Stands c o) (row : CleanRow c.modulus c.ncols es) where
  abbrev t : Taken
  t = step_of on c es o.memory

  walked_more : c.rank < c.ncols → (a : Answer) → t.answer ≡ a → OneMore c.ncols c (counts_after c a t)
  unfolding counts_after is_none
  walked_more low (Some g) e =
      let a : Added c.modulus c.ncols c.rank (rows_in o.memory) (heads c o s) g t = took_added on c es o s row e in
      record {
        u_fill = λ h. omega (arith, h, a.u_room, one_row_more c.rank c.ncols);
        l_rows = omega (arith, kept_one (keeps c.mode));
        l_fill = omega (arith, kept_few c.mode t.l, a.l_room, low);
      }
  walked_more low None e =
      let a : NotAdded c.modulus c.ncols c.rank (heads c o s) t = took_not_added on c es o s row e in
      record {
        u_fill = λ h. rw (add-zero c.rank) (omega (arith, h, ap length a.none));
        l_rows = omega (arith, kept_one (keeps c.mode));
        l_fill = omega (arith, kept_few c.mode t.l, a.l_room, low);
      }

  pub step_more : OneMore c.ncols c (step_row on c es o).answer.counts
  step_more =
      step_ways on c es o (λ r. OneMore c.ncols c r.answer.counts)
      (λ e. record { u_fill = λ h. h; l_rows = omega arith; l_fill = omega arith })
      (λ e. walked_more (rank_lower c es o s e) t.answer refl)
