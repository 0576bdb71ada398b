-- Where there is plenty of room, and no more is filled than rows taken can fill, there is room for one row more.
-- Assumes nothing.
use Rattle.std.specs.Prelude.{Ok}
use mathlib.Core.Path.{◌≡◌, refl}
use mathlib.Core.Logic.{⊎_elim}
use mathlib.Core.Bool.{true, false}
use mathlib.Core.List.{List}
use Prim.Native.Nat.{ℕ, ◌+◌, ◌-◌, ◌*◌, ◌≤◌, ◌<◌}
use native.Mathlib.Nat.{mul-le-mul_right}
use native.Mathlib.Omega.{arith}
use borrow.Author.Tests.{le-ltb, lt-leb}
use lib.Dec.{leb, ltb}
use Rattle.lists.proofs.Find.{told}
use Rattle.sparse.specs.Refusals.{refuse}
use Rattle.sparse.specs.Rows.{Entry}
use Rattle.state.specs.Fresh.{keeps}
use Rattle.state.specs.Memory.{Memory, places}
use Rattle.state.specs.Room.{u_full, pattern_full, l_full, room_test}
use Rattle.state.specs.declared.Counts.{Counts}
use Rattle.state.specs.declared.Mode.{Mode}
use Rattle.state.specs.declared.Mode.TheVariants.{Full, Pattern, None}
use Rattle.steps.specs.History.{at_once}
use Rattle.stepping.specs.Asks.{Stands}
use Rattle.stepping.specs.Take.{Lists, room_asked}
use Rattle.plenty.specs.Plenty.{Plenty, SameLists}
use Rattle.plenty.proofs.Fills.{one_row_more, rank_lower}

-- no more is filled than the rows taken can fill: n places for each row of U, and for each row taken one row of L
pub record Filled (taken : ℕ) (c : Counts) : Type 0 where
  pub u_fill : c.u_fill ≤ c.rank * c.ncols
  pub l_rows : c.l_rows ≤ taken
  pub l_fill : c.l_fill ≤ taken * c.ncols

-- k rows of n fill no more than all rows of n but one
but_one : (k rows n : ℕ) → k < rows → k * n + n ≤ rows * n
but_one k rows n h = let most : k + 1 ≤ rows = omega arith in omega (arith, one_row_more k n, mul-le-mul_right n most)

-- so many are free
free : (fill need k rows n : ℕ) (xs : List ℕ) → rows * n ≤ places xs → fill ≤ k * n → k < rows → need ≤ n → ltb (places xs - fill) need ≡ false
free fill need k rows n xs plenty filled low few = le-ltb (places xs - fill) need (omega (arith, but_one k rows n low))

next : (k rows : ℕ) (xs : List ℕ) → rows < places xs → k < rows → leb (places xs) (k + 1) ≡ false
next k rows xs plenty low = lt-leb (places xs) (k + 1) (omega arith)

module _ (taken rows : ℕ) (c : Counts) (m : Memory) (f : Filled taken c) (low : taken < rows) (lower : c.rank < c.ncols) where
  u_room : {mode : Mode} → Plenty mode rows c.ncols m → u_full c.ncols c.rank c.u_fill m.u_cols m.u_vals m.u_ptrs ≡ false
  unfolding u_full
  u_room p = rw (
    free c.u_fill c.ncols c.rank c.ncols c.ncols m.u_cols p.u_cols f.u_fill lower (omega arith),
    free c.u_fill c.ncols c.rank c.ncols c.ncols m.u_vals p.u_vals f.u_fill lower (omega arith),
    next c.rank c.ncols m.u_ptrs p.u_ptrs lower,
  )

  pattern_room : {mode : Mode} → keeps mode ≡ true → Plenty mode rows c.ncols m → pattern_full c.rank c.l_rows c.l_fill m.l_cols m.l_ptrs ≡ false
  unfolding pattern_full
  pattern_room k p = rw (
    free c.l_fill (c.rank + 1) taken rows c.ncols m.l_cols (p.l_cols k) f.l_fill low (omega arith),
    next c.l_rows rows m.l_ptrs (p.l_ptrs k) (omega (arith, f.l_rows)),
  )

  l_room : (mode : Mode) → Plenty mode rows c.ncols m → l_full mode c m.l_cols m.l_vals m.l_ptrs ≡ false
  unfolding l_full keeps
  l_room Full p = rw (pattern_room {mode = Full} refl p, free c.l_fill (c.rank + 1) taken rows c.ncols m.l_vals (p.l_vals refl) f.l_fill low (omega arith))
  l_room Pattern p = pattern_room {mode = Pattern} refl p
  l_room None p = refl

  plenty_room : Plenty c.mode rows c.ncols m → room_test c m ≡ Ok tt
  unfolding room_test refuse
  plenty_room p = rw (u_room p, l_room c.mode p)

-- one row more has room
pub room_enough : (taken rows : ℕ) (c : Counts) (es : List Entry) (o : Lists) → Stands c o → Filled taken c → taken < rows → Plenty c.mode rows c.ncols o.memory → room_asked c es o.memory ≡ Ok tt
unfolding room_asked
room_enough taken rows c es o s f low p =
    ⊎_elim (λ e. rw e) (λ e. rw e (plenty_room taken rows c o.memory f low (rank_lower c es o s e) p)) (told (at_once c.ncols c.rank es))

-- lists of the same lengths have as much room
pub plenty_same : {mode : Mode} {rows n : ℕ} {v w : Memory} → SameLists v w → Plenty mode rows n w → Plenty mode rows n v
unfolding places
plenty_same s p = record {
  u_cols = rw s.u_cols p.u_cols;
  u_vals = rw s.u_vals p.u_vals;
  u_ptrs = rw s.u_ptrs p.u_ptrs;
  l_cols = λ k. rw s.l_cols (p.l_cols k);
  l_vals = λ k. rw s.l_vals (p.l_vals k);
  l_ptrs = λ k. rw s.l_ptrs (p.l_ptrs k);
}
