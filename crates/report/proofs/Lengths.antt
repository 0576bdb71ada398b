-- Memory that isn't too short, list by list.
-- Assumes nothing.
use Rattle.std.specs.Prelude.{Err, Ok}
use mathlib.Core.Path.{◌≡◌, sym, ◌∙◌}
use mathlib.Core.Bool.{Bool, true, false, cond}
use mathlib.Core.List.{List}
use Prim.Native.Nat.{ℕ, ◌*◌, ◌≤◌, ◌<◌}
use native.Mathlib.Decide.{dec_lt}
use native.Mathlib.Nat.{mul-le-mul}
use native.Mathlib.Omega.{arith}
use lib.Dec.{ltb}
use lib.ListN.{length}
use borrow.Author.Tests.{ltb-false, lt-ltb, le-ltb}
use Rattle.sparse.specs.Refusals.{refuse}
use Rattle.sparse.specs.declared.Refusal.{Refusal}
use Rattle.sparse.specs.declared.Refusal.TheVariants.{Mismatch, Room}
use Rattle.sparse.proofs.Firsts.{neither, refuse_good, lowest_good}
use Rattle.state.specs.Memory.{at_most}
use Rattle.state.specs.Memory as M
use Rattle.state.specs.declared.Mode.TheVariants.{Full}
use Rattle.plenty.specs.Plenty.{Plenty}
use Rattle.report.specs.Work.{Work, short, work_test}

-- a test by a bool that code found
pub refused_so : {b r : Bool} (why : Refusal) → r ≡ b → r ≡ true → Err why ≡ refuse b why
unfolding refuse
refused_so why e t = rw (sym e ∙ t)

pub good_so : {b r : Bool} (why : Refusal) → r ≡ b → r ≡ false → Ok tt ≡ refuse b why
unfolding refuse
good_so why e t = rw (sym e ∙ t)

-- the places that there are
pub record Places (w : Work) : Type 0 where
  pub dense : 64 ≤ length w.night.dense
  pub answers : 64 ≤ length w.night.answers
  pub pivots : 64 ≤ length w.night.memory.pivots
  pub row_ptrs : 65 ≤ length w.lent.row_ptrs
  pub col_idcs : 1024 ≤ length w.lent.col_idcs
  pub values : 1024 ≤ length w.lent.values
  pub u_cols : 4096 ≤ length w.night.memory.u_cols
  pub u_vals : 4096 ≤ length w.night.memory.u_vals
  pub u_ptrs : 65 ≤ length w.night.memory.u_ptrs
  pub l_cols : 4096 ≤ length w.night.memory.l_cols
  pub l_vals : 4096 ≤ length w.night.memory.l_vals
  pub l_ptrs : 65 ≤ length w.night.memory.l_ptrs
  pub out : 163840 ≤ length w.out

long : (n : ℕ) (xs : List ℕ) → short n xs ≡ false → n ≤ length xs
unfolding short
long n xs e = ltb-false (length xs) n e

pub places : (w : Work) → work_test w ≡ Ok tt → Places w
unfolding work_test
places w e =
    let first = lowest_good _ _ e in
    let narrow = neither _ (short 64 w.night.memory.pivots) (refuse_good _ Mismatch first.0) in
    let sides = neither (short 64 w.night.dense) (short 64 w.night.answers) narrow.0 in
    let ten = neither _ (short 163840 w.out) (refuse_good _ Room (lowest_good _ _ first.1).0) in
    let nine = neither _ (short 65 w.night.memory.l_ptrs) ten.0 in
    let eight = neither _ (short 4096 w.night.memory.l_vals) nine.0 in
    let seven = neither _ (short 4096 w.night.memory.l_cols) eight.0 in
    let six = neither _ (short 65 w.night.memory.u_ptrs) seven.0 in
    let five = neither _ (short 4096 w.night.memory.u_vals) six.0 in
    let four = neither _ (short 4096 w.night.memory.u_cols) five.0 in
    let three = neither _ (short 1024 w.lent.values) four.0 in
    let two = neither (short 65 w.lent.row_ptrs) (short 1024 w.lent.col_idcs) three.0 in
    record {
      dense = long 64 w.night.dense sides.0;
      answers = long 64 w.night.answers sides.1;
      pivots = long 64 w.night.memory.pivots narrow.1;
      row_ptrs = long 65 w.lent.row_ptrs two.0;
      col_idcs = long 1024 w.lent.col_idcs two.1;
      values = long 1024 w.lent.values three.1;
      u_cols = long 4096 w.night.memory.u_cols four.1;
      u_vals = long 4096 w.night.memory.u_vals five.1;
      u_ptrs = long 65 w.night.memory.u_ptrs six.1;
      l_cols = long 4096 w.night.memory.l_cols seven.1;
      l_vals = long 4096 w.night.memory.l_vals eight.1;
      l_ptrs = long 65 w.night.memory.l_ptrs nine.1;
      out = long 163840 w.out ten.1;
    }

-- places that are there are used, up to 1,048,576
used : (k : ℕ) (xs : List ℕ) → k ≤ 1048576 → k ≤ length xs → k ≤ M.places xs
unfolding M.places at_most
used k xs small h = go (dec_lt 1048576 (length xs))
  where
    go : Dec (1048576 < length xs) → k ≤ cond (ltb 1048576 (length xs)) 1048576 (length xs)
    go (yes l) = rw (lt-ltb 1048576 (length xs) l) small
    go (no l) = rw (le-ltb 1048576 (length xs) (omega arith)) h

-- 64 × 64 places are plenty within 64 rows and columns
pub plenty_within : (w : Work) (rows n : ℕ) → Places w → rows ≤ 64 → n ≤ 64 → Plenty Full rows n w.night.memory
plenty_within w rows n p high wide =
    let square : n * n ≤ 64 * 64 = mul-le-mul wide wide in
    let sides : rows * n ≤ 64 * 64 = mul-le-mul high wide in
    record {
      u_cols = omega (arith, square, used 4096 w.night.memory.u_cols (omega arith) p.u_cols);
      u_vals = omega (arith, square, used 4096 w.night.memory.u_vals (omega arith) p.u_vals);
      u_ptrs = omega (arith, wide, used 65 w.night.memory.u_ptrs (omega arith) p.u_ptrs);
      l_cols = λ k. omega (arith, sides, used 4096 w.night.memory.l_cols (omega arith) p.l_cols);
      l_vals = λ k. omega (arith, sides, used 4096 w.night.memory.l_vals (omega arith) p.l_vals);
      l_ptrs = λ k. omega (arith, high, used 65 w.night.memory.l_ptrs (omega arith) p.l_ptrs);
    }
