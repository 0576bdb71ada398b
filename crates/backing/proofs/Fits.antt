-- The rows of back substitution: how many entries they have, and that they fit the places that 14 asks for.
-- Assumes nothing.
use mathlib.Core.Path.{◌≡◌, sym, ap, subst, ◌∙◌}
use mathlib.Core.Bool.{◌||◌}
use mathlib.Core.List.{List, [], ◌∷◌, flatten}
use Prim.Native.Nat.{ℕ, zero, suc, ◌+◌, ◌-◌, ◌*◌, ◌≤◌, ◌<◌}
use native.Mathlib.Nat.{suc-mul, zero-mul}
use native.Mathlib.Numerals.{add-one}
use native.Mathlib.Omega.{arith}
use borrow.Author.Tests.{ltb-false}
use lib.Dec.{ltb}
use lib.ListN.{length, get_or, length-map}
use lib.Seq.{take_all}
use Rattle.lists.specs.Onto.{◌onto◌}
use Rattle.lists.proofs.Ontos.{length-onto}
use Rattle.lists.proofs.Tables.{length-table, get_or-table}
use Rattle.sparse.specs.Lent.{Lent, lent, room_test}
use Rattle.sparse.specs.Rows.{Entry, offset}
use Rattle.sparse.specs.declared.Refusal.TheVariants.{Room as NoRoom}
use Rattle.sparse.proofs.Firsts.{refuse_good, neither}
use Rattle.state.specs.Memory.{Memory}
use Rattle.state.specs.declared.Counts.{Counts}
use Rattle.walk.specs.Step.{pivot_at}
use Rattle.steps.specs.Setting.{Inverts}
use Rattle.writing.proofs.Writing.{Room, offset_more}
use Rattle.reduced.specs.Building.{Falling, Built, finished}
use Rattle.reduced.specs.Order.{pivot_columns, column_down}
use Rattle.reduced.proofs.Builds.{finished_built}
use Rattle.reduced.proofs.Rooms.{built_few}
use Rattle.backing.specs.Asks.{Orders, numbers_down, Builds}
use Rattle.backing.specs.Back.{down_row, back_row, back_rows}
use Rattle.backing.proofs.Downs.{inverts, rank_low, falling, many_down}

-- the second U's memory once the order is written there
abbrev pub begun : Counts → Memory → Lent → Lent
begun c m l = lent ((0 ∷ numbers_down m.pivots c.ncols) onto l.row_ptrs) l.col_idcs l.values

module _ {c : Counts} {m : Memory} {l : Lent} {dense₀ : List ℕ} (b : Builds c m l dense₀) where
  abbrev p : ℕ
  p = c.modulus

  abbrev n : ℕ
  n = c.ncols

  abbrev k : ℕ
  k = c.rank

  abbrev rows : ℕ → List Entry
  rows = down_row c m

  abbrev h : ℕ → ℕ
  h = column_down m.pivots n

  pub inv : Inverts p
  inv = inverts c m b.opened b.lost b.fault

  pub falls : Falling p n k rows h
  falls = falling c m b.opened b.lost b.fault

  pub low_rank : k ≤ n
  low_rank = rank_low c m b.opened b.lost b.fault

  pub numbers_many : length (numbers_down m.pivots n) ≡ k
  unfolding numbers_down
  numbers_many = length-map (pivot_columns m.pivots n) (pivot_at m.pivots) ∙ many_down c m b.opened b.lost b.fault

  pub rank_few : k ≤ 1024
  rank_few = omega (arith, low_rank, b.opened.wide)

  -- back substitution as values
  pub was : (e : ℕ) → Built p n rows e (finished p n rows e)
  was = finished_built p n b.opened.wide rows

  row_few : (i : ℕ) → i < k → length (get_or (back_rows c m) i []) ≤ n - k + 1
  unfolding back_rows back_row
  row_few i q = rw (get_or-table k (back_row c m) i [] q) (built_few falls inv q (was i))

  pub rows_many : length (back_rows c m) ≡ k
  unfolding back_rows
  rows_many = length-table k (back_row c m)

  pub few : (i : ℕ) → i ≤ k → offset (back_rows c m) i ≤ i * (n - k + 1)
  unfolding offset flatten
  few zero q = omega (arith, zero-mul (n - k + 1))
  few (suc i) q =
      let one : i + 1 ≡ suc i = add-one i in
      let next : offset (back_rows c m) (suc i) ≡ offset (back_rows c m) i + length (get_or (back_rows c m) i []) = ap (offset (back_rows c m)) (sym one) ∙ offset_more (back_rows c m) i (omega (arith, rows_many)) in
      omega (arith, next, few i (omega arith), row_few i q, suc-mul i (n - k + 1))

  all_few : length (flatten (back_rows c m)) ≤ k * (n - k + 1)
  unfolding offset
  all_few = subst (λ (rs : List (List Entry)). length (flatten rs) ≤ k * (n - k + 1)) (take_all k (back_rows c m) (omega (arith, rows_many))) (few k (omega arith))

  -- 14 leaves room
  pub record Roomy : Type 0 where
    pub pointers : k + 1 ≤ length l.row_ptrs
    pub columns : k * (n - k + 1) ≤ length l.col_idcs
    pub numbers : k * (n - k + 1) ≤ length l.values

  pub roomy : Roomy
  unfolding room_test
  roomy =
      let both = neither (ltb (length l.row_ptrs) (k + 1) || ltb (length l.col_idcs) (k * (n - k + 1))) (ltb (length l.values) (k * (n - k + 1))) (refuse_good _ NoRoom b.room) in
      let first = neither (ltb (length l.row_ptrs) (k + 1)) (ltb (length l.col_idcs) (k * (n - k + 1))) both.0 in
      record { pointers = ltb-false (length l.row_ptrs) (k + 1) first.0; columns = ltb-false (length l.col_idcs) (k * (n - k + 1)) first.1; numbers = ltb-false (length l.values) (k * (n - k + 1)) both.1 }

  pub begun_long : length (begun c m l).row_ptrs ≡ length l.row_ptrs
  begun_long = length-onto (0 ∷ numbers_down m.pivots n) l.row_ptrs (omega (arith, numbers_many, roomy.pointers))

  pub second_room : Room (back_rows c m) l
  second_room = record { pointers = omega (arith, roomy.pointers, rows_many); columns = omega (arith, all_few, roomy.columns); numbers = omega (arith, all_few, roomy.numbers) }

  pub room : Room (back_rows c m) (begun c m l)
  room = record { pointers = omega (arith, begun_long, second_room.pointers); columns = second_room.columns; numbers = second_room.numbers }

  -- the order has its places
  pub builds_orders : Orders n m.pivots l.row_ptrs
  builds_orders = record {
    table = b.opened.table;
    few = omega (arith, many_down c m b.opened b.lost b.fault, rank_few);
    places = omega (arith, many_down c m b.opened b.lost b.fault, roomy.pointers);
  }
