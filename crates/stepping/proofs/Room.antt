-- What the test of room gives, in sums; and the parts of a state.
-- Assumes nothing.
use Rattle.std.specs.Prelude.{Ok}
use mathlib.Core.Path.{◌≡◌, refl}
use mathlib.Core.Bool.{true, false, not}
use mathlib.Core.List.{List}
use Prim.Native.Nat.{ℕ, ◌+◌, ◌-◌, ◌≤◌, ◌<◌}
use native.Mathlib.Omega.{arith}
use borrow.Author.Tests.{leb-false, ltb-false, eqb-true, not-false}
use lib.Dec.{leb, ltb, eqb}
use lib.ListN.{length}
use Rattle.sparse.proofs.Firsts.{refuse_good, neither}
use Rattle.state.specs.Fresh.{keeps}
use Rattle.state.specs.Memory.{Memory, at_most, places}
use Rattle.state.specs.Room.{u_full, pattern_full, l_full, room_test}
use Rattle.state.specs.State.{u_fault, u_lost, u_rows, u_of, l_fault, state_test}
use Rattle.state.specs.declared.Counts.{Counts}
use Rattle.state.specs.declared.Mode.{Mode}
use Rattle.state.specs.declared.Mode.TheVariants.{Full, Pattern, None}
use Rattle.state.proofs.Faults.{held, limited}

-- so many are free among the places of a list
free : (fill k : ℕ) (xs : List ℕ) → 0 < k → ltb (places xs - fill) k ≡ false → (fill + k ≤ length xs) × (fill + k ≤ 1048576)
unfolding places
free fill k xs some e =
    let h : k ≤ at_most (length xs) - fill = ltb-false (at_most (length xs) - fill) k e in
    let fits : fill + k ≤ length xs = omega (arith, held {n = length xs} refl) in
    let few : fill + k ≤ 1048576 = omega (arith, limited (length xs) refl) in
    (fits, few)

-- a next pointer is free
pointer : (rows : ℕ) (xs : List ℕ) → leb (places xs) (rows + 1) ≡ false → (rows + 1 < length xs) × (rows + 1 < 1048576)
unfolding places
pointer rows xs e =
    let h : rows + 1 < at_most (length xs) = leb-false (at_most (length xs)) (rows + 1) e in
    let fits : rows + 1 < length xs = omega (arith, held {n = length xs} refl) in
    let few : rows + 1 < 1048576 = omega (arith, limited (length xs) refl) in
    (fits, few)

-- free places of U for n entries, and a pointer
pub record URoom (n rank fill : ℕ) (cols vals ptrs : List ℕ) : Type 0 where
  pub columns : fill + n ≤ length cols
  pub numbers : fill + n ≤ length vals
  pub pointers : rank + 1 < length ptrs
  pub few : fill + n ≤ 1048576

-- free places of L for k entries, and a pointer, by what is kept of it
pub record LRoom (mode : Mode) (k rows fill : ℕ) (cols vals ptrs : List ℕ) : Type 0 where
  pub columns : keeps mode ≡ true → fill + k ≤ length cols
  pub numbers : mode ≡ Full → fill + k ≤ length vals
  pub pointers : keeps mode ≡ true → rows + 1 < length ptrs
  pub few : keeps mode ≡ true → fill + k ≤ 1048576
  pub low : keeps mode ≡ true → rows + 1 < 1048576

u_room : (n rank fill : ℕ) (cols vals ptrs : List ℕ) → 0 < n → u_full n rank fill cols vals ptrs ≡ false → URoom n rank fill cols vals ptrs
unfolding u_full
u_room n rank fill cols vals ptrs some e =
    let last = neither _ _ e in
    let first = neither (ltb (places cols - fill) n) (ltb (places vals - fill) n) last.0 in
    record {
      columns = (free fill n cols some first.0).0;
      numbers = (free fill n vals some first.1).0;
      pointers = (pointer rank ptrs last.1).0;
      few = (free fill n cols some first.0).1;
    }

pattern_room : (mode : Mode) (rank rows fill : ℕ) (cols vals ptrs : List ℕ) → (mode ≡ Full → fill + (rank + 1) ≤ length vals) → pattern_full rank rows fill cols ptrs ≡ false → LRoom mode (rank + 1) rows fill cols vals ptrs
unfolding pattern_full
pattern_room mode rank rows fill cols vals ptrs numbers e =
    let both = neither _ _ e in
    let some : 0 < rank + 1 = omega arith in
    record {
      columns = λ k. (free fill (rank + 1) cols some both.0).0;
      numbers = numbers;
      pointers = λ k. (pointer rows ptrs both.1).0;
      few = λ k. (free fill (rank + 1) cols some both.0).1;
      low = λ k. (pointer rows ptrs both.1).1;
    }

no_true : {P : Type 0} → false ≡ true → P
no_true e = let z : ◌≡◌ {A = ℕ} 0 1 = cc in absurd (omega arith)

l_room : (mode : Mode) (c : Counts) (cols vals ptrs : List ℕ) → l_full mode c cols vals ptrs ≡ false → LRoom mode (c.rank + 1) c.l_rows c.l_fill cols vals ptrs
unfolding l_full keeps
l_room Full c cols vals ptrs e =
    let both = neither _ _ e in
    let some : 0 < c.rank + 1 = omega arith in
    pattern_room Full c.rank c.l_rows c.l_fill cols vals ptrs (λ k. (free c.l_fill (c.rank + 1) vals some both.1).0) both.0
l_room Pattern c cols vals ptrs e = pattern_room Pattern c.rank c.l_rows c.l_fill cols vals ptrs (λ k. let z : ◌≡◌ {A = ℕ} 0 1 = cc in absurd (omega arith)) e
l_room None c cols vals ptrs e = record { columns = no_true; numbers = λ k. let z : ◌≡◌ {A = ℕ} 0 1 = cc in absurd (omega arith); pointers = no_true; few = no_true; low = no_true }

module _ (c : Counts) (m : Memory) where
  -- by 14
  module _ (e : room_test c m ≡ Ok tt) where
    full : (u_full c.ncols c.rank c.u_fill m.u_cols m.u_vals m.u_ptrs ≡ false) × (l_full c.mode c m.l_cols m.l_vals m.l_ptrs ≡ false)
    unfolding room_test
    full = neither _ _ (refuse_good _ _ e)

    pub u_free : 0 < c.ncols → URoom c.ncols c.rank c.u_fill m.u_cols m.u_vals m.u_ptrs
    u_free some = u_room _ _ _ _ _ _ some full.0

    pub l_free : LRoom c.mode (c.rank + 1) c.l_rows c.l_fill m.l_cols m.l_vals m.l_ptrs
    l_free = l_room c.mode c m.l_cols m.l_vals m.l_ptrs full.1

  -- by 13
  pub record Parts : Type 0 where
    pub lost : u_lost c.rank c.u_fill m.u_cols m.u_vals m.u_ptrs ≡ false
    pub fault : u_fault c.modulus (u_rows c.ncols c.rank c.u_fill m.u_cols m.u_vals m.u_ptrs) m.pivots ≡ false
    pub multipliers : l_fault c.mode c m.l_cols m.l_vals m.l_ptrs ≡ false

  pub state_parts : state_test c m ≡ Ok tt → Parts
  unfolding state_test u_of
  state_parts e =
      let all = neither _ _ (refuse_good _ _ e) in
      let u = neither _ _ all.0 in
      record { lost = u.0; fault = u.1; multipliers = all.1 }

-- an L that isn't kept has no rows and no entries
pub none_kept : (mode : Mode) (c : Counts) (cols vals ptrs : List ℕ) → keeps mode ≡ false → l_fault mode c cols vals ptrs ≡ false → (c.l_rows ≡ 0) × (c.l_fill ≡ 0)
unfolding keeps l_fault
none_kept Full c cols vals ptrs k e = let z : ◌≡◌ {A = ℕ} 0 1 = cc in absurd (omega arith)
none_kept Pattern c cols vals ptrs k e = let z : ◌≡◌ {A = ℕ} 0 1 = cc in absurd (omega arith)
none_kept None c cols vals ptrs k e =
    let both = neither (not (eqb c.l_rows 0)) (not (eqb c.l_fill 0)) e in
    (eqb-true c.l_rows 0 (not-false _ both.0), eqb-true c.l_fill 0 (not-false _ both.1))
