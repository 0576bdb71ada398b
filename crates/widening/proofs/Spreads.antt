-- The pivot table after inserting columns: at a moved column what stood at the old one, the mark in a new column, and
-- what stood past the columns.
-- Assumes nothing.
use mathlib.Core.Path.{◌≡◌, refl, ◌∙◌}
use mathlib.Core.List.{List}
use Prim.Native.Nat.{ℕ, ◌+◌, ◌≤◌, ◌<◌}
use native.Mathlib.Decide.{dec_lt}
use native.Mathlib.Omega.{arith}
use borrow.Author.Tests.{lt-ltb, le-ltb, eq-eqb, ne_eqb, eqb-true}
use lib.Dec.{eqb}
use lib.ListN.{length, get_or, drop, get_or-append}
use Rattle.lists.specs.Onto.{◌onto◌}
use Rattle.lists.specs.Table.{table}
use Rattle.lists.proofs.Find.{least_only, least_none}
use Rattle.lists.proofs.Ontos.{length-onto, onto_kept}
use Rattle.lists.proofs.Tables.{length-table, get_or-table}
use Rattle.sparse.specs.Pivots.{mark}
use Rattle.columns.specs.Asks.{NotFalling}
use Rattle.columns.specs.Positions.{moved}
use Rattle.columns.proofs.Above.{Between, between_met}
use Rattle.columns.proofs.Insertions.{moved_apart, moved_below, new_apart}
use Rattle.widening.specs.AddCols.{old_column, spread_at, spread}

-- a column with k positions before it, and no more, moves up by k
pub moved_by : (ps : List ℕ) (c k : ℕ) → k ≤ length ps → ((i : ℕ) → i < k → get_or ps i 0 ≤ c) → ((i : ℕ) → k ≤ i → i < length ps → c < get_or ps i 0) → moved ps c ≡ c + k
unfolding moved
moved_by ps c k h front back =
    let b : Between ps c k k = record { rises = omega arith; within = h; front = front; back = back } in
    omega (arith, between_met b (omega arith))

-- only a column below n moves below the new column count
pub moved_within : (ps : List ℕ) (n c : ℕ) → ((i : ℕ) → i < length ps → get_or ps i 0 ≤ n) → moved ps c < n + length ps → c < n
moved_within ps n c low h = go (dec_lt c n)
  where
    go : Dec (c < n) → c < n
    go (yes l) = l
    go (no l) = absurd (omega (arith, moved_by ps c (length ps) (omega arith) (λ i b. omega (arith, low i b)) (λ i g b. absurd (omega arith))))

module _ (n : ℕ) (ps pivots : List ℕ) where
  pub length-spread : n + length ps ≤ length pivots → length (spread n ps pivots) ≡ length pivots
  unfolding spread
  length-spread h = length-onto (table (n + length ps) (spread_at n ps pivots)) pivots (rw length-table h)

  -- what stands past the columns
  pub spread_past : n + length ps ≤ length pivots → (j : ℕ) → n + length ps ≤ j → get_or (spread n ps pivots) j 0 ≡ get_or pivots j 0
  unfolding spread
  spread_past h j past = onto_kept (table (n + length ps) (spread_at n ps pivots)) pivots j 0 (rw length-table past) (rw length-table h)

  within : (j : ℕ) → j < n + length ps → get_or (spread n ps pivots) j 0 ≡ spread_at n ps pivots j
  unfolding spread ◌onto◌
  within j h =
      get_or-append (table (n + length ps) (spread_at n ps pivots)) (drop (length (table (n + length ps) (spread_at n ps pivots))) pivots) 0 j (rw length-table h)
      ∙ get_or-table (n + length ps) (spread_at n ps pivots) j 0 h

  came_from : (c : ℕ) → c < n → old_column n ps (moved ps c) ≡ c
  unfolding old_column
  came_from c h = least_only n (λ d. eqb (moved ps d) (moved ps c)) c h (eq-eqb (moved ps c) (moved ps c) refl) (λ d l e. moved_apart ps d c (eqb-true (moved ps d) (moved ps c) e))

  -- a moved column
  pub spread_old : (c : ℕ) → c < n → get_or (spread n ps pivots) (moved ps c) 0 ≡ get_or pivots c 0
  unfolding spread_at
  spread_old c h = within (moved ps c) (moved_below ps n c h) ∙ rw (came_from c h, lt-ltb c n h)

  -- a new column
  pub spread_new : NotFalling ps → (k : ℕ) → k < length ps → get_or ps k 0 ≤ n → get_or (spread n ps pivots) (get_or ps k 0 + k) 0 ≡ mark
  unfolding spread_at old_column
  spread_new sorted k h low =
      let none : old_column n ps (get_or ps k 0 + k) ≡ n = least_none n (λ c. eqb (moved ps c) (get_or ps k 0 + k)) (λ c l. ne_eqb (moved ps c) (get_or ps k 0 + k) (new_apart ps sorted k h c)) in
      within (get_or ps k 0 + k) (omega arith) ∙ rw (none, le-ltb n n (omega arith))
