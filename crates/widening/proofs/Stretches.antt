-- U with inserted columns: its rows move, each with its head, the pivot table is that of the moved heads, and each row is the
-- old one with inserted columns as zeros.
-- Assumes nothing.
use mathlib.Core.Path.{◌≡◌, sym, ap, subst, ◌∙◌}
use mathlib.Core.Logic.{◌⊎◌, inl, inr}
use mathlib.Core.List.{List, map}
use Prim.Native.Nat.{ℕ, ◌+◌, ◌≤◌, ◌<◌}
use native.Mathlib.Omega.{arith}
use lib.ListN.{length, get_or, take, length-map}
use lib.Seq.{get_or-take, length-take-le}
use Rattle.lists.specs.Onto.{◌onto◌}
use Rattle.lists.proofs.Ontos.{length-onto, take-onto}
use Rattle.sparse.specs.Matrix.{part, row, value_in}
use Rattle.sparse.specs.Pivots.{mark}
use Rattle.meaning.proofs.RowColumns.{map-part}
use Rattle.meaning.proofs.Values.{Climbs}
use Rattle.columns.specs.Asks.{NotFalling}
use Rattle.columns.specs.Positions.{moved}
use Rattle.columns.proofs.Insertions.{get_d_map, new_or_old, value_moved, value_inserted, climbs_moved}
use Rattle.walk.specs.Step.{pivot_at}
use Rattle.steps.specs.Setting.{Tabled}
use Rattle.states.proofs.Echelons.{part_front}
use Rattle.keeping.proofs.Uppers.{Fine, Upright}
use Rattle.widening.specs.AddCols.{spread}
use Rattle.widening.specs.Asks.{Spreads}
use Rattle.widening.specs.Inserted.{Inserted}
use Rattle.widening.proofs.Spreads.{moved_within, length-spread, spread_old, spread_new}

module _ (ps : List ℕ) (fill : ℕ) (cols : List ℕ) (fits : fill ≤ length cols) where
  -- the first fill columns moved
  abbrev front : List ℕ
  front = map (moved ps) (take fill cols)

  abbrev cols' : List ℕ
  cols' = front onto cols

  long_front : length front ≡ fill
  long_front = length-map (take fill cols) (moved ps) ∙ length-take-le fill cols fits

  pub long_moved : length cols' ≡ length cols
  long_moved = length-onto front cols (omega (arith, long_front))

  take-moved : take fill cols' ≡ front
  take-moved = ap (λ (k : ℕ). take k cols') (sym long_front) ∙ take-onto front cols

  entry_moved : (k : ℕ) → k < fill → get_or cols' k 0 ≡ moved ps (get_or cols k 0)
  entry_moved k h =
      sym (get_or-take fill cols' k 0 h)
      ∙ ap (λ (xs : List ℕ). get_or xs k 0) take-moved
      ∙ get_d_map (moved ps) (take fill cols) k (omega (arith, length-take-le fill cols fits))
      ∙ ap (moved ps) (get_or-take fill cols k 0 h)

  row_moved : (ptrs : List ℕ) (r : ℕ) → get_or ptrs (r + 1) 0 ≤ fill → row ptrs cols' r ≡ map (moved ps) (row ptrs cols r)
  unfolding row
  row_moved ptrs r h =
      let a : ℕ = get_or ptrs r 0 in
      let b : ℕ = get_or ptrs (r + 1) 0 in
      sym (part_front a b fill cols' h (omega (arith, long_moved)))
      ∙ ap (part a b) take-moved
      ∙ map-part (moved ps) a b (take fill cols)
      ∙ ap (map (moved ps)) (part_front a b fill cols h fits)

  module _ {p n rank : ℕ} {vals ptrs : List ℕ} {h : ℕ → ℕ} (u : Upright p n rank fill cols vals ptrs h) where
    fine_moved : (r : ℕ) → r < rank → Fine p (n + length ps) fill (moved ps (h r)) cols' vals ptrs r
    fine_moved r l =
        let was : Fine p n fill (h r) cols vals ptrs r = u.rows r l in
        record {
          pivot = record {
            pointer = was.pivot.pointer;
            filled = was.pivot.filled;
            columns = omega (arith, was.pivot.columns, long_moved);
            numbers = was.pivot.numbers;
            climbs = subst (Climbs (n + length ps)) (sym (row_moved ptrs r was.fits)) (climbs_moved n ps (row ptrs cols r) was.pivot.climbs);
            starts = entry_moved (get_or ptrs r 0) (omega (arith, was.pivot.filled, was.fits)) ∙ ap (moved ps) was.pivot.starts;
            one = was.pivot.one;
          };
          fits = was.fits;
          values = was.values;
        }

    -- rows that stand one after the other stand so again
    pub upright_moved : Upright p (n + length ps) rank fill cols' vals ptrs (λ r. moved ps (h r))
    upright_moved = record { starts = u.starts; ends = u.ends; rows = fine_moved }

    -- and each is the old one with inserted columns as zeros
    pub row_inserted : NotFalling ps → (r : ℕ) → r < rank → Inserted n ps (value_in (row ptrs cols r) (row ptrs vals r)) (value_in (row ptrs cols' r) (row ptrs vals r))
    row_inserted sorted r l =
        let here : row ptrs cols' r ≡ map (moved ps) (row ptrs cols r) = row_moved ptrs r (u.rows r l).fits in
        record {
          old = λ c b. ap (λ (xs : List ℕ). value_in xs (row ptrs vals r) (moved ps c)) here ∙ value_moved ps (row ptrs cols r) (row ptrs vals r) c;
          new = λ k b. ap (λ (xs : List ℕ). value_in xs (row ptrs vals r) (get_or ps k 0 + k)) here ∙ value_inserted ps (row ptrs cols r) (row ptrs vals r) sorted k b;
        }

-- a column of the widened range is a new one, or an old one moved there
pub record OldBelow (n : ℕ) (ps : List ℕ) (j : ℕ) : Type 0 where
  pub col : ℕ
  pub within : col < n
  pub there : moved ps col ≡ j

pub new_or_below : (n : ℕ) (ps : List ℕ) → NotFalling ps → ((k : ℕ) → k < length ps → get_or ps k 0 ≤ n) → (j : ℕ) → j < n + length ps
    → ((k : ℕ) × (k < length ps) × (j ≡ get_or ps k 0 + k)) ⊎ OldBelow n ps j
new_or_below n ps sorted low j h = go (new_or_old ps sorted j)
  where
    go : ((k : ℕ) × (k < length ps) × (j ≡ get_or ps k 0 + k)) ⊎ ((c : ℕ) × (moved ps c ≡ j)) → ((k : ℕ) × (k < length ps) × (j ≡ get_or ps k 0 + k)) ⊎ OldBelow n ps j
    go (inl w) = inl w
    go (inr w) = inr (record { col = w.0; within = moved_within ps n w.0 low (omega (arith, w.1)); there = w.1 })

module _ {n k : ℕ} {h : ℕ → ℕ} {ps pivots : List ℕ} (t : Tabled n k h pivots) (s : Spreads n ps pivots) (within : (i : ℕ) → i < k → h i < n) where
  -- what the table has at a column of the widened range but the mark
  named : (j : ℕ) → j < n + length ps → (pivot_at (spread n ps pivots) j ≡ mark → ⊥) → (pivot_at (spread n ps pivots) j < k) × (moved ps (h (pivot_at (spread n ps pivots) j)) ≡ j)
  unfolding pivot_at
  named j l ne = go (new_or_below n ps s.sorted s.low j l)
    where
      go : ((i : ℕ) × (i < length ps) × (j ≡ get_or ps i 0 + i)) ⊎ OldBelow n ps j → (get_or (spread n ps pivots) j 0 < k) × (moved ps (h (get_or (spread n ps pivots) j 0)) ≡ j)
      go (inl w) = absurd (ne (ap (λ (c : ℕ). get_or (spread n ps pivots) c 0) w.2 ∙ spread_new n ps pivots s.sorted w.0 w.1 (s.low w.0 w.1)))
      go (inr w) =
          let same : get_or (spread n ps pivots) j 0 ≡ get_or pivots w.col 0 = ap (λ (c : ℕ). get_or (spread n ps pivots) c 0) (sym w.there) ∙ spread_old n ps pivots w.col w.within in
          let some : get_or pivots w.col 0 ≡ mark → ⊥ = λ e. ne (same ∙ e) in
          (omega (arith, same, t.row w.col w.within some), ap (λ (r : ℕ). moved ps (h r)) same ∙ ap (moved ps) (t.head w.col w.within some) ∙ w.there)

  -- the table of heads becomes that of the moved heads
  pub table_spread : Tabled (n + length ps) k (λ r. moved ps (h r)) (spread n ps pivots)
  unfolding pivot_at
  table_spread = record {
    wide = s.wide;
    long = omega (arith, s.table, length-spread n ps pivots s.table);
    holds = λ i l. spread_old n ps pivots (h i) (within i l) ∙ t.holds i l;
    row = λ c l ne. (named c l ne).0;
    head = λ c l ne. (named c l ne).1;
  }
