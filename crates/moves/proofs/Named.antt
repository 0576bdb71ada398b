-- A loop over a pivot table that writes the rows it names: what it knows at each turn.
-- Assumes nothing.
use mathlib.Core.Path.{◌≡◌, refl, ap, ◌∙◌}
use mathlib.Core.Bool.{Bool, true, false, not, cond}
use mathlib.Core.List.{List, [], ◌∷◌, map}
use Prim.Native.Nat.{ℕ, zero, suc, ◌+◌, ◌≤◌, ◌<◌}
use native.Mathlib.Nat.{not-suc-le-zero, add-zero, zero-add}
use native.Mathlib.Omega.{arith}
use lib.Dec.{eqb}
use lib.ListN.{length, get_or, take, set, length-map}
use borrow.Author.Tests.{eq-eqb, ne_eqb}
use Rattle.lists.specs.Find.{count, keep}
use Rattle.sparse.specs.Lent.{Lent, lent}
use Rattle.sparse.specs.Matrix.{row}
use Rattle.sparse.specs.Pivots.{mark, named}
use Rattle.sparse.specs.Put.{put_rows}
use Rattle.sparse.specs.Rows.{Entry, entries}
use Rattle.lists.proofs.Scans.{Counted, counted_none, counted_hit, counted_miss, counted_all}
use Rattle.writing.specs.Asks.{RowPut}
use Rattle.writing.specs.Puts.{put, more}
use Rattle.writing.proofs.RowLoops.{rows_start, rows_fit, rows_next, rows_end, next_place}
use Rattle.writing.proofs.RowPuts.{cut_ready}
use Rattle.writing.proofs.Writing.{Writing}
use Rattle.moves.specs.Asks.{NamedFit}
use Rattle.moves.specs.Parts.{rows_named}

module _ {A : Type 0} (f : A → Bool) where
  -- as many are kept as are counted
  pub kept_many : (xs : List A) → length (keep f xs) ≡ count f xs
  unfolding keep count
  kept_many [] = refl
  kept_many (x ∷ xs) = go (f x) (kept_many xs)
    where
      go : (b : Bool) → length (keep f xs) ≡ count f xs → length (cond b (x ∷ keep f xs) (keep f xs)) ≡ cond b 1 0 + count f xs
      go true e = omega arith
      go false e = omega arith

  -- an element that is kept stands behind those kept before it
  pub kept_at : (xs : List A) (k : ℕ) (d : A) → k < length xs → f (get_or xs k d) ≡ true → (count f (take k xs) < length (keep f xs)) × (get_or (keep f xs) (count f (take k xs)) d ≡ get_or xs k d)
  unfolding keep count
  kept_at [] k d h e = absurd (not-suc-le-zero h)
  kept_at (x ∷ xs) zero d h e = rw e (omega arith, refl)
  kept_at (x ∷ xs) (suc k) d h e = go (f x) (kept_at xs k d (omega arith) e)
    where
      go : (b : Bool) → (count f (take k xs) < length (keep f xs)) × (get_or (keep f xs) (count f (take k xs)) d ≡ get_or xs k d)
          → (cond b 1 0 + count f (take k xs) < length (cond b (x ∷ keep f xs) (keep f xs))) × (get_or (cond b (x ∷ keep f xs) (keep f xs)) (cond b 1 0 + count f (take k xs)) d ≡ get_or xs k d)
      go true ih = (omega arith, rw (one_more (count f (take k xs))) ih.1)
        where
          one_more : (n : ℕ) → 1 + n ≡ suc n
          one_more n = omega arith
      go false ih = (omega arith, rw (zero-add (count f (take k xs))) ih.1)

-- what is made of the i-th
pub get_d_picked : {A : Type 0} (g : ℕ → A) (xs : List ℕ) (i : ℕ) (d : A) → i < length xs → get_or (map g xs) i d ≡ g (get_or xs i 0)
get_d_picked g [] i d l = absurd (not-suc-le-zero l)
get_d_picked g (x ∷ xs) zero d l = refl
get_d_picked g (x ∷ xs) (suc i) d l = get_d_picked g xs i d (omega arith)

abbrev is_named : ℕ → Bool
is_named r = not (eqb r mark)

-- the first k places are looked at, and the rows that they name are written
pub record Naming (ptrs cols vals pivots : List ℕ) (l : Lent) (k rows at : ℕ) (op oc ov : List ℕ) : Type 0 where
  pub counted : Counted is_named pivots rows k
  pub written : Writing (rows_named ptrs cols vals pivots) l rows at op oc ov

module _ {ptrs cols vals pivots : List ℕ} (op₀ oc₀ ov₀ : List ℕ) (fit : NamedFit ptrs cols vals pivots (lent op₀ oc₀ ov₀)) where
  abbrev rs : List (List Entry)
  rs = rows_named ptrs cols vals pivots

  abbrev old : Lent
  old = lent (set op₀ 0 0) oc₀ ov₀

  rows_many : length rs ≡ count is_named pivots
  unfolding rows_named named
  rows_many = length-map (named pivots) (row ptrs (entries cols vals)) ∙ kept_many is_named pivots

  pub naming_start : Naming ptrs cols vals pivots old 0 0 0 (set op₀ 0 0) oc₀ ov₀
  naming_start = record { counted = counted_none is_named pivots; written = rows_start rs op₀ oc₀ ov₀ fit.room }

  module _ {k rows at : ℕ} {op oc ov : List ℕ} (w : Naming ptrs cols vals pivots old k rows at op oc ov) where
    pub naming_skip : k < length pivots → get_or pivots k 0 ≡ mark → Naming ptrs cols vals pivots old (k + 1) rows at op oc ov
    naming_skip h e = record { counted = counted_miss is_named pivots rows k 0 w.counted h (rw (eq-eqb _ _ e)); written = w.written }

    pub naming_end : length pivots ≤ k → lent op oc ov ≡ put_rows rs (lent op₀ oc₀ ov₀)
    naming_end h = rows_end rs op₀ oc₀ ov₀ fit.room w.written (omega (arith, rows_many, counted_all is_named pivots rows k w.counted h))

    module _ (h : k < length pivots) (e : get_or pivots k 0 ≡ mark → ⊥) where
      kept : (rows < length (named pivots)) × (get_or (named pivots) rows 0 ≡ get_or pivots k 0)
      unfolding named
      kept = rw w.counted.so_far (kept_at is_named pivots k 0 h (rw (ne_eqb _ _ e)))

      here : get_or rs rows [] ≡ row ptrs (entries cols vals) (get_or pivots k 0)
      unfolding rows_named
      here = get_d_picked (row ptrs (entries cols vals)) (named pivots) rows [] kept.0 ∙ ap (row ptrs (entries cols vals)) kept.1

      left : rows < length rs
      unfolding rows_named
      left = rw (length-map (named pivots) (row ptrs (entries cols vals))) kept.0

      pub naming_ready : RowPut ptrs cols vals (get_or pivots k 0) 0 (put at oc ov)
      naming_ready =
          cut_ready fit.rows ptrs cols vals (get_or pivots k 0) 0 (put at oc ov) fit.same fit.cut (rw kept.1 at (fit.below rows kept.0))
          (rw add-zero (rows_fit rs op₀ oc₀ ov₀ fit.room w.written _ here left))

      pub naming_place : rows + 1 < length op
      naming_place = next_place rs op₀ oc₀ ov₀ fit.room w.written left

      pub naming_next : {at' : ℕ} {cols' vals' : List ℕ} → put at' cols' vals' ≡ more (row ptrs (entries cols vals) (get_or pivots k 0)) (put at oc ov)
          → Naming ptrs cols vals pivots old (k + 1) (rows + 1) at' (set op (rows + 1) at') cols' vals'
      naming_next q = record {
        counted = counted_hit is_named pivots rows k 0 w.counted h (rw (ne_eqb _ _ e));
        written = rows_next rs op₀ oc₀ ov₀ fit.room w.written _ here left q;
      }
