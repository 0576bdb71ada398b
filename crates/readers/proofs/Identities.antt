-- A row of the identity: 1 at its own column, and nothing but zeros stored elsewhere.
-- Assumes nothing.
use Rattle.std.specs.Prelude.{Ok}
use mathlib.Core.Path.{◌≡◌, refl, sym, ap, ◌∙◌}
use mathlib.Core.Bool.{Bool, true, false, not, ◌&&◌, cond, true≢false}
use mathlib.Core.List.{List}
use mathlib.Core.Logic.{◌⊎◌, ⊎_elim}
use Prim.Native.Nat.{ℕ, ◌+◌, ◌<◌}
use native.Mathlib.Decide.{ℕ_discrete}
use native.Mathlib.Omega.{arith}
use lib.Dec.{eqb}
use lib.ListN.{length, get_or}
use borrow.Author.Tests.{eqb-true, eqb-false, eq-eqb, ne_eqb, not-false}
use Rattle.lists.specs.Find.{any}
use Rattle.lists.proofs.Find.{any_true, any_none, any_false, any_some, told}
use Rattle.sparse.specs.Matrix.{Matrix, row, value_in}
use Rattle.sparse.specs.Tests.{matrix_test, well_formed}
use Rattle.sparse.proofs.Cuts.{Laid, laid, few_rows}
use Rattle.sparse.proofs.Firsts.{lowest_good}
use Rattle.meaning.proofs.Parts.{length_part}
use Rattle.meaning.proofs.RowColumns.{climbs_good, row_climbs}
use Rattle.meaning.proofs.Values.{Climbs, value_there, value_elsewhere}
use Rattle.readers.specs.Asks.{Readable, Climbing, SquareRow, Square}

-- a stored value that is not 0, off column i
abbrev pub other : List ℕ → List ℕ → ℕ → ℕ → Bool
other cols vals i k = not (eqb (get_or cols k 0) i) && not (eqb (get_or vals k 0) 0)

-- column j differs from the identity's row i
abbrev pub off : List ℕ → List ℕ → ℕ → ℕ → Bool
off cols vals i j = not (eqb (value_in cols vals j) (cond (eqb i j) 1 0))

pub no_one : (n : ℕ) (cols vals : List ℕ) (i : ℕ) → i < n → (value_in cols vals i ≡ 1 → ⊥) → true ≡ any n (off cols vals i)
no_one n cols vals i h ne = sym (any_true n (off cols vals i) h (rw (eq-eqb i i refl, ne_eqb (value_in cols vals i) 1 ne)))

module _ (n : ℕ) (cols vals : List ℕ) (i : ℕ) (c : Climbs n cols) (one : value_in cols vals i ≡ 1) where
  some_other : (k : ℕ) → k < length cols → other cols vals i k ≡ true → any n (off cols vals i) ≡ true
  some_other k h e = go (eqb (get_or cols k 0) i) (eqb (get_or vals k 0) 0) refl refl e
    where
      go : (a b : Bool) → eqb (get_or cols k 0) i ≡ a → eqb (get_or vals k 0) 0 ≡ b → (not a && not b) ≡ true → any n (off cols vals i) ≡ true
      go true b p q t = absurd (let z : true ≡ false = sym t in true≢false z)
      go false true p q t = absurd (let z : true ≡ false = sym t in true≢false z)
      go false false p q t =
          any_true n (off cols vals i) (c.below k h)
          (rw (value_there n cols vals c k h, ne_eqb i (get_or cols k 0) (λ z. eqb-false _ _ p (sym z)), q))

  none_other : any (length cols) (other cols vals i) ≡ false → (j : ℕ) → j < n → off cols vals i j ≡ false
  none_other clear j h = go (ℕ_discrete i j) (told (any (length cols) (λ k. eqb (get_or cols k 0) j)))
    where
      zero_there : (k : ℕ) → k < length cols → get_or cols k 0 ≡ j → (i ≡ j → ⊥) → get_or vals k 0 ≡ 0
      zero_there k l e ne = eqb-true _ _ (not-false _ (rw (ne_eqb (get_or cols k 0) i (λ z. ne (sym z ∙ e))) at (any_false (length cols) (other cols vals i) clear k l)))

      nothing : (i ≡ j → ⊥) → value_in cols vals j ≡ 0 → off cols vals i j ≡ false
      nothing ne e = rw (ne_eqb i j ne, e)

      go : Dec (i ≡ j) → (any (length cols) (λ k. eqb (get_or cols k 0) j) ≡ true) ⊎ (any (length cols) (λ k. eqb (get_or cols k 0) j) ≡ false) → off cols vals i j ≡ false
      go (yes e) w = rw (eq-eqb i j e, sym (ap (value_in cols vals) e) ∙ one)
      go (no ne) w =
          ⊎_elim
          (λ t. let s = any_some (length cols) (λ k. eqb (get_or cols k 0) j) t in
          let e : get_or cols s.0 0 ≡ j = eqb-true _ _ s.2 in
          nothing ne (sym (ap (value_in cols vals) e) ∙ value_there n cols vals c s.0 s.1 ∙ zero_there s.0 s.1 e ne))
          (λ t. nothing ne (value_elsewhere cols vals j (λ k l. eqb-false _ _ (any_false (length cols) (λ k. eqb (get_or cols k 0) j) t k l))))
          w

  -- with 1 at its own column, the rest is off where something is stored
  pub off_other : any (length cols) (other cols vals i) ≡ any n (off cols vals i)
  off_other =
      ⊎_elim
      (λ t. let s = any_some (length cols) (other cols vals i) t in t ∙ sym (some_other s.0 s.1 s.2))
      (λ t. t ∙ sym (any_none n (off cols vals i) (none_other t)))
      (told (any (length cols) (other cols vals i)))

-- 1 to 6 find nothing
pub formed_readable : (limit p : ℕ) (m : Matrix) → well_formed limit p m ≡ Ok tt → Readable m
unfolding well_formed matrix_test
formed_readable limit p m e =
    let s = lowest_good _ _ (lowest_good _ _ e).1 in
    let t = lowest_good _ _ (lowest_good _ _ s.1).0 in
    record { few = few_rows _ _ _ _ s.0; shape = t.0; rows = (lowest_good _ _ t.1).0 }

-- row i of a matrix that can be read
pub row_climbing : (m : Matrix) → Readable m → (i : ℕ) → i < m.nrows → Climbing m.ncols (row m.row_ptrs m.col_idcs i) (row m.row_ptrs m.values i)
unfolding row
row_climbing m r i h =
    let l : Laid m = laid m r.shape r.rows in
    let fits = l.rows.within i h in
    let a : ℕ = get_or m.row_ptrs i 0 in
    let b : ℕ = get_or m.row_ptrs (i + 1) 0 in
    record {
      same = length_part a b m.col_idcs (omega (arith, l.shape.col_each)) ∙ sym (length_part a b m.values fits);
      good = climbs_good m.ncols _ (row_climbs m r.rows i h);
    }

-- a square matrix that can be read, and its rows
pub square_laid : (m : Matrix) → Square m → Laid m
square_laid m s = laid m s.whole.shape s.whole.rows

pub square_row : (m : Matrix) → Square m → (i : ℕ) → i < m.nrows → SquareRow m.ncols (row m.row_ptrs m.col_idcs i) (row m.row_ptrs m.values i) i
square_row m s i h = record { climbs = row_climbing m s.whole i h; within = omega (arith, s.same) }
