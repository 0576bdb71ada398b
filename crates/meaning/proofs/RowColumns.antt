-- The columns of a good matrix: they climb in each row, and each lies below the column count. And what is made of each
-- element of a part.
-- Assumes nothing.
use Rattle.std.specs.Prelude.{Ok}
use mathlib.Core.Path.{◌≡◌, refl, ap, ◌∙◌}
use mathlib.Core.Bool.{◌&&◌, ◌||◌, false, and-false}
use mathlib.Core.List.{List, [], ◌∷◌, map}
use Prim.Native.Nat.{ℕ, zero, suc, ◌+◌, ◌-◌, ◌≤◌, ◌<◌}
use native.Mathlib.Decide.{dec_lt}
use native.Mathlib.Omega.{arith}
use lib.Dec.{leb, ltb}
use lib.ListN.{length, get_or, take, drop}
use borrow.Author.Tests.{lt-leb, le-ltb}
use Rattle.sparse.specs.Matrix.{Matrix, part, row}
use Rattle.sparse.specs.Refusals.{refuse}
use Rattle.sparse.specs.Tests.{column_test, columns_test, row_test, rows_test}
use Rattle.sparse.specs.declared.Refusal.TheVariants.{Column}
use Rattle.sparse.proofs.Cuts.{Laid}
use Rattle.sparse.proofs.Firsts.{refuse_false, else_good, each_good, all_good}
use Rattle.meaning.proofs.Parts.{length_part, get_d_part, InRow, in_row}
use Rattle.meaning.proofs.Values.{Climbs, columns_climb}

-- what is made of each element, in a part of a list
map-take {ℓ} : {A B : Type ℓ} (f : A → B) (n : ℕ) (xs : List A) → take n (map f xs) ≡ map f (take n xs)
map-take f zero xs = refl
map-take f (suc n) [] = refl
map-take f (suc n) (x ∷ xs) = ap (λ l. f x ∷ l) (map-take f n xs)

map-drop {ℓ} : {A B : Type ℓ} (f : A → B) (n : ℕ) (xs : List A) → drop n (map f xs) ≡ map f (drop n xs)
map-drop f zero xs = refl
map-drop f (suc n) [] = refl
map-drop f (suc n) (x ∷ xs) = map-drop f n xs

pub map-part {ℓ} : {A B : Type ℓ} (f : A → B) (a b : ℕ) (xs : List A) → part a b (map f xs) ≡ map f (part a b xs)
unfolding part
map-part f a b xs = ap (take (b - a)) (map-drop f a xs) ∙ map-take f (b - a) (drop a xs)

-- 5 finds nothing in a row that climbs
pub climbs_good : (n : ℕ) (cols : List ℕ) → Climbs n cols → columns_test n cols ≡ Ok tt
unfolding columns_test column_test
climbs_good n cols c = all_good (length cols) (column_test n cols) one
  where
    above : (k : ℕ) → k < length cols → Dec (0 < k) → (ltb 0 k && leb (get_or cols k 0) (get_or cols (k - 1) 0)) ≡ false
    above k h (no first) = rw (le-ltb 0 k (omega arith))
    above k h (yes later) = rw (lt-leb (get_or cols k 0) (get_or cols (k - 1) 0) (c.rises (k - 1) k (omega arith) h)) (and-false (ltb 0 k))

    one : (k : ℕ) → k < length cols → refuse (leb n (get_or cols k 0) || ltb 0 k && leb (get_or cols k 0) (get_or cols (k - 1) 0)) Column ≡ Ok tt
    one k h = refuse_false _ Column (rw (lt-leb n (get_or cols k 0) (c.below k h)) (above k h (dec_lt 0 k)))

module _ (m : Matrix) (good : rows_test m.nrows m.ncols m.row_ptrs m.col_idcs ≡ Ok tt) where
  pub row_climbs : (i : ℕ) → i < m.nrows → Climbs m.ncols (row m.row_ptrs m.col_idcs i)
  unfolding rows_test row_test row
  row_climbs i h = columns_climb m.ncols _ (else_good _ _ (each_good m.nrows _ good i h)).1

  -- each stored column lies in a row, so it is below the column count
  pub column_low : Laid m → (k : ℕ) → k < length m.col_idcs → get_or m.col_idcs k 0 < m.ncols
  unfolding row
  column_low laid k h =
      let ptr : ℕ → ℕ = λ i. get_or m.row_ptrs i 0 in
      let w : InRow m.nrows ptr k = in_row m.nrows ptr k laid.shape.starts (omega (arith, laid.shape.ends, laid.shape.col_each)) in
      let a : ℕ = get_or m.row_ptrs w.at 0 in
      let b : ℕ = get_or m.row_ptrs (w.at + 1) 0 in
      let from : a ≤ k = w.from in
      let upto : k < b = w.upto in
      let fits : b ≤ length m.col_idcs = omega (arith, laid.rows.within w.at w.within, laid.shape.col_each) in
      let here : k - a < length (part a b m.col_idcs) = rw (length_part a b m.col_idcs fits) (omega arith) in
      let back : a + (k - a) ≡ k = omega arith in
      rw back at (rw (get_d_part a b m.col_idcs (k - a) 0 (omega arith)) at ((row_climbs w.at w.within).below (k - a) here))
