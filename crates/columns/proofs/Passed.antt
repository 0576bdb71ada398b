-- What good tests leave for inserting columns: few new ones, positions that don't fall, columns within the limit.
-- Assumes nothing.
use Rattle.std.specs.Prelude.{Ok}
use mathlib.Core.Path.{◌≡◌}
use mathlib.Core.Bool.{not, ◌&&◌}
use mathlib.Core.List.{List}
use Prim.Native.Nat.{ℕ, zero, suc, ◌+◌, ◌-◌, ◌≤◌, ◌<◌}
use native.Mathlib.Decide.{dec_lt}
use native.Mathlib.Omega.{arith}
use lib.Dec.{ltb}
use lib.ListN.{length, get_or}
use borrow.Author.Tests.{lt-ltb, ltb-true, ltb-false, not-false}
use Rattle.sparse.specs.Matrix.{Matrix}
use Rattle.sparse.specs.Tests.{modulus_test, size_test, shape_test, rows_test, rows_values_test, matrix_test}
use Rattle.sparse.specs.declared.inside.Clause.TheVariants.{Residue}
use Rattle.sparse.proofs.Cuts.{laid}
use Rattle.sparse.proofs.Firsts.{refuse_good, neither, lowest_good, each_good}
use Rattle.meaning.proofs.RowColumns.{column_low}
use Rattle.columns.specs.Asks.{NotFalling, Movable}
use Rattle.columns.specs.Positions.{in_order, position_test, positions_test, add_cols_test}

-- 2 finds nothing
pub few_cols : (limit rows cols entries : ℕ) → size_test limit rows cols entries ≡ Ok tt → cols ≤ 1024
unfolding size_test
few_cols limit rows cols entries e =
    let h = neither _ _ (refuse_good _ _ e) in
    ltb-false 1024 cols (neither (ltb 1024 rows) (ltb 1024 cols) h.0).1

-- 12 finds nothing: neighbours don't fall
position_step : (n : ℕ) (ps : List ℕ) (k : ℕ) → position_test n ps (suc k) ≡ Ok tt → get_or ps k 0 ≤ get_or ps (suc k) 0
unfolding position_test in_order
position_step n ps k e =
    let one_back : suc k - 1 ≡ k = omega arith in
    let h = rw (lt-ltb 0 (suc k) (omega arith)) at (neither (ltb n (get_or ps (suc k) 0)) (ltb 0 (suc k) && not (ltb (get_or ps (suc k - 1) 0) (get_or ps (suc k) 0))) (refuse_good _ _ e)).1 in
    let l : get_or ps (suc k - 1) 0 < get_or ps (suc k) 0 = ltb-true _ _ (not-false _ h) in
    let g : get_or ps k 0 < get_or ps (suc k) 0 = rw one_back at l in
    omega arith

pub not_falling : (n : ℕ) (ps : List ℕ) → positions_test n ps ≡ Ok tt → NotFalling ps
unfolding positions_test
not_falling n ps e = record { order = up }
  where
    up : (i j : ℕ) → i ≤ j → j < length ps → get_or ps i 0 ≤ get_or ps j 0
    up i zero l h = let same : i ≡ 0 = omega arith in rw same (omega arith)
    up i (suc j) l h = go (dec_lt j i) (up i j)
      where
        go : Dec (j < i) → (i ≤ j → j < length ps → get_or ps i 0 ≤ get_or ps j 0) → get_or ps i 0 ≤ get_or ps (suc j) 0
        go (yes b) ih = let same : i ≡ suc j = omega arith in rw same (omega arith)
        go (no b) ih = omega (arith, ih (omega arith) (omega arith), position_step n ps j (each_good (length ps) (position_test n ps) e (suc j) h))

-- and none is above the column count
pub position_low : (n : ℕ) (ps : List ℕ) → positions_test n ps ≡ Ok tt → (k : ℕ) → k < length ps → get_or ps k 0 ≤ n
unfolding positions_test position_test
position_low n ps e k h =
    ltb-false n (get_or ps k 0)
    (neither (ltb n (get_or ps k 0)) (ltb 0 k && not (in_order (get_or ps (k - 1) 0) (get_or ps k 0))) (refuse_good _ _ (each_good (length ps) (position_test n ps) e k h))).0

-- all tests of `add_cols` find nothing
pub record Insertable (p : ℕ) (m : Matrix) (ps : List ℕ) : Type 0 where
  pub modulus : modulus_test p ≡ Ok tt
  pub size : size_test 65536 m.nrows m.ncols (length m.values) ≡ Ok tt
  pub wider : size_test 65536 m.nrows (m.ncols + length ps) (length m.values) ≡ Ok tt
  pub shape : shape_test m ≡ Ok tt
  pub rows : rows_test m.nrows m.ncols m.row_ptrs m.col_idcs ≡ Ok tt
  pub residues : rows_values_test Residue p m.nrows m.row_ptrs m.values ≡ Ok tt
  pub places : positions_test m.ncols ps ≡ Ok tt

pub insertable : (p : ℕ) (m : Matrix) (ps : List ℕ) → add_cols_test p m ps ≡ Ok tt → Insertable p m ps
unfolding add_cols_test matrix_test
insertable p m ps e =
    let a = lowest_good _ _ e in
    let b = lowest_good _ _ a.1 in
    let c = lowest_good _ _ b.1 in
    let d = lowest_good _ _ c.1 in
    let s = lowest_good _ _ d.0 in
    let r = lowest_good _ _ s.1 in
    record { modulus = a.0; size = b.0; wider = c.0; shape = s.0; rows = r.0; residues = (lowest_good _ _ r.1).0; places = (lowest_good _ _ d.1).0 }

module _ {p : ℕ} {m : Matrix} {ps : List ℕ} (ok : Insertable p m ps) where
  pub wide : m.ncols + length ps ≤ 1024
  wide = few_cols 65536 m.nrows (m.ncols + length ps) (length m.values) ok.wider

  pub movable : Movable ps m.col_idcs
  movable = record {
    sorted = not_falling m.ncols ps ok.places;
    few = omega (arith, wide);
    low = λ k h. omega (arith, wide, column_low m ok.rows (laid m ok.shape ok.rows) k h);
  }
