-- What tests that find nothing tell: a pointer for each row and one more, and each row within the entries.
-- Assumes nothing.
use Rattle.std.specs.Prelude.{Ok}
use mathlib.Core.Path.{◌≡◌}
use mathlib.Core.List.{List}
use Prim.Native.Nat.{ℕ, ◌+◌, ◌≤◌, ◌<◌}
use native.Mathlib.Omega.{arith}
use lib.Dec.{ltb}
use lib.ListN.{length, get_or}
use borrow.Author.Tests.{ltb-false, eqb-true, not-false}
use Rattle.sparse.specs.Asks.{Pointers, Cut}
use Rattle.sparse.specs.Matrix.{Matrix}
use Rattle.sparse.specs.Tests.{size_test, shape_test, row_test, rows_test, matrix_test, well_formed}
use Rattle.sparse.specs.declared.Refusal.TheVariants.{Size}
use Rattle.sparse.proofs.Firsts.{refuse_good, neither, else_good, lowest_good, each_good}

-- a part from a to b of n elements
pub record Within (a b n : ℕ) : Type 0 where
  pub rises : a ≤ b
  pub fits : b ≤ n

-- row i of a cut matrix
pub row_in : {rows entries i : ℕ} {ptrs : List ℕ} → Cut rows entries ptrs → i < rows → Within (get_or ptrs i 0) (get_or ptrs (i + 1) 0) entries
row_in {i = i} h l = record { rises = h.rises i l; fits = h.within i l }

-- 2 finds nothing
pub record Small (limit rows cols entries : ℕ) : Type 0 where
  pub high : rows ≤ 1024
  pub wide : cols ≤ 1024
  pub few : entries ≤ limit

pub small : (limit rows cols entries : ℕ) → size_test limit rows cols entries ≡ Ok tt → Small limit rows cols entries
unfolding size_test
small limit rows cols entries e =
    let h = neither _ (ltb limit entries) (refuse_good _ Size e) in
    let sides = neither (ltb 1024 rows) (ltb 1024 cols) h.0 in
    record { high = ltb-false _ _ sides.0; wide = ltb-false _ _ sides.1; few = ltb-false _ _ h.1 }

pub few_rows : (limit rows cols entries : ℕ) → size_test limit rows cols entries ≡ Ok tt → rows ≤ 1024
few_rows limit rows cols entries e = (small limit rows cols entries e).high

-- 3 finds nothing
pub record Shaped (m : Matrix) : Type 0 where
  pub col_each : length m.col_idcs ≡ length m.values
  pub many : length m.row_ptrs ≡ m.nrows + 1
  pub starts : get_or m.row_ptrs 0 0 ≡ 0
  pub ends : get_or m.row_ptrs m.nrows 0 ≡ length m.values

pub shaped : (m : Matrix) → shape_test m ≡ Ok tt → Shaped m
unfolding shape_test
shaped m e =
    let last = neither _ _ (refuse_good _ _ e) in
    let first = neither _ _ last.0 in
    let h = neither _ _ first.0 in
    record {
      col_each = eqb-true _ _ (not-false _ h.0);
      many = eqb-true _ _ (not-false _ h.1);
      starts = eqb-true _ _ (not-false _ first.1);
      ends = eqb-true _ _ (not-false _ last.1);
    }

pub pointers : (m : Matrix) → shape_test m ≡ Ok tt → Pointers m.nrows m.row_ptrs
pointers m e = record { many = (shaped m e).many }

-- 4 finds nothing in the row from a up to b
row_within : (n : ℕ) (cols : List ℕ) (a b : ℕ) → row_test n cols a b ≡ Ok tt → Within a b (length cols)
unfolding row_test
row_within n cols a b e =
    let h = neither _ _ (refuse_good _ _ (else_good _ _ e).0) in
    record { rises = ltb-false b a h.0; fits = ltb-false (length cols) b h.1 }

-- 3, 4 and 5 find nothing
pub cut : (m : Matrix) → shape_test m ≡ Ok tt → rows_test m.nrows m.ncols m.row_ptrs m.col_idcs ≡ Ok tt → Cut m.nrows (length m.values) m.row_ptrs
unfolding rows_test
cut m s e =
    let at : (i : ℕ) → i < m.nrows → Within (get_or m.row_ptrs i 0) (get_or m.row_ptrs (i + 1) 0) (length m.col_idcs) = λ i l. row_within _ _ _ _ (each_good m.nrows _ e i l) in
    record {
      many = (shaped m s).many;
      rises = λ i l. (at i l).rises;
      within = λ i l. omega (arith, (at i l).fits, (shaped m s).col_each);
    }

-- 1 to 6 find nothing: the rows lie one after the other, from the first entry to the last
pub record Laid (m : Matrix) : Type 0 where
  pub shape : Shaped m
  pub rows : Cut m.nrows (length m.values) m.row_ptrs

pub laid : (m : Matrix) → shape_test m ≡ Ok tt → rows_test m.nrows m.ncols m.row_ptrs m.col_idcs ≡ Ok tt → Laid m
laid m s e = record { shape = shaped m s; rows = cut m s e }

pub formed_laid : (limit p : ℕ) (m : Matrix) → well_formed limit p m ≡ Ok tt → Laid m
unfolding well_formed matrix_test
formed_laid limit p m e =
    let h = lowest_good _ _ (lowest_good _ _ (lowest_good _ _ (lowest_good _ _ e).1).1).0 in
    laid m h.0 (lowest_good _ _ h.1).0

pub formed_rows : (limit p : ℕ) (m : Matrix) → well_formed limit p m ≡ Ok tt → rows_test m.nrows m.ncols m.row_ptrs m.col_idcs ≡ Ok tt
unfolding well_formed matrix_test
formed_rows limit p m e = (lowest_good _ _ (lowest_good _ _ (lowest_good _ _ (lowest_good _ _ (lowest_good _ _ e).1).1).0).1).0

pub formed_cut : (limit p : ℕ) (m : Matrix) → well_formed limit p m ≡ Ok tt → Cut m.nrows (length m.values) m.row_ptrs
formed_cut limit p m e = (formed_laid limit p m e).rows
