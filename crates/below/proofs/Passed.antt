-- What the tests before a join leave: the matrices are laid out row by row, and the result is within the limits.
-- Assumes nothing.
use Rattle.std.specs.Prelude.{Err, Ok}
use mathlib.Core.Path.{◌≡◌, refl, sym, ◌∙◌}
use mathlib.Core.Bool.{Bool, true, false, cond, not}
use mathlib.Core.List.{List, [], ◌∷◌, ◌++◌, flatten}
use Prim.Native.Nat.{ℕ, ◌+◌, ◌≤◌, ◌<◌}
use native.Mathlib.Nat.{add-zero}
use native.Mathlib.Omega.{arith}
use lib.Dec.{leb, eqb}
use lib.ListN.{length}
use borrow.Author.Tests.{le-leb, lt-leb}
use Rattle.sparse.specs.Lent.{Lent, room_test}
use Rattle.sparse.specs.Matrix.{Matrix}
use Rattle.sparse.specs.Refusals.{number, refuse, lowest, Tested}
use Rattle.sparse.specs.Rows.{Entry, entries, rows_of}
use Rattle.sparse.specs.declared.Refusal.{Refusal}
use Rattle.sparse.specs.declared.Refusal.TheVariants.{Mismatch}
use Rattle.sparse.proofs.Cuts.{Laid, laid}
use Rattle.sparse.proofs.Firsts.{lowest_good}
use Rattle.writing.proofs.Lowests.{both_good}
use Rattle.writing.proofs.MatrixRows.{matrix_sized}
use Rattle.writing.proofs.Puttings.{Sized, room_known}
use Rattle.joining.specs.Joined.{sizes_tests, forms_tests}
use Rattle.joining.proofs.Formed.{formed, joined_small, Formed}
use Rattle.below.specs.Asks.{RowsFit}
use Rattle.below.specs.Below.{lower, append_test, add_row_test}
use Rattle.below.specs.Parts.{both_tests, rows_in}
use Rattle.below.proofs.Appends.{rows_sized, row_sized, row_alone, row_cut}

-- neither of two refuses
pub lower_good : (s t : Tested) → lower s t ≡ Ok tt → (s ≡ Ok tt) × (t ≡ Ok tt)
unfolding lower
lower_good (Ok _) t e = (refl, e)
lower_good (Err r) (Ok _) e = (e, refl)
lower_good (Err r) (Err q) e = absurd (never (leb (number r) (number q)) e)
  where
    never : (b : Bool) → ◌≡◌ {A = Tested} (cond b (Err r) (Err q)) (Ok tt) → ⊥
    never true f = let z : ◌≡◌ {A = ℕ} 0 1 = cc in omega arith
    never false f = let z : ◌≡◌ {A = ℕ} 0 1 = cc in omega arith

-- the lower number of two that refuse
pub lower_first : {s t : Tested} {r q : Refusal} {a b : ℕ} → s ≡ Err r → t ≡ Err q → a ≡ number r → b ≡ number q → a ≤ b → Err r ≡ lower s t
unfolding lower
lower_first e f g h l = rw (e, f, ← g, ← h, le-leb _ _ l)

pub lower_second : {s t : Tested} {r q : Refusal} {a b : ℕ} → s ≡ Err r → t ≡ Err q → a ≡ number r → b ≡ number q → b < a → Err q ≡ lower s t
unfolding lower
lower_second e f g h l = rw (e, f, ← g, ← h, lt-leb _ _ l)

-- `append`
module _ (p : ℕ) (a b : Matrix) where
  abbrev pub append-sizes : List Tested
  append-sizes = sizes_tests p a.nrows a.ncols (length a.values) b.nrows b.ncols (length b.values) b.nrows 0

  pub append-tests : append_test p a b ≡ lowest (append-sizes ++ (both_tests p a b ++ (refuse (not (eqb a.ncols b.ncols)) Mismatch ∷ [])))
  unfolding append_test sizes_tests both_tests
  append-tests = rw (add-zero a.ncols)

  both_laid : lowest (both_tests p a b) ≡ Ok tt → Laid a × Laid b
  unfolding both_tests
  both_laid e =
      let one = lowest_good _ _ e in
      let two = lowest_good _ _ one.1 in
      let rows = lower_good _ _ (lowest_good _ _ two.1).0 in
      (laid a one.0 rows.0, laid b two.0 rows.1)

module _ (p : ℕ) (a b : Matrix) (e : append_test p a b ≡ Ok tt) where
  append-laid : Laid a × Laid b
  append-laid = both_laid p a b (both_good (both_tests p a b) _ (both_good (append-sizes p a b) _ (sym (append-tests p a b) ∙ e)).1).0

  pub append-small : a.nrows + b.nrows ≤ 1024
  append-small = (joined_small _ _ _ _ _ _ _ _ _ (both_good (append-sizes p a b) _ (sym (append-tests p a b) ∙ e)).0).high

  pub append-sized : Sized (rows_of a ++ rows_of b) (a.nrows + b.nrows) (length a.values + length b.values)
  append-sized = rows_sized a (rows_of b) b.nrows (length b.values) append-laid.0 (matrix_sized b append-laid.1)

  pub append-fits : (l : Lent) {s : Tested} → s ≡ room_test (a.nrows + b.nrows) (length a.values + length b.values) l → s ≡ Ok tt
      → RowsFit a.nrows a.row_ptrs a.col_idcs a.values b.nrows b.row_ptrs b.col_idcs b.values l
  unfolding rows_in rows_of
  append-fits l q g = record {
    same = append-laid.0.shape.col_each;
    cut = append-laid.0.rows;
    more_same = append-laid.1.shape.col_each;
    more_cut = append-laid.1.rows;
    rows = record { room = room_known _ l append-sized q g };
  }

pub rows_here : (m : Matrix) (rs : List (List Entry)) {n k : ℕ} → Sized (rows_of m ++ rs) n k → Sized (rows_in m.nrows m.row_ptrs m.col_idcs m.values ++ rs) n k
unfolding rows_in rows_of
rows_here m rs s = s

-- `add_row`
module _ (p : ℕ) (m : Matrix) (cols vals : List ℕ) where
  abbrev pub row_sizes : List Tested
  row_sizes = sizes_tests p m.nrows m.ncols (length m.values) 1 m.ncols (length vals) 1 0

  pub row_tests_lem : add_row_test p m cols vals ≡ lowest (row_sizes ++ forms_tests p m m.ncols cols vals)
  unfolding add_row_test sizes_tests forms_tests
  row_tests_lem = rw (add-zero m.ncols)

module _ (p : ℕ) (m : Matrix) (cols vals : List ℕ) (e : add_row_test p m cols vals ≡ Ok tt) where
  row_formed : Formed m m.ncols cols vals
  row_formed = formed p m m.ncols cols vals (both_good (row_sizes p m cols vals) _ (sym (row_tests_lem p m cols vals) ∙ e)).1

  pub row_small : m.nrows + 1 ≤ 1024
  row_small = (joined_small _ _ _ _ _ _ _ _ _ (both_good (row_sizes p m cols vals) _ (sym (row_tests_lem p m cols vals) ∙ e)).0).high

  pub added_sized : Sized (rows_of m ++ (entries cols vals ∷ [])) (m.nrows + 1) (length m.values + length vals)
  added_sized = rows_sized m (entries cols vals ∷ []) 1 (length vals) row_formed.matrix_laid (row_sized cols vals)

  pub added_fits : (l : Lent) {s : Tested} → s ≡ room_test (m.nrows + 1) (length m.values + length vals) l → s ≡ Ok tt
      → RowsFit m.nrows m.row_ptrs m.col_idcs m.values 1 (0 ∷ length vals ∷ []) cols vals l
  added_fits l q g = record {
    same = row_formed.matrix_laid.shape.col_each;
    cut = row_formed.matrix_laid.rows;
    more_same = row_formed.each;
    more_cut = row_cut (length vals);
    rows = record { room = rw (row_alone cols vals) (room_of l q g) };
  }
    where
      room_of : (l : Lent) {s : Tested} → s ≡ room_test (m.nrows + 1) (length m.values + length vals) l → s ≡ Ok tt
          → room_test (length (rows_in m.nrows m.row_ptrs m.col_idcs m.values ++ (entries cols vals ∷ []))) (length (flatten (rows_in m.nrows m.row_ptrs m.col_idcs m.values ++ (entries cols vals ∷ [])))) l ≡ Ok tt
      room_of l q g = room_known (rows_in m.nrows m.row_ptrs m.col_idcs m.values ++ (entries cols vals ∷ [])) l (rows_here m (entries cols vals ∷ []) added_sized) q g
