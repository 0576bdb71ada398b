-- The right half of a square matrix with the identity beside it, its rows reversed, is the identity with its rows reversed.
-- Assumes nothing.
use Rattle.std.specs.Prelude.{Ok}
use mathlib.Core.Path.{◌≡◌, refl, sym, ap, ap₂, ◌∙◌}
use mathlib.Core.List.{List, [], ◌∷◌, ◌++◌, map}
use Prim.Native.Nat.{ℕ, suc, ◌+◌, ◌-◌, ◌<◌}
use native.Mathlib.Omega.{arith}
use lib.ListN.{length, get_or}
use borrow.Author.Tests.{le-leb, lt-leb, eqb-true, not-false}
use Rattle.lists.specs.Find.{keep}
use Rattle.lists.specs.Table.{table}
use Rattle.lists.proofs.Tables.{length-table, table_ext}
use Rattle.sparse.specs.Matrix.{Matrix}
use Rattle.sparse.specs.Rows.{Entry, entry, row_at, compressed}
use Rattle.sparse.specs.Tests.{well_formed}
use Rattle.sparse.specs.declared.Refusal.TheVariants.{NotSquare}
use Rattle.sparse.proofs.Firsts.{lowest_good, lowest_next, lowest_last, refuse_good}
use Rattle.meaning.proofs.Values.{columns_climb}
use Rattle.writing.proofs.WellFormed.{given_columns}
use Rattle.beside.specs.Beside.{with_one, append_identity_test}
use Rattle.beside.proofs.Values.{identity_row}
use Rattle.moves.specs.Moves.{half, right_of, reversed_right}
use Rattle.moves.proofs.Rights.{right_append}

-- columns below h: none is kept
right_none : (h : ℕ) (es : List Entry) → ((k : ℕ) → k < length (map (λ (e : Entry). e.col) es) → get_or (map (λ (e : Entry). e.col) es) k 0 < h) → right_of h es ≡ []
unfolding right_of keep
right_none h [] low = refl
right_none h (e ∷ es) low = let first : e.col < h = low 0 (omega arith) in rw (lt-leb h e.col first) (right_none h es (λ k l. low (suc k) (omega arith)))

-- the entry of the identity's row r
right_one : (h r : ℕ) → right_of h (entry (h + r) 1 ∷ []) ≡ entry r 1 ∷ []
unfolding right_of keep
right_one h r = let back : h + r - h ≡ r = omega arith in rw (le-leb h (h + r) (omega arith), back)

half_twice : (n : ℕ) → half (n + n) ≡ n
unfolding half
half_twice n = omega arith

module _ (p : ℕ) (m : Matrix) (good : append_identity_test p m ≡ Ok tt) where
  square : m.nrows ≡ m.ncols
  unfolding append_identity_test
  square = eqb-true _ _ (not-false _ (refuse_good _ NotSquare (lowest_good _ _ (lowest_good _ _ (lowest_good _ _ (lowest_good _ _ (lowest_good _ _ good).1).1).1).1).0))

  formed : well_formed 65536 p m ≡ Ok tt
  unfolding append_identity_test well_formed
  formed =
      let one = lowest_good _ _ good in
      let two = lowest_good _ _ one.1 in
      let three = lowest_good _ _ two.1 in
      sym (lowest_next _ refl one.0 (lowest_next _ refl two.0 (lowest_last (sym (lowest_good _ _ three.1).0))))

  -- the matrix with the identity beside it, as `append_identity` makes it
  abbrev joined : Matrix
  joined = compressed (m.ncols + m.nrows) (table m.nrows (with_one m))

  right_row : (r : ℕ) → r < m.nrows → right_of (half (m.ncols + m.nrows)) (row_at joined r) ≡ entry r 1 ∷ []
  unfolding with_one
  right_row r h =
      ap₂ right_of (ap (λ (n : ℕ). half (m.ncols + n)) square ∙ half_twice m.ncols) (identity_row (m.ncols + m.nrows) m r h)
      ∙ right_append m.ncols (row_at m r) (entry (m.ncols + r) 1 ∷ [])
      ∙ ap₂ (λ (xs ys : List Entry). xs ++ ys) (right_none m.ncols (row_at m r) (columns_climb m.ncols _ (given_columns p m formed r h)).below) (right_one m.ncols r)

  pub reversed_identity : reversed_right joined ≡ table m.nrows (λ i. entry (m.nrows - 1 - i) 1 ∷ [])
  unfolding reversed_right compressed
  reversed_identity =
      ap (λ (n : ℕ). table n (λ i. right_of (half (m.ncols + m.nrows)) (row_at joined (n - 1 - i)))) (length-table m.nrows (with_one m))
      ∙ table_ext m.nrows _ _ (λ i l. right_row (m.nrows - 1 - i) (omega arith))
