-- U in memory with one row more: the rows that were there stay as they are, and the new one is as the others.
-- Assumes nothing.
use mathlib.Core.Path.{◌≡◌, refl, sym, ap, ap₂, subst, ◌∙◌}
use mathlib.Core.List.{List, ◌∷◌}
use Prim.Native.Nat.{ℕ, ◌+◌, ◌≤◌, ◌<◌}
use native.Mathlib.Nat.{add-zero}
use native.Mathlib.Omega.{arith}
use lib.ListN.{length, get_or, set, length-map, length-set}
use Rattle.meaning.proofs.Values.{Climbs}
use Rattle.sparse.specs.Matrix.{value_in, row}
use Rattle.sparse.specs.Put.{cols_of, values_of}
use Rattle.sparse.specs.Rows.{Entry, entry}
use Rattle.walk.specs.Step as S
use Rattle.steps.specs.Rows.{CleanRow}
use Rattle.steps.specs.Setting.{with_last, Grown}
use Rattle.steps.proofs.Lasts.{last_all}
use Rattle.writing.specs.Puts.{put_at}
use Rattle.writing.proofs.Puts.{length-put_at}
use Rattle.keeping.proofs.Puts.{put_before, put_there, pointer_kept, pointer_new, row_kept, row_new}
use Rattle.keeping.proofs.Storables.{Storables, each_storables}
use Rattle.keeping.proofs.Uppers.{Fine, Upright}

-- so many entries more, and one row pointer more, have a place
pub record Fits (rank fill len : ℕ) (cols vals ptrs : List ℕ) : Type 0 where
  pub columns : fill + len ≤ length cols
  pub numbers : fill + len ≤ length vals
  pub pointer : rank + 1 < length ptrs

module _ {p n rank fill : ℕ} {cols vals ptrs : List ℕ} {h : ℕ → ℕ} (u : Upright p n rank fill cols vals ptrs h) (es : List Entry) (f : Fits rank fill (length es) cols vals ptrs) where
  -- U's lists afterwards
  abbrev cols' : List ℕ
  cols' = put_at fill (cols_of es) cols

  abbrev vals' : List ℕ
  vals' = put_at fill (values_of es) vals

  abbrev ptrs' : List ℕ
  ptrs' = set ptrs (rank + 1) (fill + length es)

  many_cols : length (cols_of es) ≡ length es
  unfolding cols_of
  many_cols = length-map es (λ (e : Entry). e.col)

  many_vals : length (values_of es) ≡ length es
  unfolding values_of
  many_vals = length-map es (λ (e : Entry). e.value)

  fits_cols : fill + length (cols_of es) ≤ length cols
  fits_cols = omega (arith, many_cols, f.columns)

  fits_vals : fill + length (values_of es) ≤ length vals
  fits_vals = omega (arith, many_vals, f.numbers)

  pub long_cols : length cols' ≡ length cols
  long_cols = length-put_at fill (cols_of es) cols fits_cols

  pub long_vals : length vals' ≡ length vals
  long_vals = length-put_at fill (values_of es) vals fits_vals

  pub long_ptrs : length ptrs' ≡ length ptrs
  long_ptrs = length-set ptrs (rank + 1) (fill + length es)

  -- a row that was there
  module _ (r : ℕ) (l : r < rank) where
    from : get_or ptrs' r 0 ≡ get_or ptrs r 0
    from = pointer_kept rank fill (length es) ptrs f.pointer r (omega arith)

    upto : get_or ptrs' (r + 1) 0 ≡ get_or ptrs (r + 1) 0
    upto = pointer_kept rank fill (length es) ptrs f.pointer (r + 1) (omega arith)

    cols_kept : row ptrs' cols' r ≡ row ptrs cols r
    cols_kept = row_kept rank fill (length es) ptrs f.pointer (cols_of es) cols many_cols f.columns r l (u.rows r l).fits

    vals_kept : row ptrs' vals' r ≡ row ptrs vals r
    vals_kept = row_kept rank fill (length es) ptrs f.pointer (values_of es) vals many_vals f.numbers r l (u.rows r l).fits

    old_fine : Fine p n (fill + length es) (h r) cols' vals' ptrs' r
    old_fine =
        let was : Fine p n fill (h r) cols vals ptrs r = u.rows r l in
        let low : get_or ptrs r 0 < fill = omega (arith, was.pivot.filled, was.fits) in
        record {
          pivot = record {
            pointer = omega (arith, was.pivot.pointer, long_ptrs);
            filled = omega (arith, was.pivot.filled, from, upto);
            columns = omega (arith, was.pivot.columns, upto, long_cols);
            numbers = omega (arith, was.pivot.numbers, upto, long_vals);
            climbs = subst (Climbs n) (sym cols_kept) was.pivot.climbs;
            starts = ap (λ (k : ℕ). get_or cols' k 0) from ∙ put_before fill (cols_of es) cols fits_cols (get_or ptrs r 0) low ∙ was.pivot.starts;
            one = ap (λ (k : ℕ). get_or vals' k 0) from ∙ put_before fill (values_of es) vals fits_vals (get_or ptrs r 0) low ∙ was.pivot.one;
          };
          fits = omega (arith, was.fits, upto);
          values = subst (Storables p) (sym vals_kept) was.values;
        }

  -- the new row
  last_from : get_or ptrs' rank 0 ≡ fill
  last_from = pointer_kept rank fill (length es) ptrs f.pointer rank (omega arith) ∙ u.ends

  last_upto : get_or ptrs' (rank + 1) 0 ≡ fill + length es
  last_upto = pointer_new rank fill (length es) ptrs f.pointer

  cols_new : row ptrs' cols' rank ≡ cols_of es
  cols_new = row_new rank fill (length es) ptrs f.pointer (cols_of es) cols many_cols f.columns u.ends

  vals_new : row ptrs' vals' rank ≡ values_of es
  vals_new = row_new rank fill (length es) ptrs f.pointer (values_of es) vals many_vals f.numbers u.ends

  -- v is U with that row
  pub upright_grown : (pivots : List ℕ) (g : ℕ) → Grown n rank g (S.upper cols vals ptrs pivots) es (S.upper cols' vals' ptrs' (set pivots g rank))
  unfolding S.upper
  upright_grown pivots g = record {
    kept = λ i l j b. ap₂ (λ (a c : List ℕ). value_in a c j) (cols_kept i l) (vals_kept i l);
    added = λ j b. ap₂ (λ (a c : List ℕ). value_in a c j) cols_new vals_new;
    placed = refl;
  }

  module _ (clean : CleanRow p n es) (g : ℕ) (beyond : List Entry) (head : es ≡ entry g 1 ∷ beyond) where
    some : 0 < length es
    some = omega (arith, ap length head)

    first_col : get_or (cols_of es) 0 0 ≡ g
    unfolding cols_of
    first_col = ap (λ (l : List Entry). get_or (cols_of l) 0 0) head

    first_val : get_or (values_of es) 0 0 ≡ 1
    unfolding values_of
    first_val = ap (λ (l : List Entry). get_or (values_of l) 0 0) head

    new_fine : Fine p n (fill + length es) g cols' vals' ptrs' rank
    new_fine = record {
      pivot = record {
        pointer = omega (arith, f.pointer, long_ptrs);
        filled = omega (arith, some, last_from, last_upto);
        columns = omega (arith, f.columns, last_upto, long_cols);
        numbers = omega (arith, f.numbers, last_upto, long_vals);
        climbs = subst (Climbs n) (sym cols_new) clean.climbs;
        starts = ap (λ (k : ℕ). get_or cols' k 0) (last_from ∙ sym (add-zero fill)) ∙ put_there fill (cols_of es) cols fits_cols 0 (omega (arith, some, many_cols)) ∙ first_col;
        one = ap (λ (k : ℕ). get_or vals' k 0) (last_from ∙ sym (add-zero fill)) ∙ put_there fill (values_of es) vals fits_vals 0 (omega (arith, some, many_vals)) ∙ first_val;
      };
      fits = omega (arith, last_upto);
      values = subst (Storables p) (sym vals_new) (each_storables clean.values);
    }

    pub upright_grows : Upright p n (rank + 1) (fill + length es) cols' vals' ptrs' (with_last rank g h)
    upright_grows = record {
      starts = pointer_kept rank fill (length es) ptrs f.pointer 0 (omega arith) ∙ u.starts;
      ends = last_upto;
      rows = λ r l. last_all rank g h (λ i x. Fine p n (fill + length es) x cols' vals' ptrs' i) new_fine old_fine r (omega arith);
    }
