-- What the tests before `sort_rows_by_pivot` leave: the table names each row once, and the rows it names are as many entries as the matrix has.
-- Assumes nothing.
use Rattle.std.specs.Prelude.{Ok}
use mathlib.Core.Path.{◌≡◌, refl, sym, ap, ◌∙◌}
use mathlib.Core.Bool.{not}
use mathlib.Core.List.{List, [], ◌∷◌, map, flatten}
use Prim.Native.Nat.{ℕ, suc, ◌<◌}
use native.Mathlib.Omega.{arith}
use lib.Dec.{leb, eqb}
use lib.ListN.{length, get_or, length-map}
use borrow.Author.Tests.{eqb-true, not-false, leb-false}
use Rattle.sparse.specs.Refusals.{Tested}
use Rattle.lists.specs.Find.{count}
use Rattle.lists.proofs.Find.{any_false}
use Rattle.sparse.specs.Lent.{Lent, room_test}
use Rattle.sparse.specs.Matrix.{Matrix}
use Rattle.sparse.specs.Pivots.{named, pivots_test}
use Rattle.sparse.specs.Rows.{Entry, row_at}
use Rattle.sparse.proofs.Cuts.{Laid}
use Rattle.sparse.proofs.Firsts.{lowest_good, refuse_good, neither}
use Rattle.writing.proofs.MatrixRows.{matrix_laid, rows_each, rows_long}
use Rattle.writing.proofs.Puttings.{Sized, room_known}
use Rattle.writing.proofs.RowPuts.{row_at_lem}
use Rattle.moves.specs.Asks.{NamedFit}
use Rattle.pivots.specs.Tables.{table_test}
use Rattle.moves.specs.Parts.{rows_named}
use Rattle.moves.proofs.Totals.{Once, once_many, length-once}

-- 12 finds nothing: the table names each row once, and nothing else
pub named_once : (n : ℕ) (pivots : List ℕ) → pivots_test n pivots ≡ Ok tt → Once n (named pivots)
unfolding pivots_test
named_once n pivots e =
    let h = neither _ _ (refuse_good _ _ e) in
    record {
      below = λ k l. leb-false _ _ (any_false _ (λ k. leb n (get_or (named pivots) k 0)) h.0 k l);
      each = λ r l. eqb-true _ _ (not-false _ (any_false n (λ r. not (eqb (count (eqb r) (named pivots)) 1)) h.1 r l));
    }

map_below : {A : Type 0} (n : ℕ) (f g : ℕ → A) (xs : List ℕ) → ((i : ℕ) → i < n → f i ≡ g i) → ((k : ℕ) → k < length xs → get_or xs k 0 < n) → map f xs ≡ map g xs
map_below n f g [] e h = refl
map_below n f g (x ∷ xs) e h = λ j. e x (h 0 (omega arith)) j ∷ map_below n f g xs e (λ k l. h (suc k) (omega arith)) j

module _ (p : ℕ) (m : Matrix) (pivots : List ℕ) (e : table_test p m pivots ≡ Ok tt) where
  pub sort_laid : Laid m
  unfolding table_test
  sort_laid = matrix_laid p m (lowest_good _ _ (lowest_good _ _ (lowest_good _ _ (lowest_good _ _ e).1).1).1).0

  pub sort_once : Once m.nrows (named pivots)
  unfolding table_test
  sort_once = named_once m.nrows pivots (lowest_good _ _ (lowest_good _ _ (lowest_good _ _ (lowest_good _ _ (lowest_good _ _ e).1).1).1).1).0

  pub sort_sized : Sized (map (row_at m) (named pivots)) m.nrows (length m.values)
  sort_sized = record {
    many = length-map (named pivots) (row_at m) ∙ once_many m.nrows (named pivots) sort_once;
    long = length-once (row_at m) m.nrows (named pivots) sort_once ∙ ap (λ (rs : List (List Entry)). length (flatten rs)) (rows_each m) ∙ rows_long m sort_laid;
  }

  -- the rows that code writes
  pub sort_rows : rows_named m.row_ptrs m.col_idcs m.values pivots ≡ map (row_at m) (named pivots)
  unfolding rows_named
  sort_rows = map_below m.nrows _ _ (named pivots) (λ i l. sym (row_at_lem m i l)) sort_once.below

  pub sort_fits : (l : Lent) {s : Tested} → s ≡ room_test m.nrows (length m.values) l → s ≡ Ok tt → NamedFit m.row_ptrs m.col_idcs m.values pivots l
  sort_fits l q g = record {
    rows = m.nrows;
    same = sort_laid.shape.col_each;
    cut = sort_laid.rows;
    below = sort_once.below;
    room = record { room = rw sort_rows (room_known _ l sort_sized q g) };
  }
