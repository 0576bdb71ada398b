-- Good entries in new columns beside a good row make a good row, and beside each row of a good matrix a good matrix.
-- Assumes nothing.
use Rattle.std.specs.Prelude.{Ok}
use mathlib.Core.Path.{◌≡◌, sym, subst}
use mathlib.Core.List.{List, [], ◌∷◌, ◌++◌, map, map-append, flatten}
use Prim.Native.Nat.{ℕ, ◌≤◌, ◌<◌}
use native.Mathlib.Nat.{not-suc-le-zero}
use lib.ListN.{length, get_or}
use borrow.Author.Tests.{lt-leb}
use Rattle.lists.specs.Table.{table}
use Rattle.lists.proofs.Tables.{length-table, get_or-table}
use Rattle.sparse.specs.Matrix.{Matrix}
use Rattle.sparse.specs.Rows.{Entry, entry, row_at, compressed}
use Rattle.sparse.specs.Tests.{size_test, columns_test, value_test, values_test, well_formed}
use Rattle.sparse.specs.declared.Refusal.TheVariants.{Value}
use Rattle.sparse.specs.declared.inside.Clause.TheVariants.{Residue}
use Rattle.sparse.proofs.Firsts.{lowest_good, refuse_false, all_good}
use Rattle.meaning.proofs.BuiltForm.{below_p}
use Rattle.meaning.proofs.Climbing.{each_append, each_one, climbs_none, climbs_one, climbs_append}
use Rattle.meaning.proofs.RowColumns.{climbs_good}
use Rattle.meaning.proofs.Values.{Climbs, columns_climb}
use Rattle.writing.proofs.WellFormed.{given_columns, given_values, rows_well_formed}

-- 6 finds nothing in values below p
low_values : (p : ℕ) (vals : List ℕ) → ((k : ℕ) → k < length vals → get_or vals k 0 < p) → values_test Residue p vals ≡ Ok tt
unfolding values_test value_test
low_values p vals low = all_good (length vals) _ (λ k h. refuse_false _ Value (lt-leb p (get_or vals k 0) (low k h)))

-- good entries in the columns from n up to k
pub record Beyond (p n k : ℕ) (es : List Entry) : Type 0 where
  pub climbs : Climbs k (map (λ e. e.col) es)
  pub from : (j : ℕ) → j < length (map (λ e. e.col) es) → n ≤ get_or (map (λ e. e.col) es) j 0
  pub small : (j : ℕ) → j < length (map (λ e. e.value) es) → get_or (map (λ e. e.value) es) j 0 < p

pub beyond_none : (p n k : ℕ) → Beyond p n k []
beyond_none p n k = record {
  climbs = climbs_none k;
  from = λ j h. absurd (not-suc-le-zero h);
  small = λ j h. absurd (not-suc-le-zero h);
}

pub beyond_one : {p n k c v : ℕ} → n ≤ c → c < k → v < p → Beyond p n k (entry c v ∷ [])
beyond_one {p} {n} {k} {c} {v} h l b = record { climbs = climbs_one l; from = each_one (λ x. n ≤ x) c h; small = each_one (λ x. x < p) v b }

module _ (p : ℕ) (m : Matrix) (good : well_formed 65536 p m ≡ Ok tt) (k : ℕ) (wider : m.ncols ≤ k) (f : ℕ → List Entry) (each : (i : ℕ) → i < m.nrows → Beyond p m.ncols k (f i)) where
  abbrev rows : List (List Entry)
  rows = table m.nrows (λ i. row_at m i ++ f i)

  row_columns : (i : ℕ) → i < m.nrows → columns_test k (map (λ (e : Entry). e.col) (row_at m i ++ f i)) ≡ Ok tt
  row_columns i h = rw (map-append (λ (e : Entry). e.col) (row_at m i) (f i)) (climbs_good k _ (climbs_append wider (columns_climb m.ncols _ (given_columns p m good i h)) (each i h).climbs (each i h).from))

  row_values : (i : ℕ) → i < m.nrows → values_test Residue p (map (λ (e : Entry). e.value) (row_at m i ++ f i)) ≡ Ok tt
  row_values i h = rw (map-append (λ (e : Entry). e.value) (row_at m i) (f i)) (low_values p _ (each_append (λ j x. x < p) (map (λ (e : Entry). e.value) (row_at m i)) (map (λ (e : Entry). e.value) (f i)) (below_p p _ (given_values p m good i h)) (each i h).small))

  pub beside_well_formed : size_test 65536 (length rows) k (length (flatten rows)) ≡ Ok tt → well_formed 65536 p (compressed k rows) ≡ Ok tt
  unfolding well_formed
  beside_well_formed size =
      rows_well_formed p k rows (lowest_good _ _ good).0 size
      (λ i h. row_of (λ es. columns_test k (map (λ e. e.col) es) ≡ Ok tt) row_columns i h)
      (λ i h. row_of (λ es. values_test Residue p (map (λ e. e.value) es) ≡ Ok tt) row_values i h)
    where
      row_of : (P : List Entry → Type 0) → ((i : ℕ) → i < m.nrows → P (row_at m i ++ f i)) → (i : ℕ) → i < length rows → P (get_or rows i [])
      row_of P g i h =
          let l : i < m.nrows = rw (length-table m.nrows (λ i. row_at m i ++ f i)) at h in
          subst P (sym (get_or-table m.nrows (λ i. row_at m i ++ f i) i [] l)) (g i l)
