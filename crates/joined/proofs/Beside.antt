-- What `append_identity` and `append_col` make is well formed.
-- Assumes nothing.
use Rattle.std.specs.Prelude.{Ok}
use mathlib.Core.Path.{◌≡◌, refl, sym, ◌∙◌}
use mathlib.Core.List.{List, [], ◌∷◌}
use Prim.Native.Nat.{ℕ, ◌+◌, ◌<◌}
use native.Mathlib.Decide.{ℕ_discrete}
use native.Mathlib.Nat.{add-zero}
use native.Mathlib.Omega.{arith}
use lib.Dec.{ltb}
use lib.ListN.{length}
use borrow.Author.Tests.{not-false}
use Rattle.lists.specs.Find.{count}
use Rattle.lists.specs.Table.{table}
use Rattle.field.proofs.Primes.{modulus_iff}
use Rattle.sparse.specs.Matrix.{Matrix}
use Rattle.sparse.specs.Rows.{entry, entries, compressed}
use Rattle.sparse.specs.Tests.{modulus_test, values_test, well_formed}
use Rattle.sparse.specs.declared.Refusal.TheVariants.{Modulus}
use Rattle.sparse.specs.declared.inside.Clause.TheVariants.{Residue}
use Rattle.sparse.proofs.Firsts.{lowest_good, refuse_good}
use Rattle.meaning.proofs.BuiltForm.{below_p}
use Rattle.writing.proofs.Lowests.{both_good}
use Rattle.joining.specs.Joined.{forms_tests}
use Rattle.joining.proofs.Formed.{Formed, formed}
use Rattle.beside.specs.Asks.{Cursor}
use Rattle.beside.specs.Beside.{with_one, append_identity_test, with_column, append_col_test}
use Rattle.beside.specs.Parts.{in_column}
use Rattle.beside.proofs.Columns.{column_none, column_one}
use Rattle.beside.proofs.Passed.{ones_laid, col_sizes, col_tests, col_sized}
use Rattle.beside.proofs.Sizes.{ones_sized}
use Rattle.joined.proofs.Beyond.{Beyond, beyond_none, beyond_one, beside_well_formed}
use Rattle.joined.proofs.Passed.{formed_of, size_of, Sizes, sizes, BothGood, both_formed}

-- a prime is above 1
one_below : (p : ℕ) → modulus_test p ≡ Ok tt → 1 < p
unfolding modulus_test
one_below p e = ((modulus_iff p).0 (not-false _ (refuse_good _ Modulus e))).0.least

-- `append_identity`
pub identity_well_formed : (p : ℕ) (m : Matrix) → append_identity_test p m ≡ Ok tt → well_formed 65536 p (compressed (m.ncols + m.nrows) (table m.nrows (with_one m))) ≡ Ok tt
unfolding append_identity_test with_one
identity_well_formed p m e =
    let one = lowest_good _ _ e in
    let two = lowest_good _ _ one.1 in
    let three = lowest_good _ _ two.1 in
    beside_well_formed p m (formed_of p m one.0 two.0 (lowest_good _ _ three.1).0) (m.ncols + m.nrows) (omega arith)
    (λ i. entry (m.ncols + i) 1 ∷ []) (λ i h. beyond_one (omega arith) (omega arith) (one_below p one.0))
    (size_of (m.ncols + m.nrows) (ones_sized m (ones_laid p m e)) three.0)

-- what a good vector adds to row i: at most its one entry there
beyond_column : (p n len i : ℕ) (idcs vals : List ℕ) {m : Matrix} → Formed m len idcs vals → values_test Residue p vals ≡ Ok tt → Beyond p n (n + 1) (in_column n (entries idcs vals) i)
beyond_column p n len i idcs vals f small = go (ℕ_discrete after k)
  where
    k : ℕ
    k = count (λ x. ltb x i) idcs

    after : ℕ
    after = count (λ x. ltb x (i + 1)) idcs

    cursor : Cursor idcs i k
    cursor = record { strict = f.strict; stands = refl }

    go : Dec (after ≡ k) → Beyond p n (n + 1) (in_column n (entries idcs vals) i)
    go (yes e) = rw (column_none idcs vals f.each cursor refl n e) (beyond_none p n (n + 1))
    go (no e) =
        let one = column_one idcs vals f.each cursor refl n e in
        rw one.1 (beyond_one (omega arith) (omega arith) (below_p p vals small k one.0))

-- `append_col`
pub column_well_formed : (p : ℕ) (m : Matrix) (len : ℕ) (idcs vals : List ℕ) → append_col_test p m len idcs vals ≡ Ok tt → well_formed 65536 p (compressed (m.ncols + 1) (table m.nrows (with_column m (entries idcs vals)))) ≡ Ok tt
unfolding with_column in_column
column_well_formed p m len idcs vals e =
    let all = both_good (col_sizes p m len idcs vals) _ (sym (col_tests p m len idcs vals) ∙ e) in
    let size : Sizes p m.nrows m.ncols (length m.values) 1 len (length vals) 0 1 = sizes all.0 in
    let forms = both_good (forms_tests p m len idcs vals) _ all.1 in
    let good : BothGood p m len idcs vals = both_formed p m len idcs vals size forms.0 in
    beside_well_formed p m good.matrix (m.ncols + 1) (omega arith)
    (λ i. in_column m.ncols (entries idcs vals) i) (λ i h. beyond_column p m.ncols len i idcs vals (formed p m len idcs vals forms.0) good.small)
    (size_of (m.ncols + 1) (col_sized p m len idcs vals e) (rw (add-zero m.nrows) at size.together))
