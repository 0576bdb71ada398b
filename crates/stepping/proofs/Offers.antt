-- A row whose columns climb and whose values pass 6 and 7 is clean.
-- Assumes nothing.
use Rattle.std.specs.Prelude.{Ok}
use mathlib.Core.Path.{◌≡◌, sym, ap, subst}
use mathlib.Core.List.{List}
use Prim.Native.Nat.{ℕ, ◌<◌}
use native.Mathlib.Omega.{arith}
use borrow.Author.Tests.{eqb-false}
use lib.Dec.{eqb}
use lib.ListN.{length, get_or}
use Rattle.lists.proofs.Tables.{get_or-table}
use Rattle.sparse.specs.Put.{cols_of}
use Rattle.sparse.specs.Rows.{entry, entries}
use Rattle.sparse.specs.Tests.{value_test, values_test}
use Rattle.sparse.specs.declared.Refusal.TheVariants.{Zero}
use Rattle.sparse.specs.declared.inside.Clause.TheVariants.{Residue, Nonzero}
use Rattle.sparse.proofs.Firsts.{refuse_good, each_good}
use Rattle.meaning.proofs.BuiltForm.{below_p}
use Rattle.meaning.proofs.RowLists.{entry_cols, length-entries}
use Rattle.meaning.proofs.Values.{Climbs}
use Rattle.state.specs.declared.Counts.{Counts}
use Rattle.steps.specs.Rows.{Storable, entry_at}
use Rattle.stepping.specs.Asks.{Offered}

-- a stored value isn't 0
pub above_zero : (p : ℕ) (vals : List ℕ) → values_test Nonzero p vals ≡ Ok tt → (k : ℕ) → k < length vals → 0 < get_or vals k 0
unfolding values_test value_test
above_zero p vals e k h = omega (arith, eqb-false (get_or vals k 0) 0 (refuse_good (eqb (get_or vals k 0) 0) Zero (each_good (length vals) _ e k h)))

value_here : (cols vals : List ℕ) (k : ℕ) → k < length vals → (entry_at (entries cols vals) k).value ≡ get_or vals k 0
unfolding entries
value_here cols vals k h = ap (λ e. e.value) (get_or-table (length vals) (λ i. entry (get_or cols i 0) (get_or vals i 0)) k (entry 0 0) h)

pub offered : (c : Counts) (cols vals : List ℕ) → length cols ≡ length vals → Climbs c.ncols cols → values_test Residue c.modulus vals ≡ Ok tt → values_test Nonzero c.modulus vals ≡ Ok tt → Offered c cols vals
unfolding cols_of
offered c cols vals same climbs low some = record {
  same = same;
  clean = record {
    climbs = subst (Climbs c.ncols) (sym (entry_cols cols vals same)) climbs;
    values = record {
      at = λ i h.
          let l : i < length vals = omega (arith, length-entries cols vals) in
          subst (Storable c.modulus) (sym (value_here cols vals i l)) (record { pos = above_zero c.modulus vals some i l; below = below_p c.modulus vals low i l });
    };
  };
}
