-- A row's judgement: its L row's entries, then the product.
-- Assumes nothing.
use mathlib.Core.Path.{◌≡◌}
use mathlib.Core.Bool.{Bool, true, false}
use mathlib.Core.List.{List}
use Prim.Native.Nat.{ℕ}
use Rattle.sparse.specs.Lent.{Outcome, outcome}
use Rattle.sparse.specs.Matrix.{Matrix}
use Rattle.sparse.specs.Rows.{Entry, entries}
use Rattle.accounts.specs.Judgement.{product_fault, judge_fault}
use Rattle.judging.specs.Asks.{upper, Compares, Judges}
use Rattle.judging.specs.Faults.{entries_fault}
use Rattle.judging.proofs.Names.{names_rows}

-- entries without fault name rows of U, so the product can be made
pub judged_compares : {p n : ℕ} {u_cols u_vals ptrs : List ℕ} {k : ℕ} {l_cols l_vals cols vals dense : List ℕ} → Judges p n u_cols u_vals ptrs k l_cols l_vals cols vals dense → (a : ℕ)
    → entries_fault p (upper n u_cols u_vals ptrs) k a (entries l_cols l_vals) ≡ false → Compares p n u_cols u_vals ptrs l_cols l_vals cols vals dense
judged_compares {p} s a e = record {
  product = record { positive = s.positive; rows = s.named.upper.rows; same = s.named.same; names = names_rows s.named p a e; zero = s.zero };
  same = s.same;
  clean = s.clean;
}

module _ (p : ℕ) (u : Matrix) (k a : ℕ) (es l : List Entry) {dense : List ℕ} where
  pub judged_entries : entries_fault p u k a l ≡ true → outcome true dense ≡ outcome (judge_fault p u k es a l) dense
  unfolding judge_fault entries_fault
  judged_entries e = rw e

  pub judged_product : entries_fault p u k a l ≡ false → {r : Outcome Bool (List ℕ)} → r ≡ outcome (product_fault p u l es) dense → r ≡ outcome (judge_fault p u k es a l) dense
  unfolding judge_fault entries_fault
  judged_product e q = rw e q
