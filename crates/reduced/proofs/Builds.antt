-- Back substitution: rows taken by falling head are each accepted at their own head, and U's rows are reduced and keep the span.
-- Assumes nothing.
use Rattle.std.specs.Prelude.{None, Some}
use mathlib.Core.Path.{◌≡◌, ap, ◌∙◌}
use mathlib.Core.Bool.{true}
use mathlib.Core.List.{List}
use Prim.Native.Nat.{ℕ, zero, suc, ◌≤◌, ◌<◌}
use native.Mathlib.Nat.{not-suc-le-zero}
use native.Mathlib.Omega.{arith}
use lib.ListN.{length, length-set}
use Rattle.lists.proofs.Tables.{length-table, get_or-table}
use Rattle.linear.proofs.Span.{span_trans}
use Rattle.sparse.specs.Pivots.{mark}
use Rattle.sparse.specs.Rows.{Entry}
use Rattle.walk.specs.Step.{Upper, pivot_at, Answer}
use Rattle.steps.specs.History.{answered, NoPivots, Next, stays, grows, placed, extended}
use Rattle.steps.specs.Setting.{Inverts}
use Rattle.steps.proofs.Histories.{extended_next}
use Rattle.reduced.specs.Building.{Falling, Built, empty, more, finished, Finished}
use Rattle.reduced.proofs.Taken.{not_none, at_own, finished_more}

-- the values of back substitution are built so
pub finished_built : (p n : ℕ) → n ≤ 1024 → (rows : ℕ → List Entry) (k : ℕ) → Built p n rows k (finished p n rows k)
unfolding finished pivot_at
finished_built p n wide rows zero = empty (finished p n rows 0) (record { wide = wide; long = omega (arith, length-table n (λ c. mark)); marks = λ c l. get_or-table n (λ c. mark) c 0 l })
finished_built p n wide rows (suc k) = more k (finished p n rows k) (finished_built p n wide rows k) (answered true p n k (finished p n rows k) (rows k)).answer (finished p n rows (suc k)) (extended_next true p n k (finished p n rows k) (rows k))

-- and keep the table's length
pub finished_long : (p n : ℕ) (rows : ℕ → List Entry) (k : ℕ) → length (finished p n rows k).pivots ≡ n
unfolding finished extended placed
finished_long p n rows zero = length-table n (λ c. mark)
finished_long p n rows (suc k) = go (answered true p n k (finished p n rows k) (rows k)).answer (finished_long p n rows k)
  where
    go : (a : Answer) → length (finished p n rows k).pivots ≡ n → length (placed k (finished p n rows k) (answered true p n k (finished p n rows k) (rows k)).u a).pivots ≡ n
    go None e = e
    go (Some g) e = length-set (finished p n rows k).pivots g k ∙ e

-- of no rows
finished_empty : {p n : ℕ} {rows : ℕ → List Entry} {h : ℕ → ℕ} {u : Upper} → NoPivots n u → Finished p n 0 rows h u
finished_empty f = record {
  table = record { wide = f.wide; long = f.long; holds = λ i l. absurd (not-suc-le-zero l); row = λ c l m. absurd (m (f.marks c l)); head = λ c l m. absurd (m (f.marks c l)) };
  reduced = record {
    heads = record { within = λ i l. absurd (not-suc-le-zero l); one = λ i l. absurd (not-suc-le-zero l); before = λ i l. absurd (not-suc-le-zero l); apart = λ i e l. absurd (not-suc-le-zero l) };
    small = λ i l. absurd (not-suc-le-zero l);
    clear = λ i e l. absurd (not-suc-le-zero l);
  };
  spans = record { same = λ y. (span_trans (λ i l. absurd (not-suc-le-zero l)), span_trans (λ i l. absurd (not-suc-le-zero l))) };
}

module _ {p n m : ℕ} {rows : ℕ → List Entry} {h : ℕ → ℕ} (inverts : Inverts p) (falling : Falling p n m rows h) where
  next_finished : (k : ℕ) → k < m → (u : Upper) → Finished p n k rows h u → {a : Answer} {v : Upper} → Next true p n k u (rows k) a v → (a ≡ Some (h k)) × Finished p n (suc k) rows h v
  next_finished k low u done (stays e) = absurd (not_none inverts falling k low u done e)
  next_finished k low u done (grows g v e grown) = (ap Some (at_own inverts falling k low u done e grown), finished_more inverts falling k low u done e grown)

  -- U after the first k rows: reduced, with their heads, and their span
  pub built_finished : {k : ℕ} {u : Upper} → k ≤ m → Built p n rows k u → Finished p n k rows h u
  built_finished low (empty u f) = finished_empty f
  built_finished low (more k u past a v next) = (next_finished k low u (built_finished (omega arith) past) next).1

  -- the next row is accepted at its own head
  pub built_accepted : {k : ℕ} {u : Upper} → k < m → Built p n rows k u → (answered true p n k u (rows k)).answer ≡ Some (h k)
  built_accepted {k} {u} low past = (next_finished k low u (built_finished (omega arith) past) (extended_next true p n k u (rows k))).0
