-- The m rows of back substitution fit m times n - m + 1 entry places, at every moment.
-- Assumes nothing.
use mathlib.Core.Path.{◌≡◌, sym, ◌∙◌}
use mathlib.Core.Bool.{true}
use mathlib.Core.List.{List}
use Prim.Native.Nat.{ℕ, ◌+◌, ◌-◌, ◌*◌, ◌≤◌, ◌<◌}
use native.Mathlib.Omega.{arith}
use lib.ListN.{length}
use Rattle.lists.specs.Sum.{Σ}
use Rattle.lists.proofs.Pigeons.{Distinct}
use Rattle.sparse.specs.Rows.{Entry}
use Rattle.walk.specs.Step.{Upper, Answer}
use Rattle.steps.specs.History.{answered, Next, stays, grows}
use Rattle.steps.specs.Rows.{value_of, CleanRow}
use Rattle.steps.specs.Setting.{Inverts}
use Rattle.reduced.specs.Building.{Falling, Built, Finished}
use Rattle.steps.proofs.Histories.{extended_next}
use Rattle.reduced.proofs.Builds.{built_finished}
use Rattle.reduced.proofs.Distincts.{apart_distinct}
use Rattle.reduced.proofs.Fits.{clear_few, sum-most}
use Rattle.reduced.proofs.Taken.{clear_all, not_none, new_row, finished_more}

module _ {p n m : ℕ} {rows : ℕ → List Entry} {h : ℕ → ℕ} (falling : Falling p n m rows h) where
  heads_distinct : Distinct m h
  heads_distinct = apart_distinct m h (λ i e l q z. omega (arith, z, falling.falls i e l q))

  -- U after k of the m rows: each of its rows, stored without zeros, has at most n - m + 1 entries
  module _ {k : ℕ} {u : Upper} (done : Finished p n k rows h u) where
    pub finished_few : (i : ℕ) → i < k → (es : List Entry) → CleanRow p n es → ((j : ℕ) → j < n → value_of es j ≡ u.value i j) → length es ≤ n - m + 1
    finished_few i l es clean means =
        clear_few heads_distinct falling.within i es clean
        (λ e b other. means (h e) (falling.within e b) ∙ clear_all falling done i e l b other)

    -- all together
    pub finished_fits : (stored : ℕ → List Entry) → ((i : ℕ) → i < k → CleanRow p n (stored i)) → ((i : ℕ) → i < k → (j : ℕ) → j < n → value_of (stored i) j ≡ u.value i j) → Σ k (λ i. length (stored i)) ≤ k * (n - m + 1)
    finished_fits stored clean means = sum-most k (n - m + 1) (λ i. length (stored i)) (λ i l. finished_few i l (stored i) (clean i l) (means i l))

  -- and so has the row that U gets next
  module _ (inverts : Inverts p) where
    next_few : (k : ℕ) → k < m → (u : Upper) → Finished p n k rows h u → {a : Answer} {v : Upper} → Next true p n k u (rows k) a v → length (answered true p n k u (rows k)).u ≤ n - m + 1
    next_few k low u done (stays e) = absurd (not_none inverts falling k low u done e)
    next_few k low u done (grows g v e grown) =
        finished_few (finished_more inverts falling k low u done e grown) k (omega arith) (answered true p n k u (rows k)).u (new_row inverts falling k low u done e grown) (λ j b. sym (grown.added j b))

    pub built_few : {k : ℕ} {u : Upper} → k < m → Built p n rows k u → length (answered true p n k u (rows k)).u ≤ n - m + 1
    built_few {k} {u} low past = next_few k low u (built_finished inverts falling (omega arith) past) (extended_next true p n k u (rows k))
