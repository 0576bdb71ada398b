-- Back substitution of rows in echelon form: reduced rows, one for each pivot from the highest down, the only ones of that span.
-- Assumes nothing.
use Rattle.std.specs.Prelude.{Some}
use mathlib.Core.Path.{◌≡◌}
use mathlib.Core.Bool.{true}
use mathlib.Core.List.{List}
use Prim.Native.Nat.{ℕ, ◌+◌, ◌-◌, ◌*◌, ◌≤◌, ◌<◌}
use native.Mathlib.Omega.{arith}
use lib.ListN.{length}
use Rattle.lists.specs.Sum.{Σ}
use Rattle.sparse.specs.Rows.{Entry}
use Rattle.walk.specs.Step.{Upper}
use Rattle.steps.specs.History.{answered}
use Rattle.steps.specs.Rows.{value_of, CleanRow}
use Rattle.steps.specs.Setting.{Inverts, Echelon}
use Rattle.reduced.specs.Building.{Built, Finished}
use Rattle.reduced.specs.Order.{column_down, row_down}
use Rattle.reduced.specs.Reduced.{Reduced, SameSpan, Among}
use Rattle.reduced.proofs.Builds.{built_finished, built_accepted}
use Rattle.reduced.proofs.Orders.{down_spans, down_falling}
use Rattle.reduced.proofs.Rooms.{finished_fits, built_few}
use Rattle.reduced.proofs.Uniques.{reduced_unique, span_back, span_join}

-- U's k rows in echelon form, stored as clean rows
module _ {p n k : ℕ} {u : Upper} {h : ℕ → ℕ} (inverts : Inverts p) (echelon : Echelon p n k u h) (stored : ℕ → List Entry)
    (clean : (r : ℕ) → r < k → CleanRow p n (stored r)) (means : (r : ℕ) → r < k → (j : ℕ) → j < n → value_of (stored r) j ≡ u.value r j) where
  abbrev rows : ℕ → List Entry
  rows i = stored (row_down u.pivots n i)

  -- while the second U v is built: row e is accepted at the e-th pivot column from the highest, and has its place
  module _ {e : ℕ} {v : Upper} (low : e < k) (built : Built p n rows e v) where
    pub back_accepted : (answered true p n e v (rows e)).answer ≡ Some (column_down u.pivots n e)
    back_accepted = built_accepted inverts (down_falling echelon stored means inverts clean) low built

    pub back_few : length (answered true p n e v (rows e)).u ≤ n - k + 1
    back_few = built_few (down_falling echelon stored means inverts clean) inverts low built

  -- the first e rows of v, stored as clean rows, fit e times n - k + 1 entry places
  pub back_fits : {e : ℕ} {v : Upper} → e ≤ k → Built p n rows e v → (new : ℕ → List Entry) → ((i : ℕ) → i < e → CleanRow p n (new i)) → ((i : ℕ) → i < e → (j : ℕ) → j < n → value_of (new i) j ≡ v.value i j) → Σ e (λ i. length (new i)) ≤ e * (n - k + 1)
  back_fits low built = let falling = down_falling echelon stored means inverts clean in finished_fits falling (built_finished inverts falling low built)

  -- when it is built
  module _ {v : Upper} (built : Built p n rows k v) where
    pub back_finished : Finished p n k rows (column_down u.pivots n) v
    back_finished = built_finished inverts (down_falling echelon stored means inverts clean) (omega arith) built

    pub back_reduced : Reduced p n k v.value (column_down u.pivots n)
    back_reduced = back_finished.reduced

    -- the span is U's
    pub back_spans : SameSpan p n k u.value k v.value
    back_spans = span_join (down_spans echelon stored means) back_finished.spans

    -- reduced rows of U's span are among these
    pub back_only : {l : ℕ} {s : ℕ → ℕ → ℕ} {g : ℕ → ℕ} → Reduced p n l s g → SameSpan p n k u.value l s → (i : ℕ) → i < l → Among n (s i) (g i) k v.value (column_down u.pivots n)
    back_only reduced spans = reduced_unique inverts.least reduced back_reduced (span_join (span_back spans) back_spans)
