-- A row of U at its pivot: its head of 1, and what lies beyond.
-- Assumes nothing.
use mathlib.Core.Path.{◌≡◌, refl, sym, ap, ap₂, ◌∙◌}
use mathlib.Core.Bool.{cond}
use mathlib.Core.List.{List, ◌∷◌}
use Prim.Native.Nat.{ℕ, suc, ◌+◌, ◌-◌, ◌≤◌, ◌<◌}
use native.Mathlib.Nat.{zero-add}
use native.Mathlib.Numerals.{add-one}
use native.Mathlib.Omega.{arith}
use borrow.Author.Tests.{eq-eqb, ne_eqb}
use lib.Dec.{eqb}
use lib.ListN.{length, get_or, take, drop}
use lib.Seq.{drop-cons}
use Rattle.sparse.specs.Matrix.{part, row, value_in}
use Rattle.meaning.proofs.Parts.{length_part}
use Rattle.meaning.proofs.Values.{Climbs, value_first, value_elsewhere}
use Rattle.walk.specs.Asks.{Adds, PivotRow, Clears}
use Rattle.walk.specs.Dense.{beyond}
use Rattle.walk.proofs.Ways.{Beyond}

-- a part's first element apart
part_first : (a b : ℕ) (xs : List ℕ) → a < b → b ≤ length xs → part a b xs ≡ get_or xs a 0 ∷ part (a + 1) b xs
unfolding part
part_first a b xs h fits =
    let e : b - a ≡ suc (b - (a + 1)) = omega arith in
    ap (λ (k : ℕ). take k (drop a xs)) e
    ∙ ap (take (suc (b - (a + 1)))) (drop-cons xs a 0 (omega arith))
    ∙ ap (λ (k : ℕ). get_or xs a 0 ∷ take (b - (a + 1)) (drop k xs)) (sym (add-one a))

module _ {n c r : ℕ} {cols vals ptrs : List ℕ} (q : PivotRow n c cols vals ptrs r) where
  -- the row, head first
  cols_first : row ptrs cols r ≡ c ∷ beyond ptrs cols r
  unfolding row beyond
  cols_first = part_first (get_or ptrs r 0) (get_or ptrs (r + 1) 0) cols q.filled q.columns ∙ ap (λ (k : ℕ). k ∷ part (get_or ptrs r 0 + 1) (get_or ptrs (r + 1) 0) cols) q.starts

  vals_first : row ptrs vals r ≡ 1 ∷ beyond ptrs vals r
  unfolding row beyond
  vals_first = part_first (get_or ptrs r 0) (get_or ptrs (r + 1) 0) vals q.filled q.numbers ∙ ap (λ (k : ℕ). k ∷ part (get_or ptrs r 0 + 1) (get_or ptrs (r + 1) 0) vals) q.one

  climbing : Climbs n (c ∷ beyond ptrs cols r)
  climbing = rw cols_first at q.climbs

  -- what lies beyond the head
  pub beyond_climbs : Climbs n (beyond ptrs cols r)
  beyond_climbs = record { below = λ k h. climbing.below (suc k) (omega arith); rises = λ i k l h. climbing.rises (suc i) (suc k) (omega arith) (omega arith) }

  pub beyond_same : length (beyond ptrs cols r) ≡ length (beyond ptrs vals r)
  unfolding beyond
  beyond_same = length_part (get_or ptrs r 0 + 1) (get_or ptrs (r + 1) 0) cols q.columns ∙ sym (length_part (get_or ptrs r 0 + 1) (get_or ptrs (r + 1) 0) vals q.numbers)

  -- lies above it
  nothing : (j : ℕ) → j ≤ c → value_in (beyond ptrs cols r) (beyond ptrs vals r) j ≡ 0
  nothing j h = value_elsewhere (beyond ptrs cols r) (beyond ptrs vals r) j (λ k l e. omega (arith, climbing.rises 0 (suc k) (omega arith) (omega arith), e))

  values : (j : ℕ) → value_in (row ptrs cols r) (row ptrs vals r) j ≡ cond (eqb c j) 1 0 + value_in (beyond ptrs cols r) (beyond ptrs vals r) j
  values j = ap₂ (λ cs vs. value_in cs vs j) cols_first vals_first ∙ value_first c (beyond ptrs cols r) 1 (beyond ptrs vals r) j

  pub pivot_beyond : Beyond n c (value_in (row ptrs cols r) (row ptrs vals r)) (value_in (beyond ptrs cols r) (beyond ptrs vals r))
  pivot_beyond = record {
    head = values c ∙ rw (eq-eqb c c refl, nothing c (omega arith));
    before = λ j h. values j ∙ rw (ne_eqb c j (λ e. omega arith), nothing j (omega arith));
    after = λ j h l. values j ∙ rw (ne_eqb c j (λ e. omega arith)) (zero-add (value_in (beyond ptrs cols r) (beyond ptrs vals r) j));
    none = nothing;
  }

-- what `add_multiple` asks for
pub clears_adds : {p c r : ℕ} {cols vals ptrs dense : List ℕ} → Clears p c cols vals ptrs r dense → Adds p (beyond ptrs cols r) (beyond ptrs vals r) dense
clears_adds h = record { same = beyond_same h.pivot; climbs = beyond_climbs h.pivot; small = h.small }
