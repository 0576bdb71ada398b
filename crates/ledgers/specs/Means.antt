-- What a determinant's value means.
use Rattle.std.specs.Prelude.{◌≡◌, ◌↔◌, List, ℕ, ◌<◌, length, take}
use Rattle.sparse.specs.Rows.{Entry}
use Rattle.state.specs.Memory.{Memory}
use Rattle.state.specs.declared.Mode.TheVariants.{Full}
use Rattle.steps.specs.History.{Told, accepted}
use Rattle.determinant.specs.declared.Valued.{Valued}
use Rattle.strides.specs.Strides.{rows_of_told}
use Rattle.ledgers.specs.Taken.{Took}

-- the rows ts were taken, the first of those offered, and the value is 0 exactly if not all of them were accepted
pub record Means (p n : ℕ) (offered : List (List Entry)) (v : Valued) (m : Memory) : Type 0 where
  pub ts : List Told
  pub took : Took Full p n ts v.run.counts m
  pub many : length ts ≡ v.run.taken
  pub first : rows_of_told ts ≡ take (length ts) offered
  pub zero : (v.value ≡ 0) ↔ (length (accepted ts) < length ts)
