-- What answers mean: None exactly for a combination of the rows accepted before.
use Rattle.walk.specs.Step.{Answer}
use Rattle.std.specs.Prelude.{◌≡◌, ◌↔◌, List, [], ◌∷◌, ◌++◌, map, ℕ, length, take, None}
use Rattle.lists.specs.Onto.{◌onto◌}
use Rattle.linear.specs.Combination.{Combination}
use Rattle.sparse.specs.Rows.{Entry}
use Rattle.steps.specs.History.{Told, told, accepted, values_in}
use Rattle.steps.specs.Rows.{value_of}
use Rattle.telling.specs.Answers.{number}

-- each of these rows was answered None exactly if it is a combination of the rows accepted before it
pub data Meant (p n : ℕ) : List Told → Type 0 where
  nothing : Meant p n []
  more : (ts : List Told) → Meant p n ts → (es : List Entry) (a : Answer) → ((a ≡ None) ↔ Combination p n (length (accepted ts)) (values_in (accepted ts)) (value_of es)) → Meant p n (ts ++ (told es a ∷ []))

-- the first of the rows were taken so: their answers have this meaning, and their numbers are written to the front of answer memory
pub record Answers (p n taken : ℕ) (rows : List (List Entry)) (before after : List ℕ) : Type 0 where
  pub ts : List Told
  pub meant : Meant p n ts
  pub many : length ts ≡ taken
  pub first : map (λ t. t.row) ts ≡ take taken rows
  pub numbers : after ≡ map (λ t. number t.answer) ts onto before
