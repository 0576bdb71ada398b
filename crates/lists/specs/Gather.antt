-- Some elements of a list given by its elements.
use Rattle.std.specs.Prelude.{ℕ, zero, suc, Bool, cond, List, [], ◌∷◌, ◌++◌}

-- those of f 0, …, f (n - 1) at whose place k holds
unfoldable pub gather {ℓ} : {A : Type ℓ} → (ℕ → Bool) → (ℕ → A) → ℕ → List A
gather k f zero = []
gather k f (suc n) = gather k f n ++ cond (k n) (f n ∷ []) []
