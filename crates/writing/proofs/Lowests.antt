-- Tests in two lists, the second after the first: how code that tests them apart goes through them.
-- Assumes nothing.
use Rattle.std.specs.Prelude.{Err, Ok}
use mathlib.Core.Path.{◌≡◌, refl, sym, ap, ◌∙◌}
use mathlib.Core.List.{List, [], ◌∷◌, ◌++◌}
use Rattle.sparse.specs.Refusals.{◌else◌, lowest, Tested}
use Rattle.sparse.specs.declared.Refusal.{Refusal}
use Rattle.sparse.proofs.Firsts.{else_good}

else_assoc : (s t u : Tested) → (s else t) else u ≡ s else (t else u)
unfolding ◌else◌
else_assoc (Ok _) t u = refl
else_assoc (Err r) t u = refl

lowest_append : (xs ys : List Tested) → lowest (xs ++ ys) ≡ lowest xs else lowest ys
unfolding lowest ◌else◌
lowest_append [] ys = refl
lowest_append (t ∷ xs) ys = ap (λ (u : Tested). t else u) (lowest_append xs ys) ∙ sym (else_assoc t (lowest xs) (lowest ys))

module _ (xs ys : List Tested) where
  -- the first list refuses,
  pub first_stop : {s : Tested} {r : Refusal} → s ≡ lowest xs → s ≡ Err r → Err r ≡ lowest (xs ++ ys)
  unfolding ◌else◌
  first_stop q e = rw (lowest_append xs ys, ← q, e)

  -- or finds nothing, and the second decides
  pub first_next : {s x : Tested} → s ≡ lowest xs → s ≡ Ok tt → x ≡ lowest ys → x ≡ lowest (xs ++ ys)
  unfolding ◌else◌
  first_next q e h = rw (lowest_append xs ys, ← q, e) h

  -- neither refuses
  pub both_good : lowest (xs ++ ys) ≡ Ok tt → (lowest xs ≡ Ok tt) × (lowest ys ≡ Ok tt)
  both_good e = else_good (lowest xs) (lowest ys) (sym (lowest_append xs ys) ∙ e)
