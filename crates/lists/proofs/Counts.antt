-- Counting in a list: joined lists, what is made of each element, and at most all.
-- Assumes nothing.
use mathlib.Core.Path.{◌≡◌, refl, ap}
use mathlib.Core.Bool.{Bool, true, false, cond}
use mathlib.Core.List.{List, [], ◌∷◌, ◌++◌, map}
use Prim.Native.Nat.{ℕ, ◌+◌, ◌≤◌}
use native.Mathlib.Omega.{arith}
use lib.ListN.{length}
use Rattle.lists.specs.Find.{count}

at_most_one : (b : Bool) → cond b 1 0 ≤ 1
at_most_one true = omega arith
at_most_one false = omega arith

module _ {ℓ} {A : Type ℓ} where
  pub count_append : (f : A → Bool) (xs ys : List A) → count f (xs ++ ys) ≡ count f xs + count f ys
  unfolding count
  count_append f [] ys = omega arith
  count_append f (x ∷ xs) ys = let rest : count f (xs ++ ys) ≡ count f xs + count f ys = count_append f xs ys in omega arith

  pub count_le : (f : A → Bool) (xs : List A) → count f xs ≤ length xs
  unfolding count
  count_le f [] = omega arith
  count_le f (x ∷ xs) = let rest : count f xs ≤ length xs = count_le f xs in omega (arith, at_most_one (f x))

pub count_map {ℓ κ} : {A : Type ℓ} {B : Type κ} (f : B → Bool) (g : A → B) (xs : List A) → count f (map g xs) ≡ count (λ x. f (g x)) xs
unfolding count
count_map f g [] = refl
count_map f g (x ∷ xs) = ap (λ (n : ℕ). cond (f (g x)) 1 0 + n) (count_map f g xs)
