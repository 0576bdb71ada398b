-- Looking through the numbers below n, and through a list.
use Rattle.std.specs.Prelude.{ℕ, zero, suc, ◌+◌, Bool, false, cond, ◌||◌, List, [], ◌∷◌}

-- f holds of some number below n
unfoldable pub any : ℕ → (ℕ → Bool) → Bool
any zero f = false
any (suc n) f = any n f || f n

-- the least number below n of which f holds; n where there is none
unfoldable pub least : ℕ → (ℕ → Bool) → ℕ
least zero f = 0
least (suc n) f = cond (f 0) 0 (suc (least n (λ i. f (suc i))))

-- how many elements f holds of
unfoldable pub count {ℓ} : {A : Type ℓ} → (A → Bool) → List A → ℕ
count f [] = 0
count f (x ∷ xs) = cond (f x) 1 0 + count f xs

-- the elements that f holds of
unfoldable pub keep {ℓ} : {A : Type ℓ} → (A → Bool) → List A → List A
keep f [] = []
keep f (x ∷ xs) = cond (f x) (x ∷ keep f xs) (keep f xs)
