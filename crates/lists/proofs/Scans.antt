-- Loops that look for something, or count: what they know at each turn.
-- Assumes nothing.
use mathlib.Core.Path.{◌≡◌, refl, sym, ap, ◌∙◌}
use mathlib.Core.Bool.{Bool, true, false, cond, ◌&&◌, ◌||◌, true≢false}
use mathlib.Core.List.{List, [], ◌∷◌}
use Prim.Native.Nat.{ℕ, zero, suc, ◌+◌, ◌≤◌, ◌<◌}
use native.Mathlib.Numerals.{add-one}
use native.Mathlib.Omega.{arith}
use lib.ListN.{length, get_or, take}
use lib.Seq.{take-suc, take_all, length-take-le}
use Rattle.lists.specs.Find.{any, count, keep}
use Rattle.lists.proofs.Counts.{count_append, count_le}
use Rattle.lists.proofs.Find.{any_true}

-- none of the first k passes
pub record Clear (n : ℕ) (f : ℕ → Bool) (k : ℕ) : Type 0 where
  pub within : k ≤ n
  pub none : any k f ≡ false

pub clear_none : (n : ℕ) (f : ℕ → Bool) → Clear n f 0
unfolding any
clear_none n f = record { within = omega arith; none = refl }

module _ {n : ℕ} {f : ℕ → Bool} {k : ℕ} (c : Clear n f k) where
  pub clear_next : k < n → f k ≡ false → Clear n f (k + 1)
  unfolding any
  clear_next h e = record { within = omega arith; none = rw (add-one, c.none) e }

  pub clear_stop : k < n → f k ≡ true → true ≡ any n f
  clear_stop h e = sym (any_true n f h e)

  pub clear_all : n ≤ k → false ≡ any n f
  clear_all h = let e : k ≡ n = omega (arith, c.within) in sym (rw e at c.none)

-- the first k counted
pub record Counted {ℓ} {A : Type ℓ} (f : A → Bool) (xs : List A) (n k : ℕ) : Type ℓ where
  pub within : k ≤ length xs
  pub so_far : n ≡ count f (take k xs)

module _ {ℓ} {A : Type ℓ} (f : A → Bool) (xs : List A) where
  pub counted_none : Counted f xs 0 0
  unfolding count
  counted_none = record { within = omega arith; so_far = refl }

  count_more : (k : ℕ) (d : A) → k < length xs → count f (take (k + 1) xs) ≡ count f (take k xs) + cond (f (get_or xs k d)) 1 0
  unfolding count
  count_more k d h =
      ap (count f) (ap (λ (i : ℕ). take i xs) (add-one k) ∙ take-suc xs k d h)
      ∙ count_append f (take k xs) (get_or xs k d ∷ [])
      ∙ omega arith

  pub counted_hit : (n k : ℕ) (d : A) → Counted f xs n k → k < length xs → f (get_or xs k d) ≡ true → Counted f xs (n + 1) (k + 1)
  counted_hit n k d c h e = record { within = omega arith; so_far = omega (arith, c.so_far, rw e at (count_more k d h)) }

  pub counted_miss : (n k : ℕ) (d : A) → Counted f xs n k → k < length xs → f (get_or xs k d) ≡ false → Counted f xs n (k + 1)
  counted_miss n k d c h e = record { within = omega arith; so_far = omega (arith, c.so_far, rw e at (count_more k d h)) }

  pub counted_few : (n k : ℕ) → Counted f xs n k → n ≤ k
  counted_few n k c = omega (arith, c.so_far, count_le f (take k xs), length-take-le k xs c.within)

  pub counted_all : (n k : ℕ) → Counted f xs n k → length xs ≤ k → n ≡ count f xs
  counted_all n k c h = c.so_far ∙ ap (count f) (take_all k xs h)

-- the first number apart
any_first : (n : ℕ) (f : ℕ → Bool) → any (suc n) f ≡ f 0 || any n (λ k. f (suc k))
unfolding any
any_first zero f = go (f 0)
  where
    go : (b : Bool) → b ≡ b || false
    go true = refl
    go false = refl
any_first (suc n) f = ap (λ (b : Bool). b || f (suc n)) (any_first n f) ∙ go (f 0) (any n (λ k. f (suc k))) (f (suc n))
  where
    go : (a b c : Bool) → (a || b) || c ≡ a || (b || c)
    go true b c = refl
    go false b c = refl

module _ {ℓ} {A : Type ℓ} where
  -- one of the kept passes: one is kept and passes
  pub any_kept : (p f : A → Bool) (d : A) (xs : List A) → any (length (keep p xs)) (λ k. f (get_or (keep p xs) k d)) ≡ any (length xs) (λ k. p (get_or xs k d) && f (get_or xs k d))
  unfolding keep any
  any_kept p f d [] = refl
  any_kept p f d (x ∷ xs) = go (p x) (any_kept p f d xs) ∙ sym (any_first (length xs) (λ k. p (get_or (x ∷ xs) k d) && f (get_or (x ∷ xs) k d)))
    where
      go : (b : Bool) → any (length (keep p xs)) (λ k. f (get_or (keep p xs) k d)) ≡ any (length xs) (λ k. p (get_or xs k d) && f (get_or xs k d))
          → any (length (cond b (x ∷ keep p xs) (keep p xs))) (λ k. f (get_or (cond b (x ∷ keep p xs) (keep p xs)) k d)) ≡ (b && f x) || any (length xs) (λ k. p (get_or xs k d) && f (get_or xs k d))
      go true e = any_first (length (keep p xs)) (λ k. f (get_or (x ∷ keep p xs) k d)) ∙ ap (λ (b : Bool). f x || b) e
      go false e = e

  -- what passes is kept: as many in what is kept
  pub count_kept : (p f : A → Bool) (xs : List A) → ((x : A) → f x ≡ true → p x ≡ true) → count f (keep p xs) ≡ count f xs
  unfolding keep count
  count_kept p f [] h = refl
  count_kept p f (x ∷ xs) h = go (p x) (f x) refl refl (count_kept p f xs h)
    where
      go : (a b : Bool) → p x ≡ a → f x ≡ b → count f (keep p xs) ≡ count f xs → count f (cond a (x ∷ keep p xs) (keep p xs)) ≡ cond b 1 0 + count f xs
      go true b q e r = rw e (ap (λ (n : ℕ). cond b 1 0 + n) r)
      go false false q e r = r ∙ omega arith
      go false true q e r = let z : true ≡ false = sym (h x e) ∙ q in absurd (true≢false z)
