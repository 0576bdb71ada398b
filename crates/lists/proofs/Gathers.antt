-- Gathering: what a loop that gathers has at each turn, and what is made of each element.
-- Assumes nothing.
use mathlib.Core.Path.{◌≡◌, refl, ap, ap₂, ◌∙◌}
use mathlib.Core.Bool.{Bool, true, false, cond}
use mathlib.Core.List.{List, [], ◌∷◌, ◌++◌, map, map-append, append-nil}
use Prim.Native.Nat.{ℕ, zero, suc, ◌≤◌, ◌<◌}
use native.Mathlib.Decide.{dec_lt, le_ind}
use native.Mathlib.Omega.{arith}
use lib.ListN.{length, length-append}
use Rattle.lists.specs.Find.{keep}
use Rattle.lists.specs.Gather.{gather}
use Rattle.lists.specs.Table.{table}

module _ {ℓ} {A : Type ℓ} where
  pub gather_hit : (k : ℕ → Bool) (f : ℕ → A) (n : ℕ) → k n ≡ true → gather k f (suc n) ≡ gather k f n ++ (f n ∷ [])
  unfolding gather
  gather_hit k f n e = rw e

  pub gather_miss : (k : ℕ → Bool) (f : ℕ → A) (n : ℕ) → k n ≡ false → gather k f (suc n) ≡ gather k f n
  unfolding gather
  gather_miss k f n e = rw e (append-nil (gather k f n))

  -- places and elements that agree
  pub gather_ext : (k l : ℕ → Bool) (f g : ℕ → A) (n : ℕ) → ((i : ℕ) → i < n → k i ≡ l i) → ((i : ℕ) → i < n → k i ≡ true → f i ≡ g i) → gather k f n ≡ gather l g n
  unfolding gather
  gather_ext k l f g zero same each = refl
  gather_ext k l f g (suc n) same each =
      ap (λ (x : List A). x ++ cond (k n) (f n ∷ []) []) (gather_ext k l f g n (λ i h. same i (omega arith)) (λ i h. each i (omega arith)))
      ∙ ap (λ (x : List A). gather l g n ++ x) (go (k n) (l n) (same n (omega arith)) (each n (omega arith)))
    where
      go : (a b : Bool) → a ≡ b → (a ≡ true → f n ≡ g n) → cond a (f n ∷ []) [] ≡ cond b (g n ∷ []) []
      go true b e q = rw (← e) (ap (λ (y : A). y ∷ []) (q refl))
      go false b e q = rw (← e)

  -- where nothing is kept from m on
  pub gather_skip : (k : ℕ → Bool) (f : ℕ → A) (m n : ℕ) → m ≤ n → ((i : ℕ) → m ≤ i → i < n → k i ≡ false) → gather k f n ≡ gather k f m
  gather_skip k f m zero h none = let e : 0 ≡ m = omega arith in ap (gather k f) e
  gather_skip k f m (suc n) h none = go (dec_lt n m) (gather_skip k f m n)
    where
      go : Dec (n < m) → (m ≤ n → ((i : ℕ) → m ≤ i → i < n → k i ≡ false) → gather k f n ≡ gather k f m) → gather k f (suc n) ≡ gather k f m
      go (yes l) ih = let e : suc n ≡ m = omega arith in ap (gather k f) e
      go (no l) ih = gather_miss k f n (none n (omega arith) (omega arith)) ∙ ih (omega arith) (λ i a b. none i a (omega arith))

  -- more places, no fewer elements
  pub gather_few : (k : ℕ → Bool) (f : ℕ → A) (m n : ℕ) → m ≤ n → length (gather k f m) ≤ length (gather k f n)
  unfolding gather
  gather_few k f m n h =
      le_ind (λ (i : ℕ). length (gather k f m) ≤ length (gather k f i)) (omega arith) (λ i l q. omega (arith, q, length-append (gather k f i) (cond (k i) (f i ∷ []) []))) n h

  -- kept elements of a table
  pub keep_table : (q : A → Bool) (f : ℕ → A) (n : ℕ) → keep q (table n f) ≡ gather (λ i. q (f i)) f n
  unfolding gather table keep
  keep_table q f zero = refl
  keep_table q f (suc n) = keep_append q (table n f) (f n ∷ []) ∙ ap (λ (x : List A). x ++ keep q (f n ∷ [])) (keep_table q f n)
    where
      keep_append : (p : A → Bool) (xs ys : List A) → keep p (xs ++ ys) ≡ keep p xs ++ keep p ys
      keep_append p [] ys = refl
      keep_append p (x ∷ xs) ys = go (p x) (keep_append p xs ys)
        where
          go : (b : Bool) → keep p (xs ++ ys) ≡ keep p xs ++ keep p ys → cond b (x ∷ keep p (xs ++ ys)) (keep p (xs ++ ys)) ≡ cond b (x ∷ keep p xs) (keep p xs) ++ keep p ys
          go true e = ap (λ (z : List A). x ∷ z) e
          go false e = e

-- what is made of each element
pub map-gather {ℓ κ} : {A : Type ℓ} {B : Type κ} (g : A → B) (k : ℕ → Bool) (f : ℕ → A) (n : ℕ) → map g (gather k f n) ≡ gather k (λ i. g (f i)) n
unfolding gather
map-gather g k f zero = refl
map-gather g k f (suc n) = map-append g (gather k f n) (cond (k n) (f n ∷ []) []) ∙ ap₂ (λ x y. x ++ y) (map-gather g k f n) (go (k n))
  where
    go : (b : Bool) → map g (cond b (f n ∷ []) []) ≡ cond b (g (f n) ∷ []) []
    go true = refl
    go false = refl
