-- What std's iterators and slices count, find and fill, in the words of specs/.
-- Assumes nothing.
use mathlib.Core.Path.{◌≡◌, refl, sym, ap, ◌∙◌}
use mathlib.Core.Bool.{Bool, true, false, cond, ◌||◌}
use mathlib.Core.List.{List, [], ◌∷◌}
use Prim.Native.Nat.{ℕ, zero, suc, ◌+◌, ◌≤◌, ◌<◌}
use native.Mathlib.Nat.{zero-add}
use native.Mathlib.Numerals.{add-one}
use native.Mathlib.Omega.{arith}
use lib.ListN.{length, get_or, take, replicate}
use lib.Seq.{take-suc, take_all}
use Rattle.std.specs.List.{count_by, sum_by, list_any}
use Rattle.std.proofs.lemmas.List.Recursion.{is_count_by}
use Rattle.std.proofs.lemmas.List.Folds.{list_any-append}
use Rattle.std.proofs.Math.Bool.{or-false}
use Rattle.std.proofs.lemmas.List.Sums.{sum_by_more}
use Rattle.std.proofs.lemmas.List.{length-replicate, get_or-replicate}
use Rattle.lists.specs.Sum.{Σ}
use Rattle.lists.specs.Table.{table}
use Rattle.lists.proofs.Tables.{table_ext, table_get_or}
use Rattle.lists.specs.Find.{any, count}

pub count_is : {A : Type 0} (f : A → Bool) (xs : List A) → count f xs ≡ count_by f xs
unfolding count
count_is f = is_count_by (count f) f refl (λ x xs. go (f x) (count f xs))
  where
    go : (b : Bool) (n : ℕ) → cond b 1 0 + n ≡ cond b (1 + n) n
    go true n = refl
    go false n = zero-add n

-- one of the first k elements passes
pub any_front : {A : Type 0} (f : A → Bool) (d : A) (xs : List A) (k : ℕ) → k ≤ length xs → any k (λ i. f (get_or xs i d)) ≡ list_any f (take k xs)
unfolding any
any_front f d xs zero h = refl
any_front {A = A} f d xs (suc k) h =
    let x : A = get_or xs k d in
    ap (λ (b : Bool). b || f x) (any_front f d xs k (omega arith))
    ∙ ap (λ (b : Bool). list_any f (take k xs) || b) (sym (or-false (f x)))
    ∙ sym (ap (list_any f) (take-suc xs k d (omega arith)) ∙ list_any-append f (take k xs) (x ∷ []))

pub any_is : {A : Type 0} (f : A → Bool) (d : A) (xs : List A) → any (length xs) (λ k. f (get_or xs k d)) ≡ list_any f xs
any_is f d xs = any_front f d xs (length xs) (omega arith) ∙ ap (list_any f) (take_all (length xs) xs (omega arith))

-- the sum over the first k elements
pub sum_is : {A : Type 0} (f : A → ℕ) (d : A) (xs : List A) (k : ℕ) → k ≤ length xs → Σ k (λ i. f (get_or xs i d)) ≡ sum_by f (take k xs)
unfolding Σ
sum_is f d xs zero h = refl
sum_is f d xs (suc k) h =
    let less : k < length xs = omega arith in
    let before : Σ k (λ i. f (get_or xs i d)) ≡ sum_by f (take k xs) = sum_is f d xs k (omega arith) in
    rw before (sym (ap (λ (i : ℕ). sum_by f (take i xs)) (sym (add-one k)) ∙ sum_by_more f xs k d less))

-- one element n times
pub same_table : {A : Type 0} (n : ℕ) (x : A) → replicate n x ≡ table n (λ i. x)
same_table n x =
    sym (table_get_or (replicate n x) x)
    ∙ ap (λ (k : ℕ). table k (λ i. get_or (replicate n x) i x)) (length-replicate n x)
    ∙ table_ext n (λ i. get_or (replicate n x) i x) (λ i. x) (λ i h. get_or-replicate n i x x h)
