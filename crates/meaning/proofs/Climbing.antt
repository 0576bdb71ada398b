-- Columns that climb: none, wider, and one list after another.
-- Assumes nothing.
use mathlib.Core.Path.{◌≡◌, sym, subst}
use mathlib.Core.List.{List, [], ◌∷◌, ◌++◌}
use Prim.Native.Nat.{ℕ, zero, suc, ◌+◌, ◌-◌, ◌≤◌, ◌<◌}
use native.Mathlib.Decide.{dec_lt}
use native.Mathlib.Nat.{not-suc-le-zero}
use native.Mathlib.Omega.{arith}
use lib.ListN.{length, get_or, length-append, get_or-append}
use lib.Seq.{get_or-append-add}
use Rattle.meaning.proofs.Values.{Climbs}

-- what holds of the numbers of two lists holds of the joined list's
pub each_append : (P : ℕ → ℕ → Type 0) (xs ys : List ℕ) → ((k : ℕ) → k < length xs → P k (get_or xs k 0)) → ((k : ℕ) → k < length ys → P (length xs + k) (get_or ys k 0))
    → (k : ℕ) → k < length (xs ++ ys) → P k (get_or (xs ++ ys) k 0)
each_append P xs ys f g k h = go (dec_lt k (length xs))
  where
    go : Dec (k < length xs) → P k (get_or (xs ++ ys) k 0)
    go (yes l) = subst (P k) (sym (get_or-append xs ys 0 k l)) (f k l)
    go (no l) =
        let there : length xs + (k - length xs) ≡ k = omega arith in
        let here : k - length xs < length ys = omega (arith, length-append xs ys) in
        subst (λ (j : ℕ). P j (get_or (xs ++ ys) j 0)) there (subst (P (length xs + (k - length xs))) (sym (get_or-append-add xs ys (k - length xs) 0)) (g (k - length xs) here))

-- and of a list of one number
pub each_one : (P : ℕ → Type 0) (x : ℕ) → P x → (k : ℕ) → k < length (x ∷ []) → P (get_or (x ∷ []) k 0)
each_one P x q zero h = q
each_one P x q (suc k) h = absurd (omega arith)

pub climbs_none : (n : ℕ) → Climbs n []
climbs_none n = record { below = λ k h. absurd (not-suc-le-zero h); rises = λ i k l h. absurd (not-suc-le-zero h) }

pub climbs_one : {n c : ℕ} → c < n → Climbs n (c ∷ [])
climbs_one {n} {c} h = record { below = each_one (λ x. x < n) c h; rises = λ i k l q. absurd (omega arith) }

pub climbs_wider : {n m : ℕ} {cs : List ℕ} → n ≤ m → Climbs n cs → Climbs m cs
climbs_wider h c = record { below = λ k l. omega (arith, c.below k l); rises = c.rises }

-- columns that climb below n, then columns from n on that climb below k
pub climbs_append : {n k : ℕ} {xs ys : List ℕ} → n ≤ k → Climbs n xs → Climbs k ys → ((j : ℕ) → j < length ys → n ≤ get_or ys j 0) → Climbs k (xs ++ ys)
climbs_append {n} {k} {xs} {ys} h c d from = record { below = low; rises = λ i j l b. up j b i l }
  where
    low : (j : ℕ) → j < length (xs ++ ys) → get_or (xs ++ ys) j 0 < k
    low = each_append (λ j x. x < k) xs ys (λ j l. omega (arith, c.below j l)) d.below

    up : (j : ℕ) → j < length (xs ++ ys) → (i : ℕ) → i < j → get_or (xs ++ ys) i 0 < get_or (xs ++ ys) j 0
    up = each_append (λ j x. (i : ℕ) → i < j → get_or (xs ++ ys) i 0 < x) xs ys
        (λ j l i b. rw (get_or-append xs ys 0 i (omega arith)) (c.rises i j b l))
        (λ j l i b. each_append (λ i x. i < length xs + j → x < get_or ys j 0) xs ys (λ i a q. omega (arith, c.below i a, from j l)) (λ i a q. d.rises i j (omega arith) l) i (omega (arith, length-append xs ys)) b)

-- one column more
pub climbs_more : {n m c : ℕ} {cs : List ℕ} → Climbs n cs → n ≤ c → c < m → Climbs m (cs ++ (c ∷ []))
climbs_more {n} {m} {c} {cs} climbs h b = climbs_append (omega arith) climbs (climbs_one b) (each_one (λ x. n ≤ x) c h)
