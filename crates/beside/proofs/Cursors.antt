-- A list whose keys rise strictly, and a cursor behind those below i: the elements of key i stand at the cursor.
-- Assumes nothing.
use mathlib.Core.Path.{◌≡◌, refl, sym, ap, ◌∙◌}
use mathlib.Core.Bool.{Bool, true, false, cond}
use mathlib.Core.List.{List, [], ◌∷◌, map, flatten}
use Prim.Native.Nat.{ℕ, zero, suc, ◌+◌, ◌≤◌, ◌<◌}
use native.Mathlib.Decide.{dec_lt}
use native.Mathlib.Numerals.{add-one}
use native.Mathlib.Omega.{arith}
use lib.Dec.{ltb, eqb}
use lib.ListN.{length, get_or, drop, length-append, length-map, length-drop, drop_of_length-le}
use lib.Seq.{get_or-drop, drop-cons}
use borrow.Author.Tests.{lt-ltb, le-ltb, eq-eqb, ne_eqb}
use Rattle.lists.specs.Find.{count, keep}
use Rattle.lists.specs.Table.{table}
use Rattle.meaning.proofs.RowLists.{flatten_snoc}
use Rattle.joining.specs.Asks.{Strict}

strict_tail : {x : ℕ} {xs : List ℕ} → Strict (x ∷ xs) → Strict xs
strict_tail s = record { rises = λ i k l h. s.rises (suc i) (suc k) (omega arith) (omega arith) }

strict_head : {x : ℕ} {xs : List ℕ} → Strict (x ∷ xs) → (k : ℕ) → k < length xs → x < get_or xs k 0
strict_head s k h = s.rises 0 (suc k) (omega arith) (omega arith)

module _ {A : Type 0} (key : A → ℕ) where
  -- none below i
  count_none : (i : ℕ) (v : List A) → ((k : ℕ) → k < length (map key v) → i ≤ get_or (map key v) k 0) → count (λ e. ltb (key e) i) v ≡ 0
  unfolding count
  count_none i [] h = refl
  count_none i (e ∷ es) h = let first : i ≤ key e = h 0 (omega arith) in simp (le-ltb (key e) i first, count_none i es (λ k l. h (suc k) (omega arith)))

  -- none at i
  keep_none : (i : ℕ) (v : List A) → ((k : ℕ) → k < length (map key v) → i < get_or (map key v) k 0) → keep (λ e. eqb (key e) i) v ≡ []
  unfolding keep
  keep_none i [] h = refl
  keep_none i (e ∷ es) h = let first : i < key e = h 0 (omega arith) in simp (ne_eqb (key e) i (λ q. omega arith), keep_none i es (λ k l. h (suc k) (omega arith)))

  -- all below i
  pub count_all : (i : ℕ) (v : List A) → ((k : ℕ) → k < length (map key v) → get_or (map key v) k 0 < i) → count (λ e. ltb (key e) i) v ≡ length v
  unfolding count
  count_all i [] h = refl
  count_all i (e ∷ es) h = let first : key e < i = h 0 (omega arith) in simp (lt-ltb (key e) i first, count_all i es (λ k l. h (suc k) (omega arith))) (omega arith)

  -- those below i + 1 are those below i, and those at i
  pub count_up : (i : ℕ) (v : List A) → count (λ e. ltb (key e) (i + 1)) v ≡ count (λ e. ltb (key e) i) v + length (keep (λ e. eqb (key e) i) v)
  unfolding count keep
  count_up i [] = refl
  count_up i (e ∷ es) = go (dec_lt (key e) i) (dec_lt i (key e)) (count_up i es)
    where
      go : Dec (key e < i) → Dec (i < key e) → count (λ x. ltb (key x) (i + 1)) es ≡ count (λ x. ltb (key x) i) es + length (keep (λ x. eqb (key x) i) es)
          → count (λ x. ltb (key x) (i + 1)) (e ∷ es) ≡ count (λ x. ltb (key x) i) (e ∷ es) + length (keep (λ x. eqb (key x) i) (e ∷ es))
      go (yes l) q ih = simp (lt-ltb (key e) i l, lt-ltb (key e) (i + 1) (omega arith), ne_eqb (key e) i (λ p. omega arith)) (omega arith)
      go (no l) (yes g) ih = simp (le-ltb (key e) i (omega arith), le-ltb (key e) (i + 1) (omega arith), ne_eqb (key e) i (λ p. omega arith)) (omega arith)
      go (no l) (no g) ih = simp (le-ltb (key e) i (omega arith), lt-ltb (key e) (i + 1) (omega arith), eq-eqb (key e) i (omega arith)) (omega arith)

  -- kept row by row, each is kept once
  pub kept_all : {B : Type 0} (g : A → B) (n : ℕ) (v : List A) → length (flatten (table n (λ i. map g (keep (λ e. eqb (key e) i) v)))) ≡ count (λ e. ltb (key e) n) v
  unfolding table flatten
  kept_all g zero v = sym (count_none 0 v (λ k l. omega arith))
  kept_all g (suc n) v =
      simp (flatten_snoc, length-append, length-map)
      (ap (λ (k : ℕ). k + length (keep (λ e. eqb (key e) n) v)) (kept_all g n v) ∙ sym (count_up n v) ∙ ap (λ (k : ℕ). count (λ e. ltb (key e) k) v) (add-one n))

  -- the first of these, where its key is i
  first_at : ℕ → List A → List A
  first_at i [] = []
  first_at i (e ∷ es) = cond (eqb (key e) i) (e ∷ []) []

  keep_here : (i : ℕ) (v : List A) → Strict (map key v) → keep (λ e. eqb (key e) i) v ≡ first_at i (drop (count (λ e. ltb (key e) i) v) v)
  unfolding keep count first_at
  keep_here i [] s = refl
  keep_here i (e ∷ es) s = go (dec_lt (key e) i) (keep_here i es (strict_tail s))
    where
      go : Dec (key e < i) → keep (λ x. eqb (key x) i) es ≡ first_at i (drop (count (λ x. ltb (key x) i) es) es) → keep (λ x. eqb (key x) i) (e ∷ es) ≡ first_at i (drop (count (λ x. ltb (key x) i) (e ∷ es)) (e ∷ es))
      go (yes l) ih =
          let k : ℕ = count (λ x. ltb (key x) i) es in
          let one : suc k ≡ 1 + k = omega arith in
          simp (lt-ltb (key e) i l, ne_eqb (key e) i (λ p. omega arith)) (ih ∙ ap (λ (n : ℕ). first_at i (drop n (e ∷ es))) one)
      go (no l) ih =
          simp (le-ltb (key e) i (omega arith), count_none i es (λ k h. omega (arith, strict_head s k h)), keep_none i es (λ k h. omega (arith, strict_head s k h)))

  -- where something is kept, it is the one element at the cursor
  pub keep_one : (i k : ℕ) (v : List A) (d : A) → Strict (map key v) → k ≡ count (λ e. ltb (key e) i) v → (length (keep (λ e. eqb (key e) i) v) ≡ 0 → ⊥) → (k < length v) × (keep (λ e. eqb (key e) i) v ≡ get_or v k d ∷ [])
  unfolding first_at
  keep_one i k v d s q h = go (drop k v) refl
    where
      here : keep (λ e. eqb (key e) i) v ≡ first_at i (drop k v)
      here = keep_here i v s ∙ ap (λ (n : ℕ). first_at i (drop n v)) (sym q)

      go : (l : List A) → drop k v ≡ l → (k < length v) × (keep (λ e. eqb (key e) i) v ≡ get_or v k d ∷ [])
      go [] e = absurd (h (ap length (here ∙ ap (first_at i) e)))
      go (x ∷ xs) e = pick (eqb (key x) i) refl
        where
          at : x ≡ get_or v k d
          at = let z : k + 0 ≡ k = omega arith in sym (ap (λ (l : List A). get_or l 0 d) e) ∙ get_or-drop k v 0 d ∙ ap (λ (n : ℕ). get_or v n d) z

          pick : (b : Bool) → eqb (key x) i ≡ b → (k < length v) × (keep (λ e. eqb (key e) i) v ≡ get_or v k d ∷ [])
          pick false f = absurd (h (ap length (here ∙ ap (first_at i) e ∙ ap (λ (b : Bool). cond b (x ∷ []) []) f)))
          pick true t = (omega (arith, sym (length-drop k v) ∙ ap length e), here ∙ ap (first_at i) e ∙ ap (λ (b : Bool). cond b (x ∷ []) []) t ∙ ap (λ (y : A). y ∷ []) at)

  -- at the cursor stands an element of key i
  pub keep_met : (i k : ℕ) (v : List A) (d : A) → Strict (map key v) → k ≡ count (λ e. ltb (key e) i) v → k < length v → key (get_or v k d) ≡ i → length (keep (λ e. eqb (key e) i) v) ≡ 1
  unfolding first_at
  keep_met i k v d s q h m =
      ap length (keep_here i v s ∙ ap (λ (n : ℕ). first_at i (drop n v)) (sym q) ∙ ap (first_at i) (drop-cons v k d h))
      ∙ ap (λ (b : Bool). length (cond b (get_or v k d ∷ []) [])) (eq-eqb _ _ m)

  -- or none does
  pub keep_missed : (i k : ℕ) (v : List A) (d : A) → Strict (map key v) → k ≡ count (λ e. ltb (key e) i) v → k < length v → (key (get_or v k d) ≡ i → ⊥) → length (keep (λ e. eqb (key e) i) v) ≡ 0
  unfolding first_at
  keep_missed i k v d s q h m =
      ap length (keep_here i v s ∙ ap (λ (n : ℕ). first_at i (drop n v)) (sym q) ∙ ap (first_at i) (drop-cons v k d h))
      ∙ ap (λ (b : Bool). length (cond b (get_or v k d ∷ []) [])) (ne_eqb _ _ m)

  -- or the list has ended
  pub keep_ended : (i k : ℕ) (v : List A) → Strict (map key v) → k ≡ count (λ e. ltb (key e) i) v → length v ≤ k → length (keep (λ e. eqb (key e) i) v) ≡ 0
  unfolding first_at
  keep_ended i k v s q h = ap length (keep_here i v s ∙ ap (λ (n : ℕ). first_at i (drop n v)) (sym q) ∙ ap (first_at i) (drop_of_length-le v h))

-- no number is below 0
pub none_below : (xs : List ℕ) → count (λ c. ltb c 0) xs ≡ 0
none_below xs = count_none (λ (x : ℕ). x) 0 xs (λ k l. omega arith)
