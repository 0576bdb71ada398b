-- A part of a list, and the row in which an entry stands.
-- Assumes nothing.
use mathlib.Core.Path.{◌≡◌, sym, ap, subst, ◌∙◌}
use mathlib.Core.List.{List, [], ◌∷◌, ◌++◌}
use Prim.Native.Nat.{ℕ, zero, suc, ◌+◌, ◌-◌, ◌≤◌, ◌<◌}
use native.Mathlib.Decide.{dec_lt}
use native.Mathlib.Numerals.{add-one}
use native.Mathlib.Omega.{arith}
use lib.ListN.{length, get_or, take, drop, length-take, length-drop}
use lib.Seq.{get_or-take, get_or-drop, take-suc, take-add}
use Rattle.sparse.specs.Matrix.{part}

module _ {ℓ} {A : Type ℓ} where
  pub length_part : (a b : ℕ) (xs : List A) → b ≤ length xs → length (part a b xs) ≡ b - a
  unfolding part
  length_part a b xs h = simp (length-take, length-drop) (omega arith)

  pub get_d_part : (a b : ℕ) (xs : List A) (k : ℕ) (d : A) → k < b - a → get_or (part a b xs) k d ≡ get_or xs (a + k) d
  unfolding part
  get_d_part a b xs k d h = get_or-take (b - a) (drop a xs) k d h ∙ get_or-drop a xs k d

  -- no element
  pub part_none : (a : ℕ) (xs : List A) → part a a xs ≡ []
  unfolding part
  part_none a xs = let z : a - a ≡ 0 = omega arith in ap (λ (n : ℕ). take n (drop a xs)) z

  -- one element more of a part
  pub part_more : (a k : ℕ) (xs : List A) (d : A) → a ≤ k → k < length xs → part a (k + 1) xs ≡ part a k xs ++ (get_or xs k d ∷ [])
  unfolding part
  part_more a k xs d from within =
      let n : k + 1 - a ≡ suc (k - a) = omega arith in
      let here : a + (k - a) ≡ k = omega arith in
      let short : k - a < length (drop a xs) = omega (arith, length-drop a xs) in
      ap (λ (m : ℕ). take m (drop a xs)) n
      ∙ take-suc (drop a xs) (k - a) d short
      ∙ ap (λ x. take (k - a) (drop a xs) ++ (x ∷ [])) (get_or-drop a xs (k - a) d ∙ ap (λ (m : ℕ). get_or xs m d) here)

  -- what stands before a, then the part from a up to b
  pub take_part : (a b : ℕ) (xs : List A) → a ≤ b → take a xs ++ part a b xs ≡ take b xs
  unfolding part
  take_part a b xs h = let e : a + (b - a) ≡ b = omega arith in sym (take-add a (b - a) xs) ∙ ap (λ (n : ℕ). take n xs) e

-- the row of entry k
pub record InRow (rows : ℕ) (ptr : ℕ → ℕ) (k : ℕ) : Type 0 where
  pub at : ℕ
  pub within : at < rows
  pub from : ptr at ≤ k
  pub upto : k < ptr (at + 1)

-- pointers that start at 0 leave no entry out
pub in_row : (rows : ℕ) (ptr : ℕ → ℕ) (k : ℕ) → ptr 0 ≡ 0 → k < ptr rows → InRow rows ptr k
in_row zero ptr k z h = absurd (omega arith)
in_row (suc n) ptr k z h = go (dec_lt k (ptr n)) (in_row n ptr k z)
  where
    go : Dec (k < ptr n) → (k < ptr n → InRow n ptr k) → InRow (suc n) ptr k
    go (yes below) ih =
        let w : InRow n ptr k = ih below in
        record { at = w.at; within = omega (arith, w.within); from = w.from; upto = w.upto }
    go (no above) ih = record { at = n; within = omega arith; from = omega arith; upto = subst (λ (i : ℕ). k < ptr i) (sym (add-one n)) h }
