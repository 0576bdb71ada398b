-- Front written, rest kept: what a loop that writes lent memory from the front, or works in place, has at each turn.
-- Assumes nothing.
use mathlib.Core.Path.{◌≡◌, refl, sym, ap, ◌∙◌}
use mathlib.Core.List.{List, [], ◌∷◌, ◌++◌, map, map-append, append-nil}
use Prim.Native.Nat.{ℕ, suc, ◌+◌, ◌-◌, ◌≤◌, ◌<◌}
use native.Mathlib.Numerals.{add-one}
use native.Mathlib.Omega.{arith}
use lib.ListN.{length, take, drop, set, get_or, length-append, length-drop, length-map}
use lib.Seq.{drop-cons, set_at, append_snoc, take-suc, take_all, length-take-le, take-append_seam, drop-append_seam, get_or-append-add, get_or-drop, drop-length}
use Rattle.lists.specs.Onto.{◌onto◌}

module _ {ℓ} {A : Type ℓ} where
  -- nothing written
  pub onto_nil : (old : List A) → [] onto old ≡ old
  unfolding ◌onto◌
  onto_nil old = refl

  -- all that is lent keeps its length
  pub length-onto : (new old : List A) → length new ≤ length old → length (new onto old) ≡ length old
  unfolding ◌onto◌
  length-onto new old h = simp (length-append, length-drop) (omega arith)

  -- the front is the result
  pub take-onto : (new old : List A) → take (length new) (new onto old) ≡ new
  unfolding ◌onto◌
  take-onto new old = take-append_seam new (drop (length new) old)

  -- elements past it keep what they held
  pub drop-onto : (new old : List A) → drop (length new) (new onto old) ≡ drop (length new) old
  unfolding ◌onto◌
  drop-onto new old = drop-append_seam new (drop (length new) old)

  -- one more element written
  pub onto_more : (new old : List A) (n : ℕ) (a : A) → length new ≡ n → n < length old → set (new onto old) n a ≡ (new ++ (a ∷ [])) onto old
  unfolding ◌onto◌
  onto_more new old n a e h =
      let one_more : length (new ++ (a ∷ [])) ≡ suc n = length-append new (a ∷ []) ∙ ap (λ (k : ℕ). k + 1) e ∙ add-one n in
      ap (λ (k : ℕ). set (new ++ drop k old) n a) e
      ∙ ap (λ (l : List A). set (new ++ l) n a) (drop-cons old n a h)
      ∙ set_at new (get_or old n a) (drop (suc n) old) a n e
      ∙ sym (append_snoc new a (drop (suc n) old))
      ∙ ap (λ (k : ℕ). new ++ (a ∷ []) ++ drop k old) (sym one_more)

  -- a copy, at its start, after one more element, and at its end
  pub copy_none : (src old : List A) → old ≡ take 0 src onto old
  copy_none src old = sym (onto_nil old)

  pub copy_more : (src old : List A) (i : ℕ) (d : A) → i < length src → length src ≤ length old → set (take i src onto old) i (get_or src i d) ≡ take (i + 1) src onto old
  copy_more src old i d h fits =
      let long : length (take i src) ≡ i = length-take-le i src (omega arith) in
      onto_more (take i src) old i (get_or src i d) long (omega arith) ∙ ap (λ (l : List A). l onto old) (sym (take-suc src i d h) ∙ ap (λ (k : ℕ). take k src) (sym (add-one i)))

  pub copy_all : (src old : List A) (i : ℕ) → length src ≤ i → take i src onto old ≡ src onto old
  copy_all src old i h = ap (λ (l : List A). l onto old) (take_all i src h)

  -- what is not yet written is read as it came
  pub onto_kept : (new old : List A) (k : ℕ) (d : A) → length new ≤ k → length new ≤ length old → get_or (new onto old) k d ≡ get_or old k d
  unfolding ◌onto◌
  onto_kept new old k d past fits =
      let e : k ≡ length new + (k - length new) = omega arith in
      ap (λ (i : ℕ). get_or (new ++ drop (length new) old) i d) e
      ∙ get_or-append-add new (drop (length new) old) (k - length new) d
      ∙ get_or-drop (length new) old (k - length new) d
      ∙ ap (λ (i : ℕ). get_or old i d) (sym e)

  -- work in place: the first i elements done, at the start, after one more, and at the end
  pub done_none : (f : A → A) (xs : List A) → xs ≡ map f (take 0 xs) onto xs
  done_none f xs = sym (onto_nil xs)

  pub done_more : (f : A → A) (xs : List A) (i : ℕ) (d : A) → i < length xs → set (map f (take i xs) onto xs) i (f (get_or xs i d)) ≡ map f (take (i + 1) xs) onto xs
  done_more f xs i d h =
      let long : length (map f (take i xs)) ≡ i = length-map (take i xs) f ∙ length-take-le i xs (omega arith) in
      onto_more (map f (take i xs)) xs i (f (get_or xs i d)) long h
      ∙ ap (λ (l : List A). l onto xs)
      (sym (map-append f (take i xs) (get_or xs i d ∷ [])) ∙ ap (map f) (sym (take-suc xs i d h) ∙ ap (λ (k : ℕ). take k xs) (sym (add-one i))))

  pub done_all : (f : A → A) (xs : List A) (i : ℕ) → length xs ≤ i → map f (take i xs) onto xs ≡ map f xs
  unfolding ◌onto◌
  done_all f xs i h =
      ap (λ (l : List A). map f l onto xs) (take_all i xs h)
      ∙ ap (λ (l : List A). map f xs ++ l) (ap (λ (k : ℕ). drop k xs) (length-map xs f) ∙ drop-length xs)
      ∙ append-nil (map f xs)
