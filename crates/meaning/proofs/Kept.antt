-- The elements of one row, in their order: as the row pointers cut them out, and their values at a column.
-- Assumes nothing.
use mathlib.Core.Path.{◌≡◌, refl, sym, ap, ◌∙◌}
use mathlib.Core.Bool.{Bool, true, false, cond, ◌&&◌}
use mathlib.Core.List.{List, [], ◌∷◌, map}
use Prim.Native.Nat.{ℕ, suc, ◌+◌, ◌-◌, ◌≤◌, ◌<◌}
use native.Mathlib.Nat.{zero-add}
use native.Mathlib.Decide.{dec_lt}
use native.Mathlib.Omega.{arith}
use lib.Dec.{eqb}
use lib.ListN.{length, get_or, take, drop}
use lib.Seq.{take-nil, drop-nil}
use borrow.Author.Tests.{eq-eqb, ne_eqb}
use Rattle.lists.specs.Find.{keep}
use Rattle.lists.specs.Sum.{Σ}
use Rattle.lists.proofs.Sums.{sum_first}
use Rattle.triplets.specs.Asks.{Rising}
use Rattle.sparse.specs.Matrix.{part, value_in}
use Rattle.triplets.specs.Triplets.{start_of}
use Rattle.triplets.proofs.Starts.{rising_tail, one_below, all_above, tail_above}

module _ {ℓ} {A : Type ℓ} where
  part_nil : (a b : ℕ) → part {A = A} a b [] ≡ []
  unfolding part
  part_nil a b = ap (take (b - a)) (drop-nil a) ∙ take-nil (b - a)

  part_none : (xs : List A) → part 0 0 xs ≡ []
  unfolding part
  part_none xs = refl

  -- one element further
  part_further : (a b : ℕ) (x : A) (xs : List A) → part (suc a) (suc b) (x ∷ xs) ≡ part a b xs
  unfolding part
  part_further a b x xs = let same : suc b - suc a ≡ b - a = omega arith in ap (λ (n : ℕ). take n (drop a xs)) same

  part_first : (b : ℕ) (x : A) (xs : List A) → part 0 (suc b) (x ∷ xs) ≡ x ∷ part 0 b xs
  unfolding part
  part_first b x xs = let one : suc b - 0 ≡ suc (b - 0) = omega arith in ap (λ (n : ℕ). take n (x ∷ xs)) one

-- what the pointers cut out for row i is made of the elements of that row
pub row_kept {ℓ κ} : {A : Type ℓ} {B : Type κ} (key : A → ℕ) (g : A → B) (ts : List A) (i : ℕ) → Rising (map key ts) → part (start_of (map key ts) i) (start_of (map key ts) (i + 1)) (map g ts) ≡ map g (keep (λ t. eqb (key t) i) ts)
unfolding keep
row_kept key g [] i up = part_nil (start_of [] i) (start_of [] (i + 1))
row_kept {A = A} {B = B} key g (t ∷ ts) i up = go (dec_lt (key t) i) (dec_lt (key t) (i + 1)) (row_kept key g ts i (rising_tail (key t) (map key ts) up))
  where
    go : Dec (key t < i) → Dec (key t < i + 1) → part (start_of (map key ts) i) (start_of (map key ts) (i + 1)) (map g ts) ≡ map g (keep (λ t. eqb (key t) i) ts) → part (start_of (key t ∷ map key ts) i) (start_of (key t ∷ map key ts) (i + 1)) (g t ∷ map g ts) ≡ map g (keep (λ t. eqb (key t) i) (t ∷ ts))
    go (yes low) d ih =
        let low' : key t < i + 1 = omega arith in
        rw (one_below (key t) (map key ts) i low, one_below (key t) (map key ts) (i + 1) low', ne_eqb (key t) i (λ e. omega arith))
        (part_further (start_of (map key ts) i) (start_of (map key ts) (i + 1)) (g t) (map g ts) ∙ ih)
    go (no high) (yes here) ih =
        let from : i ≤ key t = omega arith in
        rw (all_above (key t) (map key ts) i up from, one_below (key t) (map key ts) (i + 1) here, eq-eqb (key t) i (omega arith))
        (part_first (start_of (map key ts) (i + 1)) (g t) (map g ts)
        ∙ ap (λ (l : List B). g t ∷ l) (ap (λ (a : ℕ). part a (start_of (map key ts) (i + 1)) (map g ts)) (sym (tail_above (key t) (map key ts) i up from)) ∙ ih))
    go (no high) (no past) ih =
        let from : i ≤ key t = omega arith in
        let from' : i + 1 ≤ key t = omega arith in
        rw (all_above (key t) (map key ts) i up from, all_above (key t) (map key ts) (i + 1) up from', ne_eqb (key t) i (λ e. omega arith))
        (part_none (g t ∷ map g ts) ∙ sym (part_none (map g ts))
        ∙ ap (λ (a : ℕ). part a 0 (map g ts)) (sym (tail_above (key t) (map key ts) i up from))
        ∙ ap (λ (b : ℕ). part (start_of (map key ts) i) b (map g ts)) (sym (tail_above (key t) (map key ts) (i + 1) up from'))
        ∙ ih)

value_first : (c v : ℕ) (cols vals : List ℕ) (j : ℕ) → value_in (c ∷ cols) (v ∷ vals) j ≡ cond (eqb c j) v 0 + value_in cols vals j
unfolding value_in
value_first c v cols vals j = sum_first (length cols) (λ k. cond (eqb (get_or (c ∷ cols) k 0) j) (get_or (v ∷ vals) k 0) 0)

value_none : (j : ℕ) → value_in [] [] j ≡ 0
unfolding value_in Σ
value_none j = refl

-- the value at column j of those of which p holds: the sum over all, of these
pub value_kept {ℓ} : {A : Type ℓ} (p : A → Bool) (col value : A → ℕ) (ts : List A) (d : A) (j : ℕ) → value_in (map col (keep p ts)) (map value (keep p ts)) j ≡ Σ (length ts) (λ k. cond (p (get_or ts k d) && eqb (col (get_or ts k d)) j) (value (get_or ts k d)) 0)
unfolding keep Σ
value_kept p col value [] d j = value_none j
value_kept {A = A} p col value (t ∷ ts) d j = go (p t) refl (value_kept p col value ts d j)
  where
    term : List A → ℕ → ℕ
    term ts k = cond (p (get_or ts k d) && eqb (col (get_or ts k d)) j) (value (get_or ts k d)) 0

    all : (b : Bool) → p t ≡ b → cond (b && eqb (col t) j) (value t) 0 + Σ (length ts) (term ts) ≡ Σ (suc (length ts)) (term (t ∷ ts))
    all b e = sym (sum_first (length ts) (term (t ∷ ts)) ∙ ap (λ (b : Bool). cond (b && eqb (col t) j) (value t) 0 + Σ (length ts) (term ts)) e)

    go : (b : Bool) → p t ≡ b → value_in (map col (keep p ts)) (map value (keep p ts)) j ≡ Σ (length ts) (term ts) → value_in (map col (keep p (t ∷ ts))) (map value (keep p (t ∷ ts))) j ≡ Σ (suc (length ts)) (term (t ∷ ts))
    go true e ih = rw e (value_first (col t) (value t) (map col (keep p ts)) (map value (keep p ts)) j ∙ ap (λ (x : ℕ). cond (eqb (col t) j) (value t) 0 + x) ih ∙ all true e)
    go false e ih = rw e (ih ∙ sym (zero-add (Σ (length ts) (term ts))) ∙ all false e)
