-- Tables: length, elements, what a loop that writes one has at each turn, and every list is one.
-- Assumes nothing.
use mathlib.Core.Path.{◌≡◌, refl, sym, ap, ◌∙◌}
use mathlib.Core.List.{List, [], ◌∷◌, ◌++◌, map, map-append}
use Prim.Native.Nat.{ℕ, zero, suc, ◌+◌, ◌≤◌, ◌<◌}
use native.Mathlib.Nat.{not-suc-le-zero, le_refl}
use native.Mathlib.Decide.{dec_lt, ℕ_discrete}
use native.Mathlib.Numerals.{add-one}
use native.Mathlib.Omega.{arith}
use lib.ListN.{length, take, set, get_or, length-append, length-set, get_or-append}
use lib.Seq.{get_or_at, get_or-set_same, get_or-set_other, ext_get_or, take-length, take-append-le}
use Rattle.lists.specs.Onto.{◌onto◌}
use Rattle.lists.specs.Table.{table}
use Rattle.lists.proofs.Ontos.{onto_nil, onto_more}

module _ {ℓ} {A : Type ℓ} where
  pub length-table : (n : ℕ) (f : ℕ → A) → length (table n f) ≡ n
  unfolding table
  length-table zero f = refl
  length-table (suc n) f = length-append (table n f) (f n ∷ []) ∙ ap (λ (k : ℕ). k + 1) (length-table n f) ∙ add-one n

  -- the last element
  last : (n : ℕ) (f : ℕ → A) (i : ℕ) (d : A) → i ≡ n → get_or (table n f ++ (f n ∷ [])) i d ≡ f i
  last n f i d e = get_or_at (table n f) (f n) [] d i (length-table n f ∙ sym e) ∙ ap f (sym e)

  pub get_or-table : (n : ℕ) (f : ℕ → A) (i : ℕ) (d : A) → i < n → get_or (table n f) i d ≡ f i
  unfolding table
  get_or-table zero f i d h = absurd (not-suc-le-zero h)
  get_or-table (suc n) f i d h = go (dec_lt i n) (get_or-table n f i d)
    where
      go : Dec (i < n) → (i < n → get_or (table n f) i d ≡ f i) → get_or (table (suc n) f) i d ≡ f i
      go (yes below) ih = get_or-append (table n f) (f n ∷ []) d i (rw length-table below) ∙ ih below
      go (no above) ih = last n f i d (omega arith)

  -- a list is the table of its elements
  pub table_get_or : (l : List A) (d : A) → table (length l) (λ i. get_or l i d) ≡ l
  table_get_or l d = ext_get_or d (table (length l) (λ i. get_or l i d)) l (length-table (length l) (λ i. get_or l i d)) (λ i h. get_or-table (length l) (λ k. get_or l k d) i d (rw length-table at h))

  -- tables that agree at each place are equal
  pub table_ext : (n : ℕ) (f g : ℕ → A) → ((i : ℕ) → i < n → f i ≡ g i) → table n f ≡ table n g
  unfolding table
  table_ext zero f g h = refl
  table_ext (suc n) f g h = (λ i. table_ext n f g (λ k below. h k (omega arith)) i ++ (h n (le_refl (suc n)) i ∷ []))

  -- one element set
  pub set-table : (n : ℕ) (f g : ℕ → A) (i : ℕ) (a : A) → i < n → g i ≡ a → ((j : ℕ) → j < n → (j ≡ i → ⊥) → g j ≡ f j) → set (table n f) i a ≡ table n g
  set-table n f g i a h here others =
      ext_get_or a (set (table n f) i a) (table n g) (length-set (table n f) i a ∙ length-table n f ∙ sym (length-table n g)) (λ j l. each j (rw (length-set, length-table) at l) (ℕ_discrete j i))
    where
      each : (j : ℕ) → j < n → Dec (j ≡ i) → get_or (set (table n f) i a) j a ≡ get_or (table n g) j a
      each j l (yes e) = rw e (get_or-set_same (table n f) i a a (rw length-table h) ∙ sym here ∙ sym (get_or-table n g i a h))
      each j l (no ne) = get_or-set_other (table n f) i j a a ne ∙ get_or-table n f j a l ∙ sym (others j l ne) ∙ sym (get_or-table n g j a l)

  -- its first i elements
  pub take-table : (n i : ℕ) (f : ℕ → A) → i ≤ n → take i (table n f) ≡ table i f
  unfolding table
  take-table zero zero f h = refl
  take-table zero (suc i) f h = absurd (not-suc-le-zero h)
  take-table (suc n) i f h = go (dec_lt n i) (take-table n i f)
    where
      go : Dec (n < i) → (i ≤ n → take i (table n f) ≡ table i f) → take i (table (suc n) f) ≡ table i f
      go (yes above) ih =
          let e : suc n ≡ i = omega arith in
          ap (λ (k : ℕ). take k (table (suc n) f)) (sym e ∙ sym (length-table (suc n) f)) ∙ take-length (table (suc n) f) ∙ ap (λ (k : ℕ). table k f) e
      go (no below) ih = take-append-le i (table n f) (f n ∷ []) (rw length-table (omega arith)) ∙ ih (omega arith)

  -- a table written, at its start and after one more element
  pub table_none : (f : ℕ → A) (old : List A) → old ≡ table 0 f onto old
  unfolding table
  table_none f old = sym (onto_nil old)

  pub table_more : (n : ℕ) (f : ℕ → A) (old : List A) → n < length old → set (table n f onto old) n (f n) ≡ table (n + 1) f onto old
  unfolding table
  table_more n f old h = onto_more (table n f) old n (f n) (length-table n f) h ∙ ap (λ (k : ℕ). table k f onto old) (sym (add-one n))

-- what is made of each element
pub map-table {ℓ κ} : {A : Type ℓ} {B : Type κ} (g : A → B) (n : ℕ) (f : ℕ → A) → map g (table n f) ≡ table n (λ i. g (f i))
unfolding table
map-table g zero f = refl
map-table g (suc n) f = map-append g (table n f) (f n ∷ []) ∙ ap (λ l. l ++ (g (f n) ∷ [])) (map-table g n f)
