-- A row's entry in the last column: columns climb, so it is the row's last entry, or there is none.
-- Assumes nothing.
use Rattle.std.specs.Prelude.{None, Some}
use mathlib.Core.Path.{◌≡◌, refl, sym, ap, ◌∙◌}
use mathlib.Core.Bool.{Bool, true, false, cond}
use mathlib.Core.List.{List, [], ◌∷◌, ◌++◌, map}
use Prim.Native.Nat.{ℕ, zero, suc, ◌+◌, ◌-◌, ◌<◌}
use native.Mathlib.Decide.{dec_lt, ℕ_discrete}
use native.Mathlib.Omega.{arith}
use lib.Dec.{eqb}
use lib.ListN.{length, get_or}
use borrow.Author.Tests.{eq-eqb, ne_eqb}
use Rattle.lists.specs.Find.{keep}
use Rattle.lists.specs.Table.{table}
use Rattle.sparse.specs.Matrix.{value_in}
use Rattle.sparse.specs.Rows.{Entry, entry, entries}
use Rattle.meaning.proofs.Values.{Climbs, value_there, value_elsewhere}
use Rattle.lasts.specs.Gathers.{held, Last}
use Rattle.lasts.specs.Lasts.{in_last}

module _ {A : Type 0} (f : A → Bool) where
  keep_snoc : (xs : List A) (x : A) → keep f (xs ++ (x ∷ [])) ≡ keep f xs ++ cond (f x) (x ∷ []) []
  unfolding keep
  keep_snoc [] x = refl
  keep_snoc (y ∷ ys) x = go (f y) (keep_snoc ys x)
    where
      go : (b : Bool) → keep f (ys ++ (x ∷ [])) ≡ keep f ys ++ cond (f x) (x ∷ []) [] → cond b (y ∷ keep f (ys ++ (x ∷ []))) (keep f (ys ++ (x ∷ []))) ≡ cond b (y ∷ keep f ys) (keep f ys) ++ cond (f x) (x ∷ []) []
      go true e = ap (λ (l : List A). y ∷ l) e
      go false e = e

  keep_none : (n : ℕ) (g : ℕ → A) → ((i : ℕ) → i < n → f (g i) ≡ false) → keep f (table n g) ≡ []
  unfolding table keep
  keep_none zero g h = refl
  keep_none (suc n) g h = keep_snoc (table n g) (g n) ∙ rw (keep_none n g (λ i l. h i (omega arith)), h n (omega arith))

  keep_last : (n : ℕ) (g : ℕ → A) → ((i : ℕ) → i < n → f (g i) ≡ false) → f (g n) ≡ true → keep f (table (suc n) g) ≡ g n ∷ []
  unfolding table
  keep_last n g h e = keep_snoc (table n g) (g n) ∙ rw (keep_none n g h, e)

module _ (n : ℕ) (cols vals : List ℕ) (same : length cols ≡ length vals) where
  -- no column is the last
  pub last_none : ((i : ℕ) → i < length cols → get_or cols i 0 + 1 ≡ n → ⊥) → (k : ℕ) → [] ≡ in_last n (entries cols vals) k
  unfolding in_last entries
  last_none h k =
      sym (ap (map (λ (e : Entry). entry k e.value))
      (keep_none (λ (e : Entry). eqb (e.col + 1) n) (length vals) (λ i. entry (get_or cols i 0) (get_or vals i 0)) (λ i l. ne_eqb _ _ (h i (omega arith)))))

  module _ (c : Climbs n cols) (end : ℕ) (ends : end + 1 ≡ length cols) where
    -- no column before the row's last one is
    before_end : (i : ℕ) → i < end → get_or cols i 0 + 1 ≡ n → ⊥
    before_end i l e = omega (arith, c.rises i end l (omega arith), c.below end (omega arith))

    -- nor any, where that one isn't
    other_end : (get_or cols end 0 + 1 ≡ n → ⊥) → (i : ℕ) → i < length cols → get_or cols i 0 + 1 ≡ n → ⊥
    other_end other i l = go (dec_lt i end)
      where
        go : Dec (i < end) → get_or cols i 0 + 1 ≡ n → ⊥
        go (yes b) = before_end i b
        go (no b) = λ e. let q : i ≡ end = omega arith in other (ap (λ (j : ℕ). get_or cols j 0 + 1) (sym q) ∙ e)

    pub last_other : (get_or cols end 0 + 1 ≡ n → ⊥) → (k : ℕ) → [] ≡ in_last n (entries cols vals) k
    last_other other = last_none (other_end other)

    -- else it is the row's last
    pub last_one : get_or cols end 0 + 1 ≡ n → (k : ℕ) → entry k (get_or vals end 0) ∷ [] ≡ in_last n (entries cols vals) k
    unfolding in_last entries
    last_one e k =
        let long : length vals ≡ suc end = omega arith in
        sym (ap (map (λ (e : Entry). entry k e.value))
        (ap (λ (m : ℕ). keep (λ (e : Entry). eqb (e.col + 1) n) (table m (λ i. entry (get_or cols i 0) (get_or vals i 0)))) long
        ∙ keep_last (λ (e : Entry). eqb (e.col + 1) n) end (λ i. entry (get_or cols i 0) (get_or vals i 0)) (λ i l. ne_eqb _ _ (before_end i l)) (eq-eqb _ _ e)))

-- what was found, as a value
unfoldable pub worth : Last → ℕ
worth None = 0
worth (Some v) = v

-- what a row holds in the last column, and that it is a stored value
pub record Standing (n : ℕ) (cols vals : List ℕ) : Type 0 where
  pub what : Last
  pub here : (k : ℕ) → held what k ≡ in_last n (entries cols vals) k
  pub value : value_in cols vals (n - 1) ≡ worth what
  pub stored : (v : ℕ) → what ≡ Some v → (i : ℕ) × (i < length vals) × (v ≡ get_or vals i 0)

pub standing : (n : ℕ) (cols vals : List ℕ) → length cols ≡ length vals → Climbs n cols → Standing n cols vals
unfolding held worth
standing n cols vals same c = go (dec_lt 0 (length cols)) (ℕ_discrete (get_or cols (length cols - 1) 0 + 1) n)
  where
    -- the last column is no stored one
    nothing : ((k : ℕ) → [] ≡ in_last n (entries cols vals) k) → ((i : ℕ) → i < length cols → get_or cols i 0 + 1 ≡ n → ⊥) → Standing n cols vals
    nothing none other = record {
      what = None;
      here = none;
      value = value_elsewhere cols vals (n - 1) (λ i l e. other i l (omega (arith, c.below i l)));
      stored = λ v e. let z : ◌≡◌ {A = ℕ} 0 1 = cc in absurd (omega arith);
    }

    go : Dec (0 < length cols) → Dec (get_or cols (length cols - 1) 0 + 1 ≡ n) → Standing n cols vals
    go (no empty) d = nothing (last_none n cols vals same (λ i l e. omega arith)) (λ i l e. omega arith)
    go (yes some) (no ne) = nothing (last_other n cols vals same c (length cols - 1) (omega arith) ne) (other_end n cols vals same c (length cols - 1) (omega arith) ne)
    go (yes some) (yes e) = record {
      what = Some (get_or vals (length cols - 1) 0);
      here = last_one n cols vals same c (length cols - 1) (omega arith) e;
      value = let q : n - 1 ≡ get_or cols (length cols - 1) 0 = omega arith in ap (value_in cols vals) q ∙ value_there n cols vals c (length cols - 1) (omega arith);
      stored = λ v q. (length cols - 1, omega arith, cc);
    }
