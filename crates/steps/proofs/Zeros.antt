-- A row stored without its zeros: it is clean and means what it was, and a clean row is what it means, stored so.
-- Assumes nothing.
use mathlib.Core.Path.{◌≡◌, sym, ap, ap₂, subst, ◌∙◌}
use mathlib.Core.Logic.{⊎_elim}
use mathlib.Core.Bool.{true, false, not, cond, true≢false}
use mathlib.Core.List.{List, [], ◌∷◌, ◌++◌, map-append}
use Prim.Native.Nat.{ℕ, zero, suc, ◌+◌, ◌≤◌, ◌<◌}
use native.Mathlib.Nat.{add-zero, zero-add, not-suc-le-zero}
use native.Mathlib.Decide.{ℕ_discrete}
use native.Mathlib.Omega.{arith}
use borrow.Author.Tests.{eq-eqb, ne_eqb, eqb-true}
use lib.Dec.{eqb}
use lib.ListN.{length, get_or, length-map}
use Rattle.lists.specs.Find.{any, keep}
use Rattle.lists.specs.Gather.{gather}
use Rattle.lists.specs.Table.{table}
use Rattle.lists.proofs.Find.{told, any_some, any_false}
use Rattle.lists.proofs.Gathers.{gather_hit, gather_miss, keep_table}
use Rattle.meaning.proofs.RowLists.{entries_of_lem}
use Rattle.meaning.proofs.Climbing.{climbs_none, climbs_wider, climbs_more}
use Rattle.meaning.proofs.Values.{Climbs, value_there, value_elsewhere, value_first, Clean, clean_unique}
use Rattle.sparse.specs.Put.{cols_of, values_of}
use Rattle.sparse.specs.Rows.{Entry, entry, entries}
use Rattle.steps.specs.Rows.{value_of, entry_at, Each, CleanRow}
use Rattle.steps.proofs.Entries.{each_none, each_more, map_at, value_none, value_append}

-- its values x at n columns, those that are 0 left out
abbrev pub without_zeros : ℕ → (ℕ → ℕ) → List Entry
without_zeros n x = keep (λ e. not (eqb e.value 0)) (table n (λ j. entry j (x j)))

-- by its columns, one after another
abbrev gathered : ℕ → (ℕ → ℕ) → List Entry
gathered n x = gather (λ j. not (eqb (x j) 0)) (λ j. entry j (x j)) n

pub by_columns : (n : ℕ) (x : ℕ → ℕ) → without_zeros n x ≡ gathered n x
by_columns n x = keep_table (λ e. not (eqb e.value 0)) (λ j. entry j (x j)) n

-- what holds at the start and after each column, be it 0 or not
pub columns_ind : (x : ℕ → ℕ) (P : ℕ → List Entry → Type 0) → P 0 [] → ((n : ℕ) (l : List Entry) → x n ≡ 0 → P n l → P (suc n) l) → ((n : ℕ) (l : List Entry) → (x n ≡ 0 → ⊥) → P n l → P (suc n) (l ++ (entry n (x n) ∷ []))) → (n : ℕ) → P n (without_zeros n x)
unfolding gather
columns_ind x P start skip more n = subst (P n) (sym (by_columns n x)) (up n)
  where
    up : (n : ℕ) → P n (gathered n x)
    up zero = start
    up (suc n) = go (ℕ_discrete (x n) 0) (up n)
      where
        go : Dec (x n ≡ 0) → P n (gathered n x) → P (suc n) (gathered (suc n) x)
        go (yes e) ih = subst (P (suc n)) (sym (gather_miss (λ j. not (eqb (x j) 0)) (λ j. entry j (x j)) n (rw (eq-eqb (x n) 0 e)))) (skip n (gathered n x) e ih)
        go (no e) ih = subst (P (suc n)) (sym (gather_hit (λ j. not (eqb (x j) 0)) (λ j. entry j (x j)) n (rw (ne_eqb (x n) 0 e)))) (more n (gathered n x) e ih)

-- one entry alone
value_one : (e : Entry) (j : ℕ) → value_of (e ∷ []) j ≡ cond (eqb e.col j) e.value 0
unfolding cols_of values_of
value_one e j = value_first e.col [] e.value [] j ∙ ap (λ (z : ℕ). cond (eqb e.col j) e.value 0 + z) (value_none j) ∙ add-zero (cond (eqb e.col j) e.value 0)

value_here : (e : Entry) (j : ℕ) → e.col ≡ j → value_of (e ∷ []) j ≡ e.value
value_here e j q = value_one e j ∙ rw (eq-eqb e.col j q)

value_other : (e : Entry) (j : ℕ) → (e.col ≡ j → ⊥) → value_of (e ∷ []) j ≡ 0
value_other e j q = value_one e j ∙ rw (ne_eqb e.col j q)

module _ (x : ℕ → ℕ) where
  -- its columns climb
  pub without_climbs : (n : ℕ) → Climbs n (cols_of (without_zeros n x))
  unfolding cols_of
  without_climbs =
      columns_ind x (λ n l. Climbs n (cols_of l)) (climbs_none 0)
      (λ n l e c. climbs_wider (omega arith) c)
      (λ n l e c. subst (Climbs (suc n)) (sym (map-append (λ (d : Entry). d.col) l (entry n (x n) ∷ []))) (climbs_more c (omega arith) (omega arith)))

  -- its values are not 0, and have what the values of x have
  pub without_values : (Q : ℕ → Type 0) → ((j : ℕ) → (x j ≡ 0 → ⊥) → Q (x j)) → (n : ℕ) → Each (λ e. Q e.value) (without_zeros n x)
  without_values Q each = columns_ind x (λ n l. Each (λ e. Q e.value) l) each_none (λ n l e h. h) (λ n l e h. each_more h (each n e))

  -- it means x below n, and 0 from there
  record Means (n : ℕ) (l : List Entry) : Type 0 where
    low : (j : ℕ) → j < n → value_of l j ≡ x j
    high : (j : ℕ) → n ≤ j → value_of l j ≡ 0

  means : (n : ℕ) → Means n (without_zeros n x)
  means =
      columns_ind x Means (record { low = λ j h. absurd (not-suc-le-zero h); high = λ j h. value_none j })
      (λ n l e m. record { low = λ j h. skipped n l e m j h (ℕ_discrete j n); high = λ j h. m.high j (omega arith) })
      (λ n l e m. record { low = λ j h. added n l m j h (ℕ_discrete j n); high = λ j h. value_append l (entry n (x n) ∷ []) j ∙ ap₂ (λ (a b : ℕ). a + b) (m.high j (omega arith)) (value_other (entry n (x n)) j (λ q. omega arith)) })
    where
      skipped : (n : ℕ) (l : List Entry) → x n ≡ 0 → Means n l → (j : ℕ) → j < suc n → Dec (j ≡ n) → value_of l j ≡ x j
      skipped n l e m j h (yes q) = m.high j (omega arith) ∙ sym e ∙ ap x (sym q)
      skipped n l e m j h (no q) = m.low j (omega arith)

      added : (n : ℕ) (l : List Entry) → Means n l → (j : ℕ) → j < suc n → Dec (j ≡ n) → value_of (l ++ (entry n (x n) ∷ [])) j ≡ x j
      added n l m j h (yes q) =
          value_append l (entry n (x n) ∷ []) j
          ∙ ap₂ (λ (a b : ℕ). a + b) (m.high j (omega arith)) (value_here (entry n (x n)) j (sym q))
          ∙ zero-add (x n)
          ∙ ap x (sym q)
      added n l m j h (no q) =
          value_append l (entry n (x n) ∷ []) j
          ∙ ap₂ (λ (a b : ℕ). a + b) (m.low j (omega arith)) (value_other (entry n (x n)) j (λ e. q (sym e)))
          ∙ add-zero (x j)

  pub without_means : (n j : ℕ) → j < n → value_of (without_zeros n x) j ≡ x j
  without_means n = (means n).low

-- clean rows, as `meaning` has them
each_clean : (n : ℕ) (es : List Entry) → Climbs n (cols_of es) → Each (λ e. e.value ≡ 0 → ⊥) es → Clean n (cols_of es) (values_of es)
unfolding cols_of values_of
each_clean n es climbs each = record {
  climbs = climbs;
  many = length-map es (λ (e : Entry). e.col) ∙ sym (length-map es (λ (e : Entry). e.value));
  stored = λ k h z. let b : k < length es = rw (length-map es (λ (e : Entry). e.value)) at h in each.at k b (sym (map_at (λ (e : Entry). e.value) es k b) ∙ z);
}

pub row_clean : {p n : ℕ} {es : List Entry} → CleanRow p n es → Clean n (cols_of es) (values_of es)
row_clean {p} {n} {es} row = each_clean n es row.climbs (record { at = λ i h z. omega (arith, (row.values.at i h).pos) })

-- their values are residues
pub row_small : {p n : ℕ} {es : List Entry} → 0 < p → CleanRow p n es → (j : ℕ) → value_of es j < p
unfolding cols_of values_of
row_small {p} {n} {es} pos row j = ⊎_elim found missing (told (any (length (cols_of es)) (λ k. eqb (get_or (cols_of es) k 0) j)))
  where
    found : any (length (cols_of es)) (λ k. eqb (get_or (cols_of es) k 0) j) ≡ true → value_of es j < p
    found e =
        let s = any_some (length (cols_of es)) (λ k. eqb (get_or (cols_of es) k 0) j) e in
        let b : s.0 < length es = omega (arith, s.1, length-map es (λ (e : Entry). e.col)) in
        let v : value_of es j ≡ (entry_at es s.0).value = ap (value_of es) (sym (eqb-true (get_or (cols_of es) s.0 0) j s.2)) ∙ value_there n (cols_of es) (values_of es) row.climbs s.0 s.1 ∙ map_at (λ (e : Entry). e.value) es s.0 b in
        rw v (row.values.at s.0 b).below

    missing : any (length (cols_of es)) (λ k. eqb (get_or (cols_of es) k 0) j) ≡ false → value_of es j < p
    missing e =
        let v : value_of es j ≡ 0 = value_elsewhere (cols_of es) (values_of es) j (λ k h q. true≢false (sym (eq-eqb (get_or (cols_of es) k 0) j q) ∙ any_false (length (cols_of es)) (λ k. eqb (get_or (cols_of es) k 0) j) e k h)) in
        rw v pos

-- a clean row is what it means, stored without zeros
pub row_same : {p n : ℕ} {es : List Entry} → CleanRow p n es → without_zeros n (value_of es) ≡ es
unfolding cols_of values_of
row_same {p} {n} {es} row =
    let same = clean_unique n (cols_of ds) (values_of ds) (cols_of es) (values_of es) (each_clean n ds (without_climbs (value_of es) n) (without_values (value_of es) (λ v. v ≡ 0 → ⊥) (λ j z. z) n)) (row_clean row) (without_means (value_of es) n) in
    sym (entries_of_lem ds) ∙ ap₂ entries same.0 same.1 ∙ entries_of_lem es
  where
    ds : List Entry
    ds = without_zeros n (value_of es)
