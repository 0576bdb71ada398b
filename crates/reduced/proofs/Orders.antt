-- Rows in echelon form from the highest pivot column down: each row once, by falling head, the same span.
-- Assumes nothing.
use mathlib.Core.Path.{◌≡◌, refl, sym, ap, ◌∙◌}
use mathlib.Core.Bool.{cond}
use mathlib.Core.List.{List, ◌∷◌}
use Prim.Native.Nat.{ℕ, zero, suc, ◌%◌, ◌≤◌, ◌<◌}
use native.Mathlib.Nat.{mod-eq_of_lt, zero-mod, not-suc-le-zero}
use native.Mathlib.Decide.{ℕ_discrete}
use native.Mathlib.Omega.{arith}
use borrow.Author.Tests.{eq-eqb, ne_eqb}
use lib.Dec.{eqb}
use lib.ListN.{length, get_or}
use Rattle.linear.proofs.Span.{Span, span_same, span_row, span_trans}
use Rattle.sparse.specs.Pivots.{mark}
use Rattle.sparse.specs.Rows.{Entry}
use Rattle.walk.specs.Step.{Upper, pivot_at}
use Rattle.steps.specs.Rows.{value_of, CleanRow}
use Rattle.steps.specs.Setting.{Inverts, Echelon}
use Rattle.steps.proofs.Nones.{no_head}
use Rattle.steps.proofs.Zeros.{row_small}
use Rattle.reduced.specs.Building.{Falling}
use Rattle.reduced.specs.Order.{pivot_columns, column_down, row_down}
use Rattle.reduced.specs.Reduced.{SameSpan}
use Rattle.reduced.proofs.Distincts.{apart_distinct, distinct_among}

-- ds are the columns below n that have a pivot, from the highest down
record Listed (pivots : List ℕ) (n : ℕ) (ds : List ℕ) : Type 0 where
  within : (i : ℕ) → i < length ds → get_or ds i 0 < n
  pivot : (i : ℕ) → i < length ds → pivot_at pivots (get_or ds i 0) ≡ mark → ⊥
  falls : (i e : ℕ) → i < e → e < length ds → get_or ds e 0 < get_or ds i 0
  all : (c : ℕ) → c < n → (pivot_at pivots c ≡ mark → ⊥) → (i : ℕ) × (i < length ds) × (get_or ds i 0 ≡ c)

module _ {pivots : List ℕ} {n : ℕ} {ds : List ℕ} (listed : Listed pivots n ds) where
  listed_skip : pivot_at pivots n ≡ mark → Listed pivots (suc n) ds
  listed_skip free = record { within = λ i l. omega (arith, listed.within i l); pivot = listed.pivot; falls = listed.falls; all = λ c b m. listed.all c (less c b (λ e. m (ap (pivot_at pivots) e ∙ free))) m }
    where
      less : (c : ℕ) → c < suc n → (c ≡ n → ⊥) → c < n
      less c b ne = omega arith

  listed_more : (pivot_at pivots n ≡ mark → ⊥) → Listed pivots (suc n) (n ∷ ds)
  listed_more here = record { within = within; pivot = pivot; falls = falls; all = λ c b m. all c b m (ℕ_discrete c n) }
    where
      within : (i : ℕ) → i < length (n ∷ ds) → get_or (n ∷ ds) i 0 < suc n
      within zero l = omega arith
      within (suc i) l = omega (arith, listed.within i (omega arith))

      pivot : (i : ℕ) → i < length (n ∷ ds) → pivot_at pivots (get_or (n ∷ ds) i 0) ≡ mark → ⊥
      pivot zero l = here
      pivot (suc i) l = listed.pivot i (omega arith)

      falls : (i e : ℕ) → i < e → e < length (n ∷ ds) → get_or (n ∷ ds) e 0 < get_or (n ∷ ds) i 0
      falls i zero l b = absurd (not-suc-le-zero l)
      falls zero (suc e) l b = listed.within e (omega arith)
      falls (suc i) (suc e) l b = listed.falls i e (omega arith) (omega arith)

      all : (c : ℕ) → c < suc n → (pivot_at pivots c ≡ mark → ⊥) → Dec (c ≡ n) → (i : ℕ) × (i < length (n ∷ ds)) × (get_or (n ∷ ds) i 0 ≡ c)
      all c b m (yes e) = let l : 0 < length (n ∷ ds) = omega arith in (0, l, sym e)
      all c b m (no e) = let w = listed.all c (omega arith) m in let l : suc w.0 < length (n ∷ ds) = omega (arith, w.1) in (suc w.0, l, w.2)

columns_listed : (pivots : List ℕ) (n : ℕ) → Listed pivots n (pivot_columns pivots n)
unfolding pivot_columns
columns_listed pivots zero = record { within = λ i l. absurd (not-suc-le-zero l); pivot = λ i l. absurd (not-suc-le-zero l); falls = λ i e l b. absurd (not-suc-le-zero b); all = λ c b. absurd (not-suc-le-zero b) }
columns_listed pivots (suc c) = go (ℕ_discrete (pivot_at pivots c) mark) (columns_listed pivots c)
  where
    go : Dec (pivot_at pivots c ≡ mark) → Listed pivots c (pivot_columns pivots c) → Listed pivots (suc c) (cond (eqb (pivot_at pivots c) mark) (pivot_columns pivots c) (c ∷ pivot_columns pivots c))
    go (yes e) lower = rw (eq-eqb (pivot_at pivots c) mark e) (listed_skip lower e)
    go (no e) lower = rw (ne_eqb (pivot_at pivots c) mark e) (listed_more lower e)

module _ {p n k : ℕ} {u : Upper} {h : ℕ → ℕ} (echelon : Echelon p n k u h) where
  listed : Listed u.pivots n (pivot_columns u.pivots n)
  listed = columns_listed u.pivots n

  -- each row has its pivot among them
  has_pivot : (r : ℕ) → r < k → (i : ℕ) × (i < length (pivot_columns u.pivots n)) × (column_down u.pivots n i ≡ h r)
  has_pivot r l = listed.all (h r) (echelon.heads.within r l) (λ free. no_head echelon (h r) free r l refl)

  row_within : (i : ℕ) → i < length (pivot_columns u.pivots n) → row_down u.pivots n i < k
  row_within i l = echelon.table.row (column_down u.pivots n i) (listed.within i l) (listed.pivot i l)

  row_head : (i : ℕ) → i < length (pivot_columns u.pivots n) → h (row_down u.pivots n i) ≡ column_down u.pivots n i
  row_head i l = echelon.table.head (column_down u.pivots n i) (listed.within i l) (listed.pivot i l)

  -- there are as many as rows
  pub columns_many : length (pivot_columns u.pivots n) ≡ k
  columns_many =
      let m : ℕ = length (pivot_columns u.pivots n) in
      let less : m ≤ k = distinct_among m k (column_down u.pivots n) h (apart_distinct m (column_down u.pivots n) (λ i e l q z. omega (arith, z, listed.falls i e l q))) (λ i l. (row_down u.pivots n i, row_within i l, row_head i l)) in
      let more : k ≤ m = distinct_among k m h (column_down u.pivots n) (record { same = echelon.heads.apart }) has_pivot in
      omega arith

  low : {i : ℕ} → i < k → i < length (pivot_columns u.pivots n)
  low l = omega (arith, columns_many)

  -- each of them is a row of U
  pub down_within : {i : ℕ} → i < k → row_down u.pivots n i < k
  down_within {i} l = row_within i (low l)

  -- U's rows, stored
  module _ (stored : ℕ → List Entry) (means : (r : ℕ) → r < k → (j : ℕ) → j < n → value_of (stored r) j ≡ u.value r j) where
    pub down_spans : SameSpan p n k u.value k (λ i. value_of (stored (row_down u.pivots n i)))
    down_spans = record { same = λ y. (span_trans from, span_trans to) }
      where
        same : (r : ℕ) → r < k → (j : ℕ) → j < n → value_of (stored r) j % p ≡ u.value r j % p
        same r l j b = ap (λ (z : ℕ). z % p) (means r l j b)

        to : (i : ℕ) → i < k → Span p n k u.value (value_of (stored (row_down u.pivots n i)))
        to i l = let b = row_within i (low l) in span_same (same (row_down u.pivots n i) b) (span_row (row_down u.pivots n i) b)

        from : (r : ℕ) → r < k → Span p n k (λ i. value_of (stored (row_down u.pivots n i))) (u.value r)
        from r l =
            let w = has_pivot r l in
            let e : row_down u.pivots n w.0 ≡ r = ap (pivot_at u.pivots) w.2 ∙ echelon.table.holds r l in
            span_same (λ j b. sym (same r l j b) ∙ ap (λ (z : ℕ). value_of (stored z) j % p) (sym e)) (span_row w.0 (omega (arith, w.1, columns_many)))

    pub down_falling : Inverts p → ((r : ℕ) → r < k → CleanRow p n (stored r)) → Falling p n k (λ i. stored (row_down u.pivots n i)) (column_down u.pivots n)
    down_falling inverts clean = record {
      clean = λ i l. clean (row_down u.pivots n i) (row_within i (low l));
      within = λ i l. listed.within i (low l);
      one = λ i l. ap (value_of (stored (row_down u.pivots n i))) (sym (row_head i (low l))) ∙ one (row_down u.pivots n i) (row_within i (low l));
      before = λ i l j b. before (row_down u.pivots n i) (row_within i (low l)) j (omega (arith, b, row_head i (low l)));
      falls = λ i e l b. listed.falls i e l (low b);
    }
      where
        small : (r : ℕ) → r < k → (j : ℕ) → value_of (stored r) j < p
        small r l = row_small (omega (arith, inverts.least)) (clean r l)

        one : (r : ℕ) → r < k → value_of (stored r) (h r) ≡ 1
        one r l =
            sym (mod-eq_of_lt (small r l (h r)))
            ∙ ap (λ (z : ℕ). z % p) (means r l (h r) (echelon.heads.within r l))
            ∙ echelon.heads.one r l
            ∙ mod-eq_of_lt (omega (arith, inverts.least))

        before : (r : ℕ) → r < k → (j : ℕ) → j < h r → value_of (stored r) j ≡ 0
        before r l j b =
            sym (mod-eq_of_lt (small r l j))
            ∙ ap (λ (z : ℕ). z % p) (means r l j (omega (arith, echelon.heads.within r l)))
            ∙ echelon.heads.before r l j b
            ∙ zero-mod p
