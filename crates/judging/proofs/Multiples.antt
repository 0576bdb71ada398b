-- An L row times U in dense memory, and what is left of it when the row is taken off.
-- Assumes nothing.
use mathlib.Core.Path.{◌≡◌, sym, ap, ap₂, subst, ◌∙◌}
use mathlib.Core.Bool.{Bool, true, false, not, cond}
use mathlib.Core.List.{List}
use Prim.Native.Nat.{ℕ, zero, suc, ◌+◌, ◌-◌, ◌*◌, ◌%◌, ◌≤◌, ◌<◌}
use native.Mathlib.Nat.{mod-lt, mod-eq_of_lt, mod-add-mod, add-mul-mod_self_left, zero-mod, zero-add, suc-mul}
use native.Mathlib.Numerals.{add-one}
use native.Mathlib.Omega.{arith}
use borrow.Author.Tests.{eq-eqb, ne_eqb, le-ltb}
use lib.Dec.{eqb, ltb}
use lib.ListN.{length, get_or}
use Rattle.lists.specs.Find.{any}
use Rattle.lists.specs.Sum.{Σ}
use Rattle.lists.specs.Table.{table}
use Rattle.lists.proofs.Find.{any_true, any_none}
use Rattle.lists.proofs.Sums.{sum-ext}
use Rattle.lists.proofs.Tables.{length-table, get_or-table, table_get_or, table_ext}
use Rattle.meaning.proofs.Parts.{length_part}
use Rattle.meaning.proofs.RowLists.{entry_cols, entry_values}
use Rattle.meaning.proofs.Values.{Climbs}
use Rattle.sparse.specs.Lent.{outcome}
use Rattle.sparse.specs.Matrix.{Matrix, row, value_in, value_at}
use Rattle.sparse.specs.Put.{cols_of, values_of}
use Rattle.sparse.specs.Rows.{Entry, entries}
use Rattle.steps.specs.Rows.{value_of, entry_at, times}
use Rattle.steps.proofs.Zeros.{row_small}
use Rattle.walk.specs.Asks.{Adds}
use Rattle.walk.specs.Dense.{next_from, plus_multiple, wiped}
use Rattle.walk.proofs.Walking.{Next, next_found}
use Rattle.accounts.specs.Judgement.{product_fault}
use Rattle.judging.specs.Asks.{upper, AddsRow, Compares}
use Rattle.judging.proofs.Names.{entry_here, entries_many}

-- the first i entries times rows r, at column j
pub so_far : ℕ → List ℕ → List ℕ → (ℕ → ℕ → ℕ) → ℕ → ℕ
so_far i cols vals r j = Σ i (λ e. get_or vals e 0 * r (get_or cols e 0) j)

-- they stand in dense memory
pub record Multiplied (p n : ℕ) (cols vals : List ℕ) (r : ℕ → ℕ → ℕ) (i : ℕ) (dense : List ℕ) : Type 0 where
  pub within : i ≤ length cols
  pub is : dense ≡ table n (λ j. so_far i cols vals r j % p)

module _ {p n : ℕ} {cols vals : List ℕ} {r : ℕ → ℕ → ℕ} where
  pub multiplied_none : {dense : List ℕ} → dense ≡ table n (λ j. 0) → Multiplied p n cols vals r 0 dense
  unfolding so_far Σ
  multiplied_none e = record { within = omega arith; is = e ∙ table_ext n (λ j. 0) (λ j. 0 % p) (λ j h. sym (zero-mod p)) }

  module _ {i : ℕ} {dense : List ℕ} (m : Multiplied p n cols vals r i dense) where
    pub multiplied_long : length dense ≡ n
    multiplied_long = ap length m.is ∙ length-table n (λ j. so_far i cols vals r j % p)

    multiplied_at : (j : ℕ) → j < n → get_or dense j 0 ≡ so_far i cols vals r j % p
    multiplied_at j h = ap (λ (d : List ℕ). get_or d j 0) m.is ∙ get_or-table n (λ j. so_far i cols vals r j % p) j 0 h

    pub multiplied_small : 0 < p → (j : ℕ) → j < length dense → get_or dense j 0 < p
    multiplied_small pos j h = rw (multiplied_at j (omega (arith, multiplied_long))) (mod-lt (so_far i cols vals r j) {m = p} pos)

    pub multiplied_more : i < length cols → {next : List ℕ} → next ≡ table n (λ j. (get_or dense j 0 + get_or vals i 0 * r (get_or cols i 0) j) % p) → Multiplied p n cols vals r (i + 1) next
    unfolding so_far Σ
    multiplied_more h e = record {
      within = omega arith;
      is =
          e
          ∙ table_ext n (λ j. (get_or dense j 0 + get_or vals i 0 * r (get_or cols i 0) j) % p) (λ j. so_far (i + 1) cols vals r j % p) (λ j b.
          ap (λ (x : ℕ). (x + get_or vals i 0 * r (get_or cols i 0) j) % p) (multiplied_at j b)
          ∙ mod-add-mod (so_far i cols vals r j) p (get_or vals i 0 * r (get_or cols i 0) j)
          ∙ ap (λ (k : ℕ). so_far k cols vals r j % p) (sym (add-one i)));
    }

    pub multiplied_all : length cols ≡ length vals → length cols ≤ i → dense ≡ table n (λ j. times (entries cols vals) r j % p)
    unfolding so_far times
    multiplied_all same h =
        m.is
        ∙ table_ext n (λ j. so_far i cols vals r j % p) (λ j. times (entries cols vals) r j % p) (λ j b. ap (λ (x : ℕ). x % p) (whole j))
      where
        whole : (j : ℕ) → Σ i (λ e. get_or vals e 0 * r (get_or cols e 0) j) ≡ Σ (length (entries cols vals)) (λ e. (entry_at (entries cols vals) e).value * r (entry_at (entries cols vals) e).col j)
        whole j =
            ap (λ (k : ℕ). Σ k (λ e. get_or vals e 0 * r (get_or cols e 0) j)) (let q : i ≡ length cols = omega (arith, m.within) in q ∙ sym (entries_many cols vals same))
            ∙ sum-ext (length (entries cols vals)) _ _ (λ e b. ap (λ (x : Entry). x.value * r x.col j) (sym (entry_here cols vals same e (omega (arith, entries_many cols vals same)))))

-- a row of U can be added
pub row_adds : {p n : ℕ} {cols vals ptrs : List ℕ} {r : ℕ} {dense : List ℕ} → AddsRow p n cols vals ptrs r dense → Adds p (row ptrs cols r) (row ptrs vals r) dense
unfolding row
row_adds {p} {n} {cols} {vals} {ptrs} {r} {dense} s = record {
  same = length_part (get_or ptrs r 0) (get_or ptrs (r + 1) 0) cols s.pivot.columns ∙ sym (length_part (get_or ptrs r 0) (get_or ptrs (r + 1) 0) vals s.pivot.numbers);
  climbs = subst (λ (k : ℕ). Climbs k (row ptrs cols r)) (sym s.long) s.pivot.climbs;
  small = s.small;
}

-- and is added
pub added_row : {p n : ℕ} {cols vals ptrs : List ℕ} {r : ℕ} {dense : List ℕ} → AddsRow p n cols vals ptrs r dense → (f : ℕ) {next : List ℕ} → next ≡ plus_multiple p f (row ptrs cols r) (row ptrs vals r) dense
    → next ≡ table n (λ j. (get_or dense j 0 + f * value_at (upper n cols vals ptrs) r j) % p)
unfolding plus_multiple value_at
added_row {p} {n} {cols} {vals} {ptrs} {r} {dense} s f e = e ∙ ap (λ (k : ℕ). table k (λ j. (get_or dense j 0 + f * value_at (upper n cols vals ptrs) r j) % p)) s.long

-- p - 1 times v takes v off
off : (p a v : ℕ) → 0 < p → a < p → v < p → (a + (p - 1) * v) % p ≡ 0 → a ≡ v
off zero a v pos la lv e = absurd (omega arith)
off (suc q) a v pos la lv e =
    let back : a ≡ (a + q * v + v) % suc q = sym (mod-eq_of_lt la) ∙ sym (add-mul-mod_self_left a (suc q) v) ∙ ap (λ (x : ℕ). x % suc q) (ap (λ (x : ℕ). a + x) (suc-mul q v) ∙ omega arith) in
    let gone : (a + q * v) % suc q ≡ 0 = subst (λ (k : ℕ). (a + k * v) % suc q ≡ 0) (let z : suc q - 1 ≡ q = omega arith in z) e in
    back
    ∙ sym (mod-add-mod (a + q * v) (suc q) v)
    ∙ ap (λ (x : ℕ). (x + v) % suc q) gone
    ∙ ap (λ (x : ℕ). x % suc q) (zero-add v)
    ∙ mod-eq_of_lt lv

off_itself : (p v : ℕ) → 0 < p → (v + (p - 1) * v) % p ≡ 0
off_itself zero v pos = absurd (omega arith)
off_itself (suc q) v pos =
    ap (λ (k : ℕ). (v + k * v) % suc q) (let z : suc q - 1 ≡ q = omega arith in z)
    ∙ ap (λ (x : ℕ). x % suc q) (let z : v + q * v ≡ 0 + (q * v + v) = omega arith in z ∙ ap (λ (x : ℕ). 0 + x) (sym (suc-mul q v)))
    ∙ add-mul-mod_self_left 0 (suc q) v
    ∙ zero-mod (suc q)

-- all of it wiped
wiped_zero : (dense : List ℕ) → wiped 0 dense ≡ table (length dense) (λ j. 0)
unfolding wiped
wiped_zero dense = table_ext (length dense) (λ j. cond (ltb j 0) (get_or dense j 0) 0) (λ j. 0) (λ j h. rw (le-ltb j 0 (omega arith)))

module _ {p n : ℕ} {u_cols u_vals ptrs l_cols l_vals cols vals dense : List ℕ} (s : Compares p n u_cols u_vals ptrs l_cols l_vals cols vals dense) where
  abbrev u : Matrix
  u = upper n u_cols u_vals ptrs

  abbrev l : List Entry
  l = entries l_cols l_vals

  abbrev es : List Entry
  es = entries cols vals

  abbrev product : ℕ → ℕ
  product j = times l (value_at u) j % p

  columns : Climbs n cols
  unfolding cols_of
  columns = subst (Climbs n) (entry_cols cols vals s.same) s.clean.climbs

  value_is : (j : ℕ) → value_in cols vals j ≡ value_of es j
  unfolding cols_of values_of
  value_is j = ap₂ (λ (x y : List ℕ). value_in x y j) (sym (entry_cols cols vals s.same)) (sym (entry_values cols vals))

  module _ {d : List ℕ} (made : d ≡ table n (λ j. times l (value_at u) j % p)) where
    long : length d ≡ n
    long = ap length made ∙ length-table n product

    at : (j : ℕ) → j < n → get_or d j 0 ≡ product j
    at j h = ap (λ (x : List ℕ). get_or x j 0) made ∙ get_or-table n product j 0 h

    pub compared_adds : Adds p cols vals d
    compared_adds = record {
      same = s.same;
      climbs = subst (λ (k : ℕ). Climbs k cols) (sym long) columns;
      small = λ j h. rw (at j (omega (arith, long))) (mod-lt (times l (value_at u) j) {m = p} s.product.positive);
    }

    module _ {e : List ℕ} (taken : e ≡ plus_multiple p (p - 1) cols vals d) where
      pub left_long : length e ≡ n
      unfolding plus_multiple
      left_long = ap length taken ∙ length-table (length d) (λ j. (get_or d j 0 + (p - 1) * value_in cols vals j) % p) ∙ long

      left_at : (j : ℕ) → j < n → get_or e j 0 ≡ (product j + (p - 1) * value_of es j) % p
      unfolding plus_multiple
      left_at j h =
          ap (λ (x : List ℕ). get_or x j 0) taken
          ∙ get_or-table (length d) (λ j. (get_or d j 0 + (p - 1) * value_in cols vals j) % p) j 0 (omega (arith, long))
          ∙ ap₂ (λ (x y : ℕ). (x + (p - 1) * y) % p) (at j h) (value_is j)

      equal : (j : ℕ) → j < n → get_or e j 0 ≡ 0 → product j ≡ value_of es j
      equal j h z = off p (product j) (value_of es j) s.product.positive (mod-lt (times l (value_at u) j) {m = p} s.product.positive) (row_small s.product.positive s.clean j) (sym (left_at j h) ∙ z)

      -- no column is left: the product is the row, and dense memory is zero
      pub compared_same : {first : ℕ} → first ≡ next_from e 0 → length e < first + 1 → outcome false e ≡ outcome (product_fault p u l es) dense
      unfolding product_fault
      compared_same {first} q h =
          let found : Next e 0 first = next_found (omega arith) q in
          let zeros : (j : ℕ) → j < length e → get_or e j 0 ≡ 0 = λ j b. found.zeros j (omega arith) (omega arith) in
          let right : any n (λ j. not (eqb (times l (value_at u) j % p) (value_of es j))) ≡ false = any_none n (λ j. not (eqb (times l (value_at u) j % p) (value_of es j))) (λ j b. rw (eq-eqb (product j) (value_of es j) (equal j b (zeros j (omega (arith, left_long)))))) in
          let empty : e ≡ dense = sym (table_get_or e 0) ∙ table_ext (length e) (λ j. get_or e j 0) (λ j. 0) zeros ∙ ap (λ (k : ℕ). table k (λ j. 0)) left_long ∙ sym s.product.zero in
          ap₂ (λ (b : Bool) (x : List ℕ). outcome b x) (sym right) empty

      wiped_same : wiped 0 e ≡ dense
      wiped_same = wiped_zero e ∙ ap (λ (k : ℕ). table k (λ j. 0)) left_long ∙ sym s.product.zero

      -- a column is left: they differ there
      pub compared_other : {first : ℕ} → first ≡ next_from e 0 → first + 1 ≤ length e → {w : List ℕ} → w ≡ wiped 0 e → outcome true w ≡ outcome (product_fault p u l es) dense
      unfolding product_fault
      compared_other {first} q h {w} wipe =
          let found : Next e 0 first = next_found (omega arith) q in
          let here : first < n = omega (arith, left_long) in
          let differ : product first ≡ value_of es first → ⊥ = λ z. found.stands (omega arith) (left_at first here ∙ ap (λ (x : ℕ). (x + (p - 1) * value_of es first) % p) z ∙ off_itself p (value_of es first) s.product.positive) in
          let wrong : any n (λ j. not (eqb (times l (value_at u) j % p) (value_of es j))) ≡ true = any_true n (λ j. not (eqb (times l (value_at u) j % p) (value_of es j))) here (rw (ne_eqb (product first) (value_of es first) differ)) in
          ap₂ (λ (b : Bool) (x : List ℕ). outcome b x) (sym wrong) (wipe ∙ wiped_same)
