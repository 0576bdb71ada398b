-- The determinant's two numbers by order of acceptance: the product of the heads, and the inversions of the pivot columns.
-- Assumes nothing.
use mathlib.Core.Path.{◌≡◌, refl, sym, ap, ap₂, subst, ◌∙◌}
use mathlib.Core.Bool.{cond}
use mathlib.Core.List.{List, []}
use Prim.Native.Nat.{ℕ, zero, suc, ◌+◌, ◌*◌, ◌%◌, ◌≤◌, ◌<◌}
use native.Mathlib.Omega.{arith}
use lib.Dec.{ltb}
use lib.ListN.{length, get_or, set, length-map}
use Rattle.lists.specs.Sum.{Σ}
use Rattle.lists.specs.Table.{table}
use Rattle.lists.proofs.Sums.{sum-ext}
use Rattle.lists.proofs.Tables.{length-table, get_or-table}
use Rattle.sparse.specs.Matrix.{row}
use Rattle.sparse.specs.Put.{values_of}
use Rattle.sparse.specs.Rows.{Entry}
use Rattle.state.specs.Memory.{Memory}
use Rattle.state.specs.declared.Counts.{Counts}
use Rattle.state.specs.declared.Mode.TheVariants.{Full}
use Rattle.walk.specs.Step as S
use Rattle.steps.specs.History.{Told, accepted}
use Rattle.steps.specs.Setting.{Echelon, Tabled}
use Rattle.taking.specs.Stores.{Lower, with_l}
use Rattle.writing.specs.Puts.{put_at}
use Rattle.stepping.specs.Asks.{Stands}
use Rattle.stepping.specs.Take.{lists}
use Rattle.stepping.proofs.Walks.{heads, stands_echelon}
use Rattle.keeping.proofs.Lowers.{Level, level_within}
use Rattle.keeping.proofs.Puts.{row_kept, row_new}
use Rattle.keeping.proofs.Settings.{rows_in}
use Rattle.signs.specs.Value.{last_of, product, greater, inverted, inversions, signed, value_of}
use Rattle.signs.proofs.Sums.{product_more}
use Rattle.turns.proofs.Turns.{turns_same}
use Rattle.ledgers.specs.Taken.{Took}
use Rattle.ledgers.proofs.Diagonals.{all_rank, all_rows}
use Rattle.ledgers.proofs.Takens.{took_stood}

-- n rows of n columns, all accepted
module _ {p n : ℕ} {ts : List Told} {c : Counts} {m : Memory} (took : Took Full p n ts c m) (all : length (accepted ts) ≡ length ts) (square : length ts ≡ n) where
  stands : Stands c (lists m [])
  stands = (took_stood took).kept.stands

  -- the pivot column of each row, in the order of acceptance
  pub columns : ℕ → ℕ
  columns = heads c (lists m []) stands

  echelon : Echelon p n n (rows_in m) columns
  unfolding columns
  echelon =
      subst (λ (q : ℕ). Echelon q n n (rows_in m) columns) (took_stood took).kept.modulus
      (subst (λ (k : ℕ). Echelon c.modulus k n (rows_in m) columns) (took_stood took).kept.ncols
      (subst (λ (k : ℕ). Echelon c.modulus c.ncols k (rows_in m) columns) (all_rank took all ∙ square) (stands_echelon c (lists m []) stands)))

  pub order_table : Tabled n n columns m.pivots
  unfolding S.upper
  order_table = echelon.table

  -- the product of the heads, one in each row of L, negated where their columns have an odd number of inversions
  pub value_by_order : value_of p n c.l_rows m.l_vals m.l_ptrs m.pivots ≡ signed p (inversions (table n columns)) (product p m.l_ptrs m.l_vals n)
  unfolding value_of
  value_by_order = ap₂ (λ (x y : ℕ). signed p x (product p m.l_ptrs m.l_vals y)) (turns_same order_table echelon.heads.within) (all_rows took all ∙ square)

-- rows that are the same have the same product
product_same : (p : ℕ) (ptrs vals ptrs' vals' : List ℕ) (k : ℕ) → ((r : ℕ) → r < k → row ptrs' vals' r ≡ row ptrs vals r) → product p ptrs' vals' k ≡ product p ptrs vals k
unfolding product
product_same p ptrs vals ptrs' vals' zero same = refl
product_same p ptrs vals ptrs' vals' (suc k) same =
    ap₂ (λ (x : ℕ) (y : List ℕ). x * last_of y % p) (product_same p ptrs vals ptrs' vals' k (λ r h. same r (omega arith))) (same k (omega arith))

-- a row more in L multiplies the product by its last entry: of an accepted row, its head
pub product_grows : (p : ℕ) {rank rows fill : ℕ} (es : List Entry) (l : Lower) → Level rank rows fill l.cols l.ptrs → fill + length es ≤ length l.vals → rows + 1 < length l.ptrs
    → product p (with_l Full rows fill es l).ptrs (with_l Full rows fill es l).vals (rows + 1) ≡ product p l.ptrs l.vals rows * last_of (values_of es) % p
unfolding with_l
product_grows p {rank} {rows} {fill} es l level room pointer =
    let long : length (values_of es) ≡ length es = (unfold values_of in length-map es _) in
    product_more p (set l.ptrs (rows + 1) (fill + length es)) (put_at fill (values_of es) l.vals) rows
    ∙ ap₂ (λ (x : ℕ) (y : List ℕ). x * last_of y % p)
    (product_same p l.ptrs l.vals (set l.ptrs (rows + 1) (fill + length es)) (put_at fill (values_of es) l.vals) rows (λ r h. row_kept rows fill (length es) l.ptrs pointer (values_of es) l.vals long room r h (level_within level (r + 1) (omega arith))))
    (row_new rows fill (length es) l.ptrs pointer (values_of es) l.vals long room level.ends)

-- a row more: its column has so many greater ones before it
pub inversions_grow : (k : ℕ) (h : ℕ → ℕ) → inversions (table (suc k) h) ≡ inversions (table k h) + inverted (table (suc k) h) k
unfolding inversions inverted greater Σ
inversions_grow k h =
    ap (λ (n : ℕ). Σ n (inverted (table (suc k) h))) (length-table (suc k) h)
    ∙ ap (λ (x : ℕ). x + inverted (table (suc k) h) k)
    (sum-ext k (inverted (table (suc k) h)) (inverted (table k h)) (λ j l. sum-ext j (greater (table (suc k) h) j) (greater (table k h) j) (λ i b. ap₂ (λ (x y : ℕ). cond (ltb x y) 1 0) (same j l) (same i (omega arith))))
    ∙ ap (λ (n : ℕ). Σ n (inverted (table k h))) (sym (length-table k h)))
  where
    same : (j : ℕ) → j < k → get_or (table (suc k) h) j 0 ≡ get_or (table k h) j 0
    same j l = get_or-table (suc k) h j 0 (omega arith) ∙ sym (get_or-table k h j 0 l)
