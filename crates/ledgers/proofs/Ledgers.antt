-- The rows taken, each with what the account check asks of it, by U's rows, their heads, and L's rows.
-- Assumes nothing.
use Rattle.std.specs.Prelude.{None, Some}
use mathlib.Core.Path.{◌≡◌, sym, ap, subst, ◌∙◌}
use mathlib.Core.Bool.{true, false}
use mathlib.Core.List.{List, [], ◌∷◌, ◌++◌, map}
use Prim.Native.Nat.{ℕ, ◌+◌, ◌%◌, ◌≤◌, ◌<◌}
use native.Mathlib.Omega.{arith}
use lib.ListN.{length, get_or, length-map}
use Rattle.sparse.specs.Rows.{Entry, entry}
use Rattle.steps.specs.History.{at_once, Told, told}
use Rattle.steps.specs.Rows.{value_of, entry_at, Each, Storable, LRow, times}
use Rattle.steps.proofs.Entries.{each_more, map_at, times_same}

-- U's rows by their values, their heads, and L's rows
pub record Books : Type 0 where
  pub value : ℕ → ℕ → ℕ
  pub head : ℕ → ℕ
  pub line : ℕ → List Entry

abbrev pub books : (ℕ → ℕ → ℕ) → (ℕ → ℕ) → (ℕ → List Entry) → Books
books value head line = record { value = value; head = head; line = line }

-- a row answered None, after k accepted ones: its L row names rows of U before k, and times U it is the row
pub record Spanned (p n k : ℕ) (b : Books) (es l : List Entry) : Type 0 where
  pub order : LRow p n k b.head l
  pub product : (j : ℕ) → j < n → times l b.value j % p ≡ value_of es j

-- a row accepted at column g, number k: the diagonal comes last
pub record Entered (p n k g : ℕ) (b : Books) (es l : List Entry) : Type 0 where
  pub within : g < n
  pub head : b.head k ≡ g
  pub before : List Entry
  pub order : LRow p n k b.head before
  pub diagonal : ℕ
  pub value : Storable p diagonal
  pub last : l ≡ before ++ (entry k diagonal ∷ [])
  pub product : (j : ℕ) → j < n → times l b.value j % p ≡ value_of es j

-- the rows ts, of which k were accepted and i have an L row
pub data Ledger (p n : ℕ) (b : Books) : List Told → ℕ → ℕ → Type 0 where
  empty : Ledger p n b [] 0 0
  spared : (ts : List Told) (k i : ℕ) → Ledger p n b ts k i → (es : List Entry) → at_once n k es ≡ true → Ledger p n b (ts ++ (told es None ∷ [])) k i
  spanned : (ts : List Told) (k i : ℕ) → Ledger p n b ts k i → (es : List Entry) → at_once n k es ≡ false → Spanned p n k b es (b.line i) → Ledger p n b (ts ++ (told es None ∷ [])) k (i + 1)
  entered : (ts : List Told) (k i : ℕ) → Ledger p n b ts k i → (es : List Entry) (g : ℕ) → at_once n k es ≡ false → Entered p n k g b es (b.line i) → Ledger p n b (ts ++ (told es (Some g) ∷ [])) (k + 1) (i + 1)

-- other books that say the same of U's first k rows and of L's first i
pub record Alike (n k i : ℕ) (b d : Books) : Type 0 where
  pub values : (r : ℕ) → r < k → (j : ℕ) → j < n → d.value r j ≡ b.value r j
  pub heads : (r : ℕ) → r < k → d.head r ≡ b.head r
  pub lines : (r : ℕ) → r < i → d.line r ≡ b.line r

pub alike_fewer : {n k i x y : ℕ} {b d : Books} → Alike n k i b d → x ≤ k → y ≤ i → Alike n x y b d
alike_fewer a low few = record { values = λ r l. a.values r (omega arith); heads = λ r l. a.heads r (omega arith); lines = λ r l. a.lines r (omega arith) }

-- L rows, where the heads that they name are the same
pub order_same : {p n k : ℕ} {h g : ℕ → ℕ} {l : List Entry} → ((r : ℕ) → r < k → g r ≡ h r) → LRow p n k h l → LRow p n k g l
order_same {p} {n} {k} {h} {g} {l} same order = record {
  rows = order.rows;
  climbs = record {
    below = λ i b. let c : i < length l = omega (arith, many g) in rw (at i c) (order.climbs.below i (omega (arith, many h)));
    rises = λ i e b c. let d : e < length l = omega (arith, many g) in rw (at i (omega arith), at e d) (order.climbs.rises i e b (omega (arith, many h)));
  };
  values = order.values;
}
  where
    many : (f : ℕ → ℕ) → length (map (λ (e : Entry). f e.col) l) ≡ length l
    many f = length-map l (λ (e : Entry). f e.col)

    at : (i : ℕ) → i < length l → get_or (map (λ (e : Entry). g e.col) l) i 0 ≡ get_or (map (λ (e : Entry). h e.col) l) i 0
    at i b = map_at (λ (e : Entry). g e.col) l i b ∙ same (entry_at l i).col (order.rows.at i b) ∙ sym (map_at (λ (e : Entry). h e.col) l i b)

-- an L row times U, where the rows that it names are the same
product_same : (p n k : ℕ) (v w : ℕ → ℕ → ℕ) (es l : List Entry) → Each (λ e. e.col < k) l → ((r : ℕ) → r < k → (j : ℕ) → j < n → w r j ≡ v r j) → ((j : ℕ) → j < n → times l v j % p ≡ value_of es j) → (j : ℕ) → j < n → times l w j % p ≡ value_of es j
product_same p n k v w es l rows same product j h = ap (λ (z : ℕ). z % p) (times_same l w v j (record { at = λ i c. same (entry_at l i).col (rows.at i c) j h })) ∙ product j h

module _ {p n : ℕ} {b d : Books} where
  spanned_same : {k i : ℕ} {es l : List Entry} → Alike n k i b d → Spanned p n k b es l → Spanned p n k d es l
  spanned_same {k} {i} {es} {l} a s = record { order = order_same a.heads s.order; product = product_same p n k b.value d.value es l s.order.rows a.values s.product }

  entered_same : {k g i : ℕ} {es l : List Entry} → Alike n (k + 1) i b d → Entered p n k g b es l → Entered p n k g d es l
  entered_same {k} {g} {i} {es} {l} a s =
      let named : Each (λ e. e.col < k + 1) l = rw s.last (each_more {l = s.before} {e = entry k s.diagonal} (record { at = λ r h. omega (arith, s.order.rows.at r h) }) (omega arith)) in
      record {
        within = s.within;
        head = a.heads k (omega arith) ∙ s.head;
        before = s.before;
        order = order_same (λ r h. a.heads r (omega arith)) s.order;
        diagonal = s.diagonal;
        value = s.value;
        last = s.last;
        product = product_same p n (k + 1) b.value d.value es l named a.values s.product;
      }

  -- the same ledger
  pub ledger_same : {ts : List Told} {k i : ℕ} → Alike n k i b d → Ledger p n b ts k i → Ledger p n d ts k i
  ledger_same a empty = empty
  ledger_same a (spared ts k i before es once) = spared ts k i (ledger_same a before) es once
  ledger_same a (spanned ts k i before es walks s) =
      spanned ts k i (ledger_same (alike_fewer a (omega arith) (omega arith)) before) es walks
      (subst (Spanned p n k d es) (sym (a.lines i (omega arith))) (spanned_same a s))
  ledger_same a (entered ts k i before es g walks s) =
      entered ts k i (ledger_same (alike_fewer a (omega arith) (omega arith)) before) es g walks
      (subst (Entered p n k g d es) (sym (a.lines i (omega arith))) (entered_same a s))
