-- What a judgement without fault says of a row, its answer and its L row.
-- Assumes nothing.
use mathlib.Core.Path.{◌≡◌, sym, ap, ◌∙◌}
use mathlib.Core.Bool.{Bool, false, not, ◌&&◌, ◌||◌, cond}
use mathlib.Core.List.{List}
use Prim.Native.Nat.{ℕ, suc, ◌+◌, ◌-◌, ◌*◌, ◌%◌, ◌<◌}
use native.Mathlib.Nat.{mod-mod}
use native.Mathlib.Omega.{arith}
use borrow.Author.Tests.{leb-false, eqb-true, eqb-false, not-false, eq-eqb, ne_eqb}
use lib.Dec.{leb, ltb, eqb}
use lib.ListN.{length}
use Rattle.lists.specs.Find.{any}
use Rattle.lists.specs.Sum.{Σ}
use Rattle.lists.proofs.Find.{any_false}
use Rattle.sparse.specs.Matrix.{Matrix, value_at}
use Rattle.sparse.specs.Rows.{Entry}
use Rattle.sparse.proofs.Firsts.{neither}
use Rattle.state.specs.State.{head_of}
use Rattle.linear.proofs.Span.{Span, span_same, span_row, span_sum}
use Rattle.steps.specs.Rows.{value_of, entry_at, Storable, times}
use Rattle.steps.proofs.Entries.{times_span}
use Rattle.telling.specs.Answers.{none}
use Rattle.accounts.specs.Judgement.{unstorable, astray, diagonal, diagonal_fault, answer_fault, product_fault, judge_fault}

-- a value in 1..p-1
storable : (p v : ℕ) → unstorable p v ≡ false → Storable p v
unfolding unstorable
storable p v e =
    let f = neither (eqb v 0) (leb p v) e in
    record { pos = omega (arith, eqb-false v 0 f.0); below = leb-false p v f.1 }

-- an entry that isn't astray names an earlier row
pub names_earlier : (p : ℕ) (u : Matrix) (k : ℕ) (l : List Entry) (i : ℕ) → astray p u k l i ≡ false → (entry_at l i).col < k
unfolding astray
names_earlier p u k l i e =
    let falls = ltb 0 i && leb (head_of u (entry_at l i).col) (head_of u (entry_at l (i - 1)).col) in
    leb-false k (entry_at l i).col (neither (leb k (entry_at l i).col) falls (neither (leb k (entry_at l i).col || falls) (unstorable p (entry_at l i).value) e).0).0

-- the L row times U is the row
product_is : (p : ℕ) (u : Matrix) (l es : List Entry) → product_fault p u l es ≡ false → (j : ℕ) → j < u.ncols → times l (value_at u) j % p ≡ value_of es j
unfolding product_fault
product_is p u l es e j h = eqb-true _ _ (not-false _ (any_false u.ncols (λ j. not (eqb (times l (value_at u) j % p) (value_of es j))) e j h))

-- so, where its entries name earlier rows, the row is in their span
none_span : (p : ℕ) (u : Matrix) (k : ℕ) (l es : List Entry) → any (length l) (astray p u k l) ≡ false → product_fault p u l es ≡ false → Span p u.ncols k (value_at u) (value_of es)
none_span p u k l es e f =
    span_same (λ j h. ap (λ (z : ℕ). z % p) (sym (product_is p u l es f j h)) ∙ mod-mod (times l (value_at u) j) p)
    (times_span l (value_at u) (record { at = λ i h. names_earlier p u k l i (any_false (length l) (astray p u k l) e i h) }))

-- an accepted row: it is a row of the span of U's rows before k and a multiple of U's row k, which has its head at the answer
pub record Accepts (p : ℕ) (u : Matrix) (k a : ℕ) (es : List Entry) : Type 0 where
  pub low : k < u.nrows
  pub head : a ≡ head_of u k
  pub before : ℕ → ℕ
  pub spanned : Span p u.ncols k (value_at u) before
  pub factor : ℕ
  pub stored : Storable p factor
  pub sums : (j : ℕ) → j < u.ncols → value_of es j % p ≡ (before j + factor * value_at u k j) % p

module _ (p : ℕ) (u : Matrix) (k a : ℕ) (l es : List Entry) (fits : answer_fault u k a ≡ false) (ends : diagonal_fault p u k l ≡ false) (product : product_fault p u l es ≡ false) where
  abbrev many : ℕ
  many = length l - 1

  abbrev empty : Bool
  empty = eqb (length l) 0

  abbrev wrong : Bool
  wrong = any (length l - 1) (astray p u k l)

  abbrev foreign : Bool
  foreign = not (eqb (diagonal l).col k)

  parts : (empty || wrong || foreign ≡ false) × (unstorable p (diagonal l).value ≡ false)
  unfolding diagonal_fault
  parts = neither (empty || wrong || foreign) (unstorable p (diagonal l).value) ends

  inner : (empty || wrong ≡ false) × (foreign ≡ false)
  inner = neither (empty || wrong) foreign parts.0

  long : length l ≡ suc many
  long = let some = eqb-false (length l) 0 (neither empty wrong inner.0).0 in omega (arith, some)

  own : (entry_at l many).col ≡ k
  unfolding diagonal
  own = eqb-true (diagonal l).col k (not-false (eqb (diagonal l).col k) inner.1)

  abbrev term : ℕ → ℕ → ℕ
  term j i = (entry_at l i).value * value_at u (entry_at l i).col j

  product_parts : (j : ℕ) → times l (value_at u) j ≡ Σ many (term j) + (entry_at l many).value * value_at u k j
  unfolding times Σ
  product_parts j =
      ap (λ (m : ℕ). Σ m (term j)) long
      ∙ ap (λ (c : ℕ). Σ many (term j) + (entry_at l many).value * value_at u c j) own

  accepts_row : Accepts p u k a es
  unfolding answer_fault diagonal
  accepts_row = record {
    low = leb-false u.nrows k (neither (leb u.nrows k) (not (eqb a (head_of u k))) fits).0;
    head = eqb-true a (head_of u k) (not-false (eqb a (head_of u k)) (neither (leb u.nrows k) (not (eqb a (head_of u k))) fits).1);
    before = λ j. Σ many (term j);
    spanned = span_sum many (λ i. value_at u (entry_at l i).col) (λ i. (entry_at l i).value) (λ i h. span_row (entry_at l i).col (names_earlier p u k l i (any_false many (astray p u k l) (neither empty wrong inner.0).1 i h)));
    factor = (diagonal l).value;
    stored = storable p (diagonal l).value parts.1;
    sums = λ j h. ap (λ (z : ℕ). z % p) (sym (product_is p u l es product j h)) ∙ mod-mod (times l (value_at u) j) p ∙ ap (λ (z : ℕ). z % p) (product_parts j);
  }

-- a row with an L row, judged without fault, by its answer
module _ (p : ℕ) (u : Matrix) (k a : ℕ) (l es : List Entry) (right : judge_fault p u k es a l ≡ false) where
  abbrev named : Bool
  named = any (length l) (astray p u k l)

  abbrev led : Bool
  led = answer_fault u k a || diagonal_fault p u k l

  both : (cond (eqb a none) named led ≡ false) × (product_fault p u l es ≡ false)
  unfolding judge_fault
  both = neither (cond (eqb a none) named led) (product_fault p u l es) right

  -- None: it is in the span of U's first k rows
  pub judged_none : a ≡ none → Span p u.ncols k (value_at u) (value_of es)
  judged_none e = let f : named ≡ false = rw (eq-eqb a none e) at both.0 in none_span p u k l es f both.1

  -- accepted
  pub judged_accepts : (a ≡ none → ⊥) → Accepts p u k a es
  judged_accepts e =
      let f : led ≡ false = rw (ne_eqb a none e) at both.0 in
      let s = neither (answer_fault u k a) (diagonal_fault p u k l) f in
      accepts_row p u k a l es s.0 s.1 both.1
