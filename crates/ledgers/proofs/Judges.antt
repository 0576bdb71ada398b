-- A row of a ledger is judged without fault.
-- Assumes nothing.
use mathlib.Core.Path.{◌≡◌, refl, sym}
use mathlib.Core.Bool.{false, not, ◌&&◌}
use mathlib.Core.List.{List, [], ◌∷◌, ◌++◌}
use Prim.Native.Nat.{ℕ, ◌+◌, ◌-◌, ◌%◌, ◌<◌}
use native.Mathlib.Decide.{dec_lt}
use native.Mathlib.Omega.{arith}
use borrow.Author.Tests.{eq-eqb, ne_eqb, lt-ltb, le-ltb, lt-leb}
use lib.Dec.{eqb, leb, ltb}
use lib.ListN.{length, length-append, get_or-append}
use lib.Seq.{get_or_at}
use Rattle.lists.proofs.Find.{any_none}
use Rattle.sparse.specs.Matrix.{Matrix, value_at}
use Rattle.sparse.specs.Rows.{Entry, entry}
use Rattle.state.specs.State.{head_of}
use Rattle.steps.specs.Rows.{value_of, entry_at, Storable, LRow, times}
use Rattle.steps.proofs.Orders.{l_rises}
use Rattle.telling.specs.Answers.{none}
use Rattle.accounts.specs.Judgement.{unstorable, astray, diagonal, diagonal_fault, answer_fault, product_fault, judge_fault}
use Rattle.ledgers.proofs.Ledgers.{Books, books, Spanned, Entered}

-- U's rows as they stand in a matrix, and L's rows
abbrev pub books_of : Matrix → (ℕ → List Entry) → Books
books_of u line = books (value_at u) (head_of u) line

storable_fine : (p v : ℕ) → Storable p v → unstorable p v ≡ false
unfolding unstorable
storable_fine p v s = rw (ne_eqb v 0 (λ e. omega (arith, s.pos)), lt-leb p v s.below)

module _ (p n : ℕ) (u : Matrix) (k : ℕ) where
  module _ (l : List Entry) (order : LRow p n k (head_of u) l) where
    climbs : (i : ℕ) → i < length l → Dec (0 < i) → (ltb 0 i && leb (head_of u (entry_at l i).col) (head_of u (entry_at l (i - 1)).col)) ≡ false
    climbs i h (yes b) = rw (lt-ltb 0 i b, lt-leb (head_of u (entry_at l i).col) (head_of u (entry_at l (i - 1)).col) (l_rises order (i - 1) i (omega arith) h))
    climbs i h (no b) = rw (le-ltb 0 i (omega arith))

    -- no entry of an L row is astray
    order_fine : (i : ℕ) → i < length l → astray p u k l i ≡ false
    unfolding astray
    order_fine i h = rw (lt-leb k (entry_at l i).col (order.rows.at i h), climbs i h (dec_lt 0 i), storable_fine p (entry_at l i).value (order.values.at i h))

  -- nor of one with its diagonal last
  module _ (l : List Entry) (order : LRow p n k (head_of u) l) (d : ℕ) (value : Storable p d) where
    abbrev all : List Entry
    all = l ++ (entry k d ∷ [])

    before : (i : ℕ) → i < length l → entry_at all i ≡ entry_at l i
    before i h = get_or-append l (entry k d ∷ []) (entry 0 0) i h

    astray_before : (i : ℕ) → i < length l → astray p u k all i ≡ false
    unfolding astray
    astray_before i h = go (dec_lt 0 i)
      where
        go : Dec (0 < i) → astray p u k all i ≡ false
        go (yes b) = rw (before i h, before (i - 1) (omega arith)) (order_fine l order i h)
        go (no b) = rw (before i h, le-ltb 0 i (omega arith), lt-leb k (entry_at l i).col (order.rows.at i h), storable_fine p (entry_at l i).value (order.values.at i h))

    many : length all ≡ length l + 1
    many = length-append l (entry k d ∷ [])

    last : diagonal all ≡ entry k d
    unfolding diagonal
    last = get_or_at l (entry k d) [] (entry 0 0) (length all - 1) (omega (arith, many))

    diagonal_fine : diagonal_fault p u k all ≡ false
    unfolding diagonal_fault
    diagonal_fine = rw (
      ne_eqb (length all) 0 (λ e. omega (arith, many)),
      any_none (length all - 1) (astray p u k all) (λ i h. astray_before i (omega (arith, many))),
      last,
      eq-eqb k k refl,
      storable_fine p d value,
    )

product_fine : (p : ℕ) (u : Matrix) (l es : List Entry) → ((j : ℕ) → j < u.ncols → times l (value_at u) j % p ≡ value_of es j) → product_fault p u l es ≡ false
unfolding product_fault
product_fine p u l es product = any_none u.ncols (λ j. not (eqb (times l (value_at u) j % p) (value_of es j))) (λ j h. rw (eq-eqb (times l (value_at u) j % p) (value_of es j) (product j h)))

module _ (p : ℕ) (u : Matrix) (k : ℕ) (es l : List Entry) (line : ℕ → List Entry) where
  pub spanned_judged : Spanned p u.ncols k (books_of u line) es l → judge_fault p u k es none l ≡ false
  unfolding judge_fault
  spanned_judged s = rw (
    eq-eqb none none refl,
    any_none (length l) (astray p u k l) (order_fine p u.ncols u k l s.order),
    product_fine p u l es s.product,
  )

  pub entered_judged : (g : ℕ) → (g ≡ none → ⊥) → k < u.nrows → Entered p u.ncols k g (books_of u line) es l → judge_fault p u k es g l ≡ false
  unfolding judge_fault answer_fault
  entered_judged g apart low s =
      let fine : diagonal_fault p u k l ≡ false = rw s.last (diagonal_fine p u.ncols u k s.before s.order s.diagonal s.value) in
      rw (
        ne_eqb g none apart,
        lt-leb u.nrows k low,
        eq-eqb g (head_of u k) (sym s.head),
        fine,
        product_fine p u l es s.product,
      )
