-- Memory that is a state: U's rows are in echelon form, and each pivot's row has its head there.
-- Assumes nothing.
use Rattle.std.specs.Prelude.{Ok, is_err}
use mathlib.Core.Path.{◌≡◌, refl, sym, ap, ap₂, subst, ◌∙◌}
use mathlib.Core.Bool.{Bool, false, not, ◌&&◌, ◌||◌}
use mathlib.Core.List.{List}
use Prim.Native.Nat.{ℕ, ◌+◌, ◌-◌, ◌%◌, ◌≤◌, ◌<◌}
use native.Mathlib.Omega.{arith}
use borrow.Author.Tests.{leb-false, eqb-true, not-false, ne_eqb}
use lib.Dec.{eqb, leb}
use lib.ListN.{length, get_or, take}
use lib.Seq.{get_or-take, ext_get_or, length-take-le}
use Rattle.lists.specs.Find.{any}
use Rattle.lists.proofs.Find.{any_false}
use Rattle.sparse.specs.Matrix.{Matrix, matrix, part, row}
use Rattle.sparse.specs.Pivots.{mark}
use Rattle.sparse.specs.Tests.{clean, well_formed}
use Rattle.sparse.proofs.Cuts.{Laid, formed_laid, formed_rows, row_in, Within}
use Rattle.sparse.proofs.Firsts.{neither, lowest_good}
use Rattle.meaning.proofs.Parts.{length_part, get_d_part}
use Rattle.meaning.proofs.RowColumns.{row_climbs, column_low}
use Rattle.meaning.proofs.Values.{Climbs}
use Rattle.state.specs.Asks.{Opened}
use Rattle.state.specs.State.{head_of, headless, misplaced, u_fault, u_lost, u_rows}
use Rattle.state.proofs.Faults.{Held, lost_none, not_refused}
use Rattle.walk.specs.Asks.{PivotRow, Pivoted}
use Rattle.walk.specs.Step.{upper, pivot_at}
use Rattle.walk.proofs.PivotRows.{pivot_beyond}
use Rattle.steps.specs.Setting.{Echelon}

-- a part that lies within the front is the whole list's
pub part_front : (a b n : ℕ) (xs : List ℕ) → b ≤ n → n ≤ length xs → part a b (take n xs) ≡ part a b xs
part_front a b n xs h fits =
    let short : length (take n xs) ≡ n = length-take-le n xs fits in
    let front : length (part a b (take n xs)) ≡ b - a = length_part a b (take n xs) (omega arith) in
    let whole : length (part a b xs) ≡ b - a = length_part a b xs (omega arith) in
    ext_get_or 0 (part a b (take n xs)) (part a b xs) (front ∙ sym whole)
    (λ i l. get_d_part a b (take n xs) i 0 (omega arith) ∙ get_or-take n xs (a + i) 0 (omega arith) ∙ sym (get_d_part a b xs i 0 (omega arith)))

module _ (p n rank fill : ℕ) (cols vals ptrs pivots : List ℕ) (o : Opened p n pivots)
    (found : u_lost rank fill cols vals ptrs ≡ false) (sound : u_fault p (u_rows n rank fill cols vals ptrs) pivots ≡ false) where
  held : Held rank fill cols vals ptrs
  held = lost_none rank fill cols vals ptrs found

  abbrev u : Matrix
  u = matrix rank n (take (rank + 1) ptrs) (take fill cols) (take fill vals)

  faults : (is_err (clean 1048576 p u) || any rank (headless u pivots) ≡ false) × (any n (misplaced u pivots) ≡ false)
  unfolding u_fault u_rows
  faults = neither _ _ sound

  pub state_clean : clean 1048576 p u ≡ Ok tt
  state_clean = not_refused _ (neither (is_err (clean 1048576 p u)) (any rank (headless u pivots)) faults.0).0

  tidy : well_formed 1048576 p u ≡ Ok tt
  unfolding clean
  tidy = (lowest_good _ _ state_clean).0

  pub lies : Laid u
  lies = formed_laid 1048576 p u tidy

  -- pointers, entries and heads, as they stand in memory
  pub ptr : (r : ℕ) → r ≤ rank → get_or (take (rank + 1) ptrs) r 0 ≡ get_or ptrs r 0
  ptr r h = get_or-take (rank + 1) ptrs r 0 (omega arith)

  pub within : (r : ℕ) → r < rank → Within (get_or ptrs r 0) (get_or ptrs (r + 1) 0) fill
  within r h =
      let w : Within (get_or (take (rank + 1) ptrs) r 0) (get_or (take (rank + 1) ptrs) (r + 1) 0) (length (take fill vals)) = row_in lies.rows h in
      record { rises = omega (arith, w.rises, ptr r (omega arith), ptr (r + 1) (omega arith)); fits = omega (arith, w.fits, ptr (r + 1) (omega arith), length-take-le fill vals held.numbers) }

  pub head_at : ℕ → ℕ
  head_at r = get_or cols (get_or ptrs r 0) 0

  -- what a row's own test gives
  headed : (r : ℕ) → r < rank → headless u pivots r ≡ false
  headed r h = any_false rank (headless u pivots) (neither (is_err (clean 1048576 p u)) (any rank (headless u pivots)) faults.0).1 r h

  abbrev empty : ℕ → Bool
  empty r = leb (get_or (take (rank + 1) ptrs) (r + 1) 0) (get_or (take (rank + 1) ptrs) r 0)

  abbrev unlike : ℕ → Bool
  unlike r = not (eqb (get_or (take fill vals) (get_or (take (rank + 1) ptrs) r 0) 0) 1)

  abbrev astray : ℕ → Bool
  astray r = not (eqb (get_or pivots (head_of u r) 0) r)

  parts : (r : ℕ) → r < rank → (empty r || unlike r ≡ false) × (astray r ≡ false)
  unfolding headless
  parts r h = neither (empty r || unlike r) (astray r) (headed r h)

  filled : (r : ℕ) → r < rank → get_or ptrs r 0 < get_or ptrs (r + 1) 0
  filled r h =
      let e : leb (get_or (take (rank + 1) ptrs) (r + 1) 0) (get_or (take (rank + 1) ptrs) r 0) ≡ false = (neither (empty r) (unlike r) (parts r h).0).0 in
      omega (arith, leb-false (get_or (take (rank + 1) ptrs) (r + 1) 0) (get_or (take (rank + 1) ptrs) r 0) e, ptr r (omega arith), ptr (r + 1) (omega arith))

  low : (r : ℕ) → r < rank → get_or ptrs r 0 < fill
  low r h = omega (arith, filled r h, (within r h).fits)

  head_here : (r : ℕ) → r < rank → head_of u r ≡ head_at r
  unfolding head_of head_at
  head_here r h = ap (λ (k : ℕ). get_or (take fill cols) k 0) (ptr r (omega arith)) ∙ get_or-take fill cols (get_or ptrs r 0) 0 (low r h)

  one : (r : ℕ) → r < rank → get_or vals (get_or ptrs r 0) 0 ≡ 1
  one r h =
      let e : get_or (take fill vals) (get_or (take (rank + 1) ptrs) r 0) 0 ≡ 1 = eqb-true _ 1 (not-false _ (neither (empty r) (unlike r) (parts r h).0).1) in
      sym (ap (λ (k : ℕ). get_or (take fill vals) k 0) (ptr r (omega arith)) ∙ get_or-take fill vals (get_or ptrs r 0) 0 (low r h)) ∙ e

  placed : (r : ℕ) → r < rank → get_or pivots (head_at r) 0 ≡ r
  placed r h =
      let e : get_or pivots (head_of u r) 0 ≡ r = eqb-true _ r (not-false _ (parts r h).1) in
      ap (λ (k : ℕ). get_or pivots k 0) (sym (head_here r h)) ∙ e

  pub head_within : (r : ℕ) → r < rank → head_at r < n
  unfolding head_at
  head_within r h =
      let long : length (take fill cols) ≡ fill = length-take-le fill cols held.columns in
      let q : get_or (take fill cols) (get_or ptrs r 0) 0 < n = column_low u (formed_rows 1048576 p u tidy) lies (get_or ptrs r 0) (omega (arith, low r h)) in
      subst (λ (k : ℕ). k < n) (get_or-take fill cols (get_or ptrs r 0) 0 (low r h)) q

  climbing : (r : ℕ) → r < rank → Climbs n (row ptrs cols r)
  unfolding row
  climbing r h =
      subst (Climbs n)
      (ap₂ (λ (a b : ℕ). part a b (take fill cols)) (ptr r (omega arith)) (ptr (r + 1) (omega arith)) ∙ part_front (get_or ptrs r 0) (get_or ptrs (r + 1) 0) fill cols (within r h).fits held.columns)
      (row_climbs u (formed_rows 1048576 p u tidy) r h)

  -- row r of U at its head
  pub state_row : (r : ℕ) → r < rank → PivotRow n (head_at r) cols vals ptrs r
  unfolding head_at
  state_row r h = record {
    pointer = omega (arith, held.pointers);
    filled = filled r h;
    columns = omega (arith, (within r h).fits, held.columns);
    numbers = omega (arith, (within r h).fits, held.numbers);
    climbs = climbing r h;
    starts = refl;
    one = one r h;
  }

  -- what the table has at a column but the mark
  named : (c : ℕ) → c < n → (get_or pivots c 0 ≡ mark → ⊥) → (get_or pivots c 0 < rank) × (head_at (get_or pivots c 0) ≡ c)
  unfolding misplaced
  named c h ne =
      let e : (not (eqb (get_or pivots c 0) mark) && (leb rank (get_or pivots c 0) || not (eqb (head_of u (get_or pivots c 0)) c))) ≡ false = any_false n (misplaced u pivots) faults.1 c h in
      let b : leb rank (get_or pivots c 0) || not (eqb (head_of u (get_or pivots c 0)) c) ≡ false = rw (ne_eqb (get_or pivots c 0) mark ne) at e in
      let l : get_or pivots c 0 < rank = leb-false rank (get_or pivots c 0) (neither (leb rank (get_or pivots c 0)) (not (eqb (head_of u (get_or pivots c 0)) c)) b).0 in
      (l, sym (head_here (get_or pivots c 0) l) ∙ eqb-true (head_of u (get_or pivots c 0)) c (not-false _ (neither (leb rank (get_or pivots c 0)) (not (eqb (head_of u (get_or pivots c 0)) c)) b).1))

  pub state_pivoted : Pivoted n cols vals ptrs pivots
  state_pivoted = record {
    table = o.table;
    rows = λ c h ne. let q = named c h ne in subst (λ (k : ℕ). PivotRow n k cols vals ptrs (get_or pivots c 0)) q.1 (state_row (get_or pivots c 0) q.0);
  }

  pub state_echelon : Echelon p n rank (upper cols vals ptrs pivots) head_at
  unfolding upper pivot_at
  state_echelon = record {
    heads = record {
      within = head_within;
      one = λ r h. ap (λ (x : ℕ). x % p) (pivot_beyond (state_row r h)).head;
      before = λ r h j l. ap (λ (x : ℕ). x % p) ((pivot_beyond (state_row r h)).before j l);
      apart = λ i e a b q. sym (placed i a) ∙ ap (λ (c : ℕ). get_or pivots c 0) q ∙ placed e b;
    };
    table = record {
      wide = o.wide;
      long = o.table;
      holds = placed;
      row = λ c h ne. (named c h ne).0;
      head = λ c h ne. (named c h ne).1;
    };
  }
