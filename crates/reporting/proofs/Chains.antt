-- What the writers of the lines ask of one another, and how far each gets.
-- Assumes nothing.
use Rattle.std.specs.Prelude.{None, Some}
use mathlib.Core.Path.{◌≡◌, sym, ap, ◌∙◌}
use mathlib.Core.List.{List, [], ◌∷◌, ◌++◌, flatten, append_assoc}
use Prim.Native.Nat.{ℕ, ◌+◌, ◌≤◌}
use native.Mathlib.Omega.{arith}
use lib.ListN.{length, take, length-append}
use lib.Seq.{length-take-le}
use Rattle.solving.specs.Solve.{Worth}
use Rattle.sparse.specs.Matrix.{matrix}
use Rattle.sparse.specs.Rows.{entries}
use Rattle.text.specs.Asks.{RowsAt}
use Rattle.text.specs.Decimals.{decimal}
use Rattle.text.specs.Mma.{matrix_text}
use Rattle.text.specs.Writers.{Wrote, row_pieces, links, ending}
use Rattle.text.proofs.Digits.{decimal_most}
use Rattle.text.proofs.Pieces.{rows_far}
use Rattle.text.proofs.Texts.{matrix_text_lem}
use Rattle.reporting.specs.Asks.{RowsFrom}
use Rattle.reporting.specs.Text.{worth_text, heading}

pub worth_most : (w : Worth) → length (worth_text w) ≤ 20
unfolding worth_text
worth_most (Some v) = decimal_most v
worth_most None = omega arith

pub worth_far : (w : Worth) {at next : ℕ} {text left : List ℕ} → Wrote (worth_text w) at text next left → next ≤ at + 20
worth_far w h = omega (arith, h.next, worth_most w)

-- the lines of rank and determinant, as they are written
pub heading_text : (rank : ℕ) (det : Worth) → ((((114 ∷ 97 ∷ 110 ∷ 107 ∷ 32 ∷ []) ++ decimal rank) ++ (10 ∷ 100 ∷ 101 ∷ 116 ∷ 32 ∷ [])) ++ worth_text det) ++ (10 ∷ []) ≡ heading rank det
unfolding heading
heading_text rank det = simp append_assoc

pub heading_most : (rank : ℕ) (det : Worth) → length (heading rank det) ≤ 51
unfolding heading
heading_most rank det = simp length-append (omega (arith, decimal_most rank, worth_most det))

pub heading_far : (rank : ℕ) (det : Worth) {next : ℕ} {text left : List ℕ} → Wrote (heading rank det) 0 text next left → next ≤ 51
heading_far rank det w = omega (arith, w.next, heading_most rank det)

pub ending_most : (rows cols : ℕ) → length (ending rows cols) ≤ 46
unfolding ending
ending_most rows cols = simp length-append (omega (arith, decimal_most rows, decimal_most cols))

pub ending_far : (rows cols : ℕ) {at next : ℕ} {text left : List ℕ} → Wrote (ending rows cols) at text next left → next ≤ at + 46
ending_far rows cols w = omega (arith, w.next, ending_most rows cols)

module _ {rank fill place : ℕ} {cols vals ptrs : List ℕ} (ask : RowsFrom rank fill cols vals ptrs place) where
  abbrev vs : List ℕ
  vs = take fill vals

  long : length vs ≡ fill
  long = length-take-le fill vals ask.rows.numbers

  -- U's rows can be written
  pub rows_ask : {at : ℕ} → at ≤ place + 2 → RowsAt rank (take (rank + 1) ptrs) (take fill cols) vs at
  rows_ask {at} h = record {
    cut = rw long ask.rows.cut;
    starts = ask.rows.starts;
    same = length-take-le fill cols ask.rows.columns ∙ sym long;
    reach = record { fits = omega (arith, long, ask.rows.few, ask.near) };
  }

  pub upper_far : {at next : ℕ} {old text : List ℕ} → at ≤ place + 2 → Wrote (links 0 (flatten (row_pieces rank (take (rank + 1) ptrs) (entries (take fill cols) vs)))) at old next text → next ≤ 69207242
  upper_far h w = omega (arith, rows_far (rows_ask h) w, long, ask.rows.few, ask.near)

-- the line of U, as it is written
pub upper_text : (rank ncols : ℕ) (ptrs cols vals : List ℕ)
    → (((123 ∷ 123 ∷ []) ++ links 0 (flatten (row_pieces rank ptrs (entries cols vals)))) ++ ending rank ncols) ++ (10 ∷ []) ≡ matrix_text (matrix rank ncols ptrs cols vals) ++ (10 ∷ [])
upper_text rank ncols ptrs cols vals = ap (λ (l : List ℕ). l ++ (10 ∷ [])) (matrix_text_lem rank ncols ptrs cols vals)
