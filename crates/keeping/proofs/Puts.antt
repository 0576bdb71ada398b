-- Lists with something written from a place on: what stood before it stays, and what is written stands there.
-- Assumes nothing.
use mathlib.Core.Path.{◌≡◌, sym, ap, ap₂, ◌∙◌}
use mathlib.Core.List.{List, ◌++◌, append_assoc}
use Prim.Native.Nat.{ℕ, ◌+◌, ◌-◌, ◌≤◌, ◌<◌}
use native.Mathlib.Omega.{arith}
use lib.ListN.{length, get_or, take, drop, set, length-append}
use lib.Seq.{length-take-le, take_at, drop_at, take-append_seam, get_or-take, get_or-set_same, get_or-set_other}
use Rattle.sparse.specs.Matrix.{part, row}
use Rattle.meaning.proofs.Parts.{get_d_part}
use Rattle.states.proofs.Echelons.{part_front}
use Rattle.writing.specs.Puts.{put_at}
use Rattle.writing.proofs.Puts.{length-put_at}

module _ (at : ℕ) (xs old : List ℕ) (fits : at + length xs ≤ length old) where
  front_long : length (take at old) ≡ at
  front_long = length-take-le at old (omega arith)

  -- the front, as it was
  put_front : take at (put_at at xs old) ≡ take at old
  unfolding put_at
  put_front = take_at (take at old) (xs ++ drop (at + length xs) old) at front_long

  pub put_before : (k : ℕ) → k < at → get_or (put_at at xs old) k 0 ≡ get_or old k 0
  put_before k h = sym (get_or-take at (put_at at xs old) k 0 h) ∙ ap (λ (l : List ℕ). get_or l k 0) put_front ∙ get_or-take at old k 0 h

  pub part_before : (a b : ℕ) → b ≤ at → part a b (put_at at xs old) ≡ part a b old
  part_before a b h =
      sym (part_front a b at (put_at at xs old) h (omega (arith, length-put_at at xs old fits)))
      ∙ ap (part a b) put_front
      ∙ part_front a b at old h (omega arith)

  -- the front and what is written
  pub put_whole : take (at + length xs) (put_at at xs old) ≡ take at old ++ xs
  unfolding put_at
  put_whole =
      let long : length (take at old ++ xs) ≡ at + length xs = simp length-append (ap (λ (n : ℕ). n + length xs) front_long) in
      ap (take (at + length xs)) (sym (append_assoc (take at old) xs (drop (at + length xs) old))) ∙ take_at (take at old ++ xs) (drop (at + length xs) old) (at + length xs) long

  -- what is written
  pub part_written : part at (at + length xs) (put_at at xs old) ≡ xs
  unfolding part put_at
  part_written =
      let size : at + length xs - at ≡ length xs = omega arith in
      ap₂ (λ (n : ℕ) (l : List ℕ). take n l) size (drop_at (take at old) (xs ++ drop (at + length xs) old) at front_long) ∙ take-append_seam xs (drop (at + length xs) old)

  pub put_there : (k : ℕ) → k < length xs → get_or (put_at at xs old) (at + k) 0 ≡ get_or xs k 0
  put_there k h = sym (get_d_part at (at + length xs) (put_at at xs old) k 0 (omega arith)) ∙ ap (λ (l : List ℕ). get_or l k 0) part_written

-- rows, of which the pointers up to row `rows` are there, and one more is written
module _ (rows fill len : ℕ) (ptrs : List ℕ) (place : rows + 1 < length ptrs) where
  pub pointer_kept : (r : ℕ) → r ≤ rows → get_or (set ptrs (rows + 1) (fill + len)) r 0 ≡ get_or ptrs r 0
  pointer_kept r h = get_or-set_other ptrs (rows + 1) r (fill + len) 0 (λ e. omega arith)

  pub pointer_new : get_or (set ptrs (rows + 1) (fill + len)) (rows + 1) 0 ≡ fill + len
  pointer_new = get_or-set_same ptrs (rows + 1) (fill + len) 0 place

  module _ (xs old : List ℕ) (many : length xs ≡ len) (fits : fill + len ≤ length old) where
    enough : fill + length xs ≤ length old
    enough = omega arith

    pub row_kept : (r : ℕ) → r < rows → get_or ptrs (r + 1) 0 ≤ fill → row (set ptrs (rows + 1) (fill + len)) (put_at fill xs old) r ≡ row ptrs old r
    unfolding row
    row_kept r h within =
        ap₂ (λ (a b : ℕ). part a b (put_at fill xs old)) (pointer_kept r (omega arith)) (pointer_kept (r + 1) (omega arith))
        ∙ part_before fill xs old enough (get_or ptrs r 0) (get_or ptrs (r + 1) 0) within

    pub row_new : get_or ptrs rows 0 ≡ fill → row (set ptrs (rows + 1) (fill + len)) (put_at fill xs old) rows ≡ xs
    unfolding row
    row_new ends =
        ap₂ (λ (a b : ℕ). part a b (put_at fill xs old)) (pointer_kept rows (omega arith) ∙ ends) (pointer_new ∙ ap (λ (n : ℕ). fill + n) (sym many))
        ∙ part_written fill xs old enough
