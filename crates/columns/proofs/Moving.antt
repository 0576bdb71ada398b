-- Columns moved one after the other, in place: the first k are moved, the rest as they came.
-- Assumes nothing.
use mathlib.Core.Path.{◌≡◌, ap, ◌∙◌}
use mathlib.Core.List.{List, map}
use Prim.Native.Nat.{ℕ, ◌+◌, ◌≤◌, ◌<◌}
use native.Mathlib.Omega.{arith}
use lib.Dec.{leb}
use lib.ListN.{length, get_or, take, set, length-map}
use lib.Seq.{length-take-le}
use Rattle.lists.specs.Find.{count}
use Rattle.lists.specs.Onto.{◌onto◌}
use Rattle.lists.proofs.Ontos.{onto_kept, done_none, done_more, done_all}
use Rattle.columns.specs.Asks.{Movable}
use Rattle.columns.specs.Positions.{moved}

pub record Moving (ps old cols : List ℕ) (k : ℕ) : Type 0 where
  pub within : k ≤ length old
  pub done : cols ≡ map (moved ps) (take k old) onto old

pub moving_none : (ps old : List ℕ) → Moving ps old old 0
moving_none ps old = record { within = omega arith; done = done_none (moved ps) old }

module _ {ps old cols : List ℕ} {k : ℕ} (m : Moving ps old cols k) where
  -- the next column is as it came
  pub next_kept : k < length old → get_or cols k 0 ≡ get_or old k 0
  next_kept h =
      let long : length (map (moved ps) (take k old)) ≡ k = length-map (take k old) (moved ps) ∙ length-take-le k old (omega arith) in
      ap (λ (l : List ℕ). get_or l k 0) m.done ∙ onto_kept (map (moved ps) (take k old)) old k 0 (omega arith) (omega arith)

  pub next_low : Movable ps old → k < length old → get_or cols k 0 ≤ 1024
  next_low ok h = omega (arith, next_kept h, ok.low k h)

  next_moved : k < length old → (up : ℕ) → up ≡ count (λ q. leb q (get_or cols k 0)) ps → set cols k (get_or cols k 0 + up) ≡ map (moved ps) (take (k + 1) old) onto old
  unfolding moved
  next_moved below up e =
      ap (λ (n : ℕ). set cols k (get_or cols k 0 + n)) e
      ∙ ap (λ (c : ℕ). set cols k (moved ps c)) (next_kept below)
      ∙ ap (λ (l : List ℕ). set l k (moved ps (get_or old k 0))) m.done
      ∙ done_more (moved ps) old k 0 below

  pub moving_more : k < length old → (up : ℕ) → up ≡ count (λ q. leb q (get_or cols k 0)) ps → Moving ps old (set cols k (get_or cols k 0 + up)) (k + 1)
  moving_more h up e = record { within = omega arith; done = next_moved h up e }

  pub moving_all : length old ≤ k → cols ≡ map (moved ps) old
  moving_all h = m.done ∙ done_all (moved ps) old k (omega arith)
