-- Triplets lent in three parts: how many, each by its place, and the parts again.
-- Assumes nothing.
use mathlib.Core.Path.{◌≡◌, refl, sym, ap, ◌∙◌}
use mathlib.Core.List.{List, map}
use Prim.Native.Nat.{ℕ, ◌<◌}
use lib.ListN.{length, get_or}
use Rattle.lists.specs.Table.{table}
use Rattle.lists.proofs.Tables.{length-table, get_or-table, map-table, table_ext, table_get_or}
use Rattle.triplets.specs.Asks.{Parts}
use Rattle.triplets.specs.Triplets.{Triplet, triplet, triplets, at}

module _ (rows cols vals : List ℕ) where
  -- triplet k of them
  abbrev nth : ℕ → Triplet
  nth k = triplet (get_or rows k 0) (get_or cols k 0) (get_or vals k 0)

  pub length-triplets : length (triplets rows cols vals) ≡ length vals
  unfolding triplets
  length-triplets = length-table (length vals) nth

  pub at_triplets : (k : ℕ) → k < length vals → at (triplets rows cols vals) k ≡ triplet (get_or rows k 0) (get_or cols k 0) (get_or vals k 0)
  unfolding triplets at
  at_triplets k h = get_or-table (length vals) nth k (triplet 0 0 0) h

  -- a list of as many elements, made of the triplets
  part_back : (part : Triplet → ℕ) (xs : List ℕ) → length xs ≡ length vals → ((k : ℕ) → part (nth k) ≡ get_or xs k 0) → map part (triplets rows cols vals) ≡ xs
  unfolding triplets
  part_back part xs many e =
      map-table part (length vals) nth ∙ ap (λ (n : ℕ). table n (λ k. part (nth k))) (sym many) ∙ table_ext (length xs) (λ k. part (nth k)) (λ k. get_or xs k 0) (λ k below. e k) ∙ table_get_or xs 0

  pub rows_back : Parts rows cols vals → map (λ (t : Triplet). t.row) (triplets rows cols vals) ≡ rows
  rows_back p = part_back (λ t. t.row) rows p.row_each (λ k. refl)

  pub cols_back : Parts rows cols vals → map (λ (t : Triplet). t.col) (triplets rows cols vals) ≡ cols
  cols_back p = part_back (λ t. t.col) cols p.col_each (λ k. refl)

  pub vals_back : map (λ (t : Triplet). t.value) (triplets rows cols vals) ≡ vals
  vals_back = part_back (λ t. t.value) vals refl (λ k. refl)
