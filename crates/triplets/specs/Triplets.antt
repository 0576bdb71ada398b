-- Building from triplets: the table's clauses 1, 2, 3, 6, 8, 9 and 14, and the matrix that is built.
use Rattle.sparse.specs.Put.{Built}
use Rattle.std.specs.Prelude.{ℕ, ◌+◌, ◌-◌, Bool, not, ◌&&◌, ◌||◌, List, [], ◌∷◌, map, leb, ltb, eqb, length, get_or, Err, Ok}
use Rattle.lists.specs.Find.{count}
use Rattle.lists.specs.Onto.{◌onto◌}
use Rattle.lists.specs.Table.{table}
use Rattle.sparse.specs.Lent.{Lent, lent, room_test, Outcome, outcome, unless}
use Rattle.sparse.specs.Refusals.{refuse, lowest, first_of, Tested}
use Rattle.sparse.specs.Tests.{modulus_test, size_test, values_test}
use Rattle.sparse.specs.declared.Refusal.TheVariants.{Shape, Outside, Order}
use Rattle.sparse.specs.declared.inside.Clause.TheVariants.{Residue}

pub record Triplet : Type 0 where
  pub row : ℕ
  pub col : ℕ
  pub value : ℕ

abbrev pub triplet : ℕ → ℕ → ℕ → Triplet
triplet i j v = record { row = i; col = j; value = v }

-- the triplets whose rows, columns and values are lent
unfoldable pub triplets : List ℕ → List ℕ → List ℕ → List Triplet
triplets rows cols vals = table (length vals) (λ k. triplet (get_or rows k 0) (get_or cols k 0) (get_or vals k 0))

-- 3: the triplets' parts differ in number
unfoldable pub parts_test : List ℕ → List ℕ → List ℕ → Tested
parts_test rows cols vals = refuse (not (eqb (length rows) (length vals)) || not (eqb (length cols) (length vals))) Shape

-- triplet k
unfoldable pub at : List Triplet → ℕ → Triplet
at ts k = get_or ts k (triplet 0 0 0)

-- 8: a triplet lies outside the shape
unfoldable pub place_test : ℕ → ℕ → Triplet → Tested
place_test nrows ncols t = refuse (leb nrows t.row || leb ncols t.col) Outside

unfoldable pub places_test : ℕ → ℕ → List Triplet → Tested
places_test nrows ncols ts = first_of (length ts) (λ k. place_test nrows ncols (at ts k))

-- s stands before t by (row, column)
unfoldable pub before : Triplet → Triplet → Bool
before s t = ltb s.row t.row || eqb s.row t.row && ltb s.col t.col

-- 9: triplets don't strictly rise by (row, column)
unfoldable pub step_test : List Triplet → ℕ → Tested
step_test ts k = refuse (ltb 0 k && not (before (at ts (k - 1)) (at ts k))) Order

unfoldable pub order_test : List Triplet → Tested
order_test ts = first_of (length ts) (step_test ts)

-- row i starts after the entries of the rows before it
unfoldable pub start_of : List ℕ → ℕ → ℕ
start_of rows i = count (λ r. ltb r i) rows

-- the matrix of ordered triplets, stored zeros kept, at the front of lent memory
unfoldable pub written : ℕ → List Triplet → Lent → Lent
written nrows ts l =
    lent
    (table (nrows + 1) (start_of (map (λ t. t.row) ts)) onto l.row_ptrs)
    (map (λ t. t.col) ts onto l.col_idcs)
    (map (λ t. t.value) ts onto l.values)

-- 1, 2, 3, 6, 8 and 9
unfoldable pub triplets_test : ℕ → ℕ → ℕ → List ℕ → List ℕ → List ℕ → Tested
triplets_test p nrows ncols rows cols vals =
    lowest
    (modulus_test p
    ∷ size_test 65536 nrows ncols (length vals)
    ∷ parts_test rows cols vals
    ∷ values_test Residue p vals
    ∷ places_test nrows ncols (triplets rows cols vals)
    ∷ order_test (triplets rows cols vals)
    ∷ [])

-- the call: refused by one of those or by 14, else built
unfoldable pub from_triplets : ℕ → ℕ → ℕ → List ℕ → List ℕ → List ℕ → Lent → Outcome Built Lent
from_triplets p nrows ncols rows cols vals l =
    unless Err (lowest (triplets_test p nrows ncols rows cols vals ∷ room_test nrows (length vals) l ∷ [])) l
    (outcome (Ok (length vals)) (written nrows (triplets rows cols vals) l))
