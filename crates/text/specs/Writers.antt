-- What the writers leave in the text, and the pieces in the order in which they are written.
use Rattle.std.specs.Prelude.{◌≡◌, ℕ, zero, suc, ◌+◌, List, [], ◌∷◌, ◌++◌, map, length}
use Rattle.std.proofs.lemmas.List.Edits.{sets}
use Rattle.lists.specs.Table.{table}
use Rattle.sparse.specs.Matrix.{row}
use Rattle.sparse.specs.Rows.{Entry}
use Rattle.text.specs.Decimals.{decimal}
use Rattle.text.specs.Mma.{piece}
use Rattle.text.specs.declared.inside.Line.{Line}
use Rattle.text.specs.declared.inside.Line.TheVariants.{Row, Column}

-- bytes are stored from a place on, and the next place is answered: a byte past the end of the text is counted and not stored
pub record Wrote (bytes : List ℕ) (place : ℕ) (before : List ℕ) (answer : ℕ) (after : List ℕ) : Type 0 where
  pub next : answer ≡ place + length bytes
  pub stored : after ≡ sets before place bytes

-- an entry of a row has its column, an entry of a column its row
unfoldable pub placed : Line → ℕ → ℕ → List ℕ
placed (Row i) k v = piece i k v
placed (Column j) k v = piece k j v

-- the pieces of a row, or of a column
unfoldable pub pieces : Line → List Entry → List (List ℕ)
pieces l es = map (λ e. placed l e.col e.value) es

-- the pieces of n rows, row by row
unfoldable pub row_pieces : ℕ → List ℕ → List Entry → List (List (List ℕ))
row_pieces n ptrs es = table n (λ i. pieces (Row i) (row ptrs es i))

-- piece k: a comma before each but piece 0
unfoldable pub link : ℕ → List ℕ → List ℕ
link zero x = x
link (suc k) x = 44 ∷ x

-- the pieces from piece k on
unfoldable pub links : ℕ → List (List ℕ) → List ℕ
links k [] = []
links k (x ∷ xs) = link k x ++ links (suc k) xs

-- what follows the pieces: },{rows,columns}}
unfoldable pub ending : ℕ → ℕ → List ℕ
ending rows cols = 125 ∷ 44 ∷ 123 ∷ decimal rows ++ 44 ∷ decimal cols ++ 125 ∷ 125 ∷ []
