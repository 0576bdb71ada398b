-- The text that is read: Matrix Market's coordinate format, as document 01 cuts it.
use Rattle.std.specs.Prelude.{◌≡◌, List, [], ◌∷◌, ◌++◌, ℕ, ◌≤◌, length}
use Rattle.text.specs.Decimals.{read_back}
use Rattle.triplets.specs.Triplets.{Triplet, triplet}

-- the byte that ends a line, the one between numbers, and the one that starts a comment
unfoldable pub feed : ℕ
feed = 10

unfoldable pub space : ℕ
space = 32

unfoldable pub percent : ℕ
percent = 37

-- the first line: %%MatrixMarket matrix coordinate integer general
unfoldable pub banner : List ℕ
banner =
    37 ∷ 37 ∷ 77 ∷ 97 ∷ 116 ∷ 114 ∷ 105 ∷ 120 ∷ 77 ∷ 97 ∷ 114 ∷ 107 ∷ 101 ∷ 116 ∷ 32
    ∷ 109 ∷ 97 ∷ 116 ∷ 114 ∷ 105 ∷ 120 ∷ 32
    ∷ 99 ∷ 111 ∷ 111 ∷ 114 ∷ 100 ∷ 105 ∷ 110 ∷ 97 ∷ 116 ∷ 101 ∷ 32
    ∷ 105 ∷ 110 ∷ 116 ∷ 101 ∷ 103 ∷ 101 ∷ 114 ∷ 32
    ∷ 103 ∷ 101 ∷ 110 ∷ 101 ∷ 114 ∷ 97 ∷ 108 ∷ 10 ∷ []

-- bytes without a line feed
pub data Plain : List ℕ → Type 0 where
  blank : Plain []
  plain : (b : ℕ) (bs : List ℕ) → (b ≡ feed → ⊥) → Plain bs → Plain (b ∷ bs)

-- comment lines: %, any bytes but a line feed, a line feed
pub data Comments : List ℕ → Type 0 where
  uncommented : Comments []
  comment : (said later : List ℕ) → Plain said → Comments later → Comments (percent ∷ said ++ feed ∷ later)

-- bytes of the digits 0 to 9
pub data Digits : List ℕ → Type 0 where
  undigited : Digits []
  digit : (b : ℕ) (bs : List ℕ) → 48 ≤ b → b ≤ 57 → Digits bs → Digits (b ∷ bs)

-- an unsigned decimal of 1 to 10 digits
pub record Decimal (bytes : List ℕ) (n : ℕ) : Type 0 where
  pub digits : Digits bytes
  pub some : 1 ≤ length bytes
  pub few : length bytes ≤ 10
  pub says : read_back bytes ≡ n

-- a line of three decimals with single spaces, ended by a line feed: a place, counted from 1, and its value; or the size
pub record Line (bytes : List ℕ) (t : Triplet) : Type 0 where
  pub rows : List ℕ
  pub cols : List ℕ
  pub vals : List ℕ
  pub spelt : bytes ≡ rows ++ space ∷ cols ++ space ∷ vals ++ feed ∷ []
  pub row : Decimal rows t.row
  pub col : Decimal cols t.col
  pub value : Decimal vals t.value

-- one line per entry
pub data Lines : List ℕ → List Triplet → Type 0 where
  unlined : Lines [] []
  entry : (front later : List ℕ) (t : Triplet) (ts : List Triplet) → Line front t → Lines later ts → Lines (front ++ later) (t ∷ ts)

-- at most 32 KiB: the first line, comment lines, a size line, and as many entry lines as it says
pub record Text (text : List ℕ) (nrows ncols : ℕ) (ts : List Triplet) : Type 0 where
  pub comments : List ℕ
  pub size : List ℕ
  pub lines : List ℕ
  pub spelt : text ≡ banner ++ comments ++ size ++ lines
  pub commented : Comments comments
  pub sized : Line size (triplet nrows ncols (length ts))
  pub lined : Lines lines ts
  pub short : length text ≤ 32768
