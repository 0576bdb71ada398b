-- The text read from its front. That this reads what the grammar accepts, and nothing else, is proofs/Exactly.antt's `reads_exactly`.
use Rattle.std.specs.Prelude.{Bool, true, false, ◌&&◌, List, [], ◌∷◌, ℕ, zero, suc, ◌+◌, ◌-◌, ◌*◌, leb, ltb, eqb, length}
use Rattle.market.specs.Grammar.{feed, space, percent, banner}
use Rattle.triplets.specs.Triplets.{Triplet, triplet}

-- what was read from the front of some bytes, and the bytes after it; or nothing
pub data Read (A : Type 0) : Type 0 where
  nothing : Read A
  got : A → List ℕ → Read A

infixl 20 ◌then◌
-- read on after what was read
unfoldable pub ◌then◌ : {A B : Type 0} → Read A → (A → List ℕ → Read B) → Read B
nothing then f = nothing
got x later then f = f x later

-- what follows the front, where it stands there
unfoldable pub past : List ℕ → List ℕ → Read Bool
past [] bs = got true bs
past (f ∷ front) [] = nothing
past (f ∷ front) (b ∷ bs) = elim (eqb b f) [ true ↦ past front bs | false ↦ nothing ]

-- what follows the comment lines; `within` says that a comment has started
unfoldable pub uncomment : Bool → List ℕ → List ℕ
uncomment within [] = []
uncomment true (b ∷ bs) = elim (eqb b feed) [ true ↦ uncomment false bs | false ↦ uncomment true bs ]
uncomment false (b ∷ bs) = elim (eqb b percent) [ true ↦ uncomment true bs | false ↦ b ∷ bs ]

-- a decimal up to `stop`, of which k digits that say n have been read: at least one, at most ten
unfoldable pub decimal_on : ℕ → ℕ → ℕ → List ℕ → Read ℕ
decimal_on stop k n [] = nothing
decimal_on stop k n (b ∷ bs) = elim (eqb b stop) [
  | true ↦ elim (eqb k 0) [ true ↦ nothing | false ↦ got n bs ]
  | false ↦ elim (leb 48 b && leb b 57 && ltb k 10) [ true ↦ decimal_on stop (k + 1) (n * 10 + (b - 48)) bs | false ↦ nothing ]
]

-- a decimal up to `stop`, from its first digit on
unfoldable pub decimal_to : ℕ → List ℕ → Read ℕ
decimal_to stop bs = decimal_on stop 0 0 bs

-- a line of three decimals
unfoldable pub line : List ℕ → Read Triplet
line bs = decimal_to space bs then λ i later. decimal_to space later then λ j rest. decimal_to feed rest then λ v end. got (triplet i j v) end

-- so many lines
unfoldable pub lines : ℕ → List ℕ → Read (List Triplet)
lines zero bs = got [] bs
lines (suc k) bs = line bs then λ t later. lines k later then λ ts end. got (t ∷ ts) end

-- the size line, after the first line and the comments
unfoldable pub size_line : List ℕ → Read Triplet
size_line text = past banner text then λ _ later. line (uncomment false later)

-- what a text says: rows, columns, and the entries, whose places count from 1
pub record Market : Type 0 where
  pub nrows : ℕ
  pub ncols : ℕ
  pub entries : List Triplet

abbrev pub market_of : ℕ → ℕ → List Triplet → Market
market_of n m ts = record { nrows = n; ncols = m; entries = ts }

-- nothing may follow
unfoldable pub whole : {A : Type 0} → Read A → Read A
whole nothing = nothing
whole (got x []) = got x []
whole (got x (b ∷ bs)) = nothing

-- a text of at most 32 KiB
unfoldable pub market : List ℕ → Read Market
market text = elim (ltb 32768 (length text)) [
  | true ↦ nothing
  | false ↦ whole (size_line text then λ s later. lines s.value later then λ ts end. got (market_of s.row s.col ts) end)
]
