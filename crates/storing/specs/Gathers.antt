-- What is gathered from dense memory after a walk.
use Rattle.std.specs.Prelude.{ℕ, ◌*◌, ◌%◌, Bool, not, ◌&&◌, cond, List, [], ◌∷◌, ◌++◌, map, ltb, eqb, length, get_or}
use Rattle.lists.specs.Gather.{gather}
use Rattle.sparse.specs.Rows.{Entry, entry}
use Rattle.walk.specs.Left.{over, multiples}
use Rattle.walk.specs.Step.{pivot_at}
use Rattle.storing.specs.declared.Part.{Part}
use Rattle.storing.specs.declared.Part.TheVariants.{Row, Multiple, Column}

-- something of that part stands at column j: over a pivot below the limit a multiple, elsewhere an entry of the row
unfoldable pub stands : Part → List ℕ → List ℕ → ℕ → ℕ → Bool
stands Row pivots dense limit j = over pivots limit j && not (eqb (get_or dense j 0) 0)
stands Multiple pivots dense limit j = over pivots limit j && not (eqb (get_or dense j 0) 0)
stands Column pivots dense limit j = not (over pivots limit j) && not (eqb (get_or dense j 0) 0)

-- what is told of it
unfoldable pub told : Part → List ℕ → List ℕ → ℕ → ℕ
told Row pivots dense j = pivot_at pivots j
told Multiple pivots dense j = get_or dense j 0
told Column pivots dense j = j

-- all of it below column n
unfoldable pub gathered : Part → List ℕ → List ℕ → ℕ → ℕ → List ℕ
gathered part pivots dense limit n = gather (stands part pivots dense limit) (told part pivots dense) n

-- the entries at some columns, f times modulo p
unfoldable pub scaled : ℕ → ℕ → List ℕ → List ℕ → List ℕ
scaled p f dense cols = map (λ j. get_or dense j 0 * f % p) cols

-- a part of L's row: what is gathered below the limit, and the diagonal's last where the row has a head
unfoldable pub part_of : Part → List ℕ → List ℕ → ℕ → ℕ → ℕ → List ℕ
part_of part pivots dense limit head last = gathered part pivots dense limit limit ++ cond (ltb head (length dense)) (last ∷ []) []

-- L's row: the multiples, and for an accepted row (new row number, head) last
unfoldable pub l_row : List ℕ → List ℕ → ℕ → ℕ → ℕ → List Entry
l_row pivots dense limit head rank = multiples pivots limit dense ++ cond (ltb head (length dense)) (entry rank (get_or dense head 0) ∷ []) []
