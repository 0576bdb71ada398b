-- Worked examples: what the definitions say of small matrices, a vector and single numbers.
-- Assumes nothing.
use Rattle.std.specs.Prelude.{Err, Ok}
use mathlib.Core.Path.{◌≡◌, refl}
use mathlib.Core.List.{[], ◌∷◌, flatten}
use Rattle.lists.specs.Onto.{◌onto◌}
use Rattle.lists.specs.Table.{table}
use Rattle.sparse.specs.Lent.{outcome, unless}
use Rattle.sparse.specs.Matrix.{matrix, part, row}
use Rattle.sparse.specs.Refusals.{refuse, lowest, ◌else◌}
use Rattle.sparse.specs.Rows.{entries, rows_of, row_at}
use Rattle.sparse.specs.declared.Refusal.TheVariants.{Room}
use Rattle.text.specs.Decimals.{glyph, digits, decimal}
use Rattle.text.specs.Mma.{piece, commas, mma, matrix_text, vector_text, printing}

-- 0 by 0 is {{},{0,0}}
pub empty : matrix_text (matrix 0 0 (0 ∷ []) [] []) ≡ 123 ∷ 123 ∷ 125 ∷ 44 ∷ 123 ∷ 48 ∷ 44 ∷ 48 ∷ 125 ∷ 125 ∷ []
unfolding matrix_text mma commas piece decimal digits glyph table row_at rows_of entries row part flatten
empty = refl

-- 2 by 3 with 10 at (1,1), 7 at (1,3) and 13 at (2,2) is {{{1,1}->10,{1,3}->7,{2,2}->13},{2,3}}
pub documented : matrix_text (matrix 2 3 (0 ∷ 2 ∷ 3 ∷ []) (0 ∷ 2 ∷ 1 ∷ []) (10 ∷ 7 ∷ 13 ∷ [])) ≡ 123 ∷ 123 ∷ 123 ∷ 49 ∷ 44 ∷ 49 ∷ 125 ∷ 45 ∷ 62 ∷ 49 ∷ 48 ∷ 44 ∷ 123 ∷ 49 ∷ 44 ∷ 51 ∷ 125 ∷ 45 ∷ 62 ∷ 55 ∷ 44 ∷ 123 ∷ 50 ∷ 44 ∷ 50 ∷ 125 ∷ 45 ∷ 62 ∷ 49 ∷ 51 ∷ 125 ∷ 44 ∷ 123 ∷ 50 ∷ 44 ∷ 51 ∷ 125 ∷ 125 ∷ []
unfolding matrix_text mma commas piece decimal digits glyph table row_at rows_of entries row part flatten
documented = refl

-- a vector of length 3 with 4 at 1 and 1 at 3 is {{{1,1}->4,{3,1}->1},{3,1}}
pub column : vector_text 3 (0 ∷ 2 ∷ []) (4 ∷ 1 ∷ []) ≡ 123 ∷ 123 ∷ 123 ∷ 49 ∷ 44 ∷ 49 ∷ 125 ∷ 45 ∷ 62 ∷ 52 ∷ 44 ∷ 123 ∷ 51 ∷ 44 ∷ 49 ∷ 125 ∷ 45 ∷ 62 ∷ 49 ∷ 125 ∷ 44 ∷ 123 ∷ 51 ∷ 44 ∷ 49 ∷ 125 ∷ 125 ∷ []
unfolding vector_text mma commas piece decimal digits glyph table row_at rows_of entries row part flatten
column = refl

-- the largest number of 32 bits
pub largest : decimal 4294967295 ≡ 52 ∷ 50 ∷ 57 ∷ 52 ∷ 57 ∷ 54 ∷ 55 ∷ 50 ∷ 57 ∷ 53 ∷ []
unfolding decimal digits glyph
largest = refl

-- ten bytes fit where eleven are lent, and the eleventh is kept; where nine are lent they are refused
pub fits : printing (Ok tt) (matrix_text (matrix 0 0 (0 ∷ []) [] [])) (9 ∷ 9 ∷ 9 ∷ 9 ∷ 9 ∷ 9 ∷ 9 ∷ 9 ∷ 9 ∷ 9 ∷ 9 ∷ []) ≡ outcome (Ok 10) (123 ∷ 123 ∷ 125 ∷ 44 ∷ 123 ∷ 48 ∷ 44 ∷ 48 ∷ 125 ∷ 125 ∷ 9 ∷ [])
unfolding matrix_text mma commas piece decimal digits glyph table row_at rows_of entries row part flatten printing unless lowest ◌else◌ refuse ◌onto◌
fits = refl

pub short : printing (Ok tt) (matrix_text (matrix 0 0 (0 ∷ []) [] [])) (9 ∷ 9 ∷ 9 ∷ 9 ∷ 9 ∷ 9 ∷ 9 ∷ 9 ∷ 9 ∷ []) ≡ outcome (Err Room) (9 ∷ 9 ∷ 9 ∷ 9 ∷ 9 ∷ 9 ∷ 9 ∷ 9 ∷ 9 ∷ [])
unfolding matrix_text mma commas piece decimal digits glyph table row_at rows_of entries row part flatten printing unless lowest ◌else◌ refuse ◌onto◌
short = refl
