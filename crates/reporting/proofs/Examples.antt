-- Worked examples: what the output's definition says of document 01's example, and of a matrix that isn't square.
-- Assumes nothing.
use Rattle.std.specs.Prelude.{None, Some}
use mathlib.Core.Path.{◌≡◌, refl}
use mathlib.Core.List.{[], ◌∷◌, flatten}
use Rattle.lists.specs.Table.{table}
use Rattle.sparse.specs.Matrix.{part, row}
use Rattle.sparse.specs.Rows.{entries, rows_of, row_at}
use Rattle.state.specs.Fresh.{counts}
use Rattle.state.specs.Memory.{memory}
use Rattle.state.specs.declared.Mode.TheVariants.{None}
use Rattle.text.specs.Decimals.{glyph, digits, decimal}
use Rattle.text.specs.Mma.{piece, commas, mma, matrix_text}
use Rattle.solving.specs.Solve.{solved_of}
use Rattle.reporting.specs.Text.{upper_of, worth_text, heading, report_text}

-- rank 2, det 6, {{{1,1}->1,{1,2}->1073741824,{2,2}->1},{2,2}}: what is past the fill isn't written
pub documented :
    report_text (solved_of (Some 6) (counts None 2147483647 2 2 3 0 0)) (memory (0 ∷ 1 ∷ 1 ∷ 9 ∷ []) (1 ∷ 1073741824 ∷ 1 ∷ 9 ∷ []) (0 ∷ 2 ∷ 3 ∷ 9 ∷ []) [] [] [] [])
    ≡ 114 ∷ 97 ∷ 110 ∷ 107 ∷ 32 ∷ 50 ∷ 10 ∷ 100 ∷ 101 ∷ 116 ∷ 32 ∷ 54 ∷ 10 ∷ 123 ∷ 123 ∷ 123 ∷ 49 ∷ 44 ∷ 49 ∷ 125 ∷ 45 ∷ 62 ∷ 49 ∷ 44 ∷ 123 ∷ 49 ∷ 44 ∷ 50 ∷ 125 ∷ 45 ∷ 62 ∷ 49 ∷ 48 ∷ 55 ∷ 51 ∷ 55 ∷ 52 ∷ 49 ∷ 56 ∷ 50 ∷ 52 ∷ 44 ∷ 123 ∷ 50 ∷ 44 ∷ 50 ∷ 125 ∷ 45 ∷ 62 ∷ 49 ∷ 125 ∷ 44 ∷ 123 ∷ 50 ∷ 44 ∷ 50 ∷ 125 ∷ 125 ∷ 10 ∷ []
unfolding report_text heading worth_text upper_of matrix_text mma commas piece decimal digits glyph table row_at rows_of entries row part flatten
documented = refl

-- rank 0, det none, {{},{0,2}}
pub unasked :
    report_text (solved_of None (counts None 2147483647 2 0 0 0 0)) (memory [] [] (0 ∷ []) [] [] [] [])
    ≡ 114 ∷ 97 ∷ 110 ∷ 107 ∷ 32 ∷ 48 ∷ 10 ∷ 100 ∷ 101 ∷ 116 ∷ 32 ∷ 110 ∷ 111 ∷ 110 ∷ 101 ∷ 10 ∷ 123 ∷ 123 ∷ 125 ∷ 44 ∷ 123 ∷ 48 ∷ 44 ∷ 50 ∷ 125 ∷ 125 ∷ 10 ∷ []
unfolding report_text heading worth_text upper_of matrix_text mma commas piece decimal digits glyph table row_at rows_of entries row part flatten
unasked = refl
