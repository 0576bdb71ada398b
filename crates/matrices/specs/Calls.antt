-- Many rows added, in either walk.
use Rattle.std.specs.Prelude.{Bool, false}
use Rattle.sparse.specs.Lent.{Outcome, unless}
use Rattle.sparse.specs.Matrix.{Matrix}
use Rattle.state.specs.declared.Counts.{Counts}
use Rattle.telling.specs.declared.Reduced.{Reduced}
use Rattle.telling.specs.declared.Reduced.TheVariants.{Refused}
use Rattle.running.specs.Rows.{Night}
use Rattle.batches.specs.Batch.{take_matrix}
use Rattle.matrices.specs.Tests.{add_matrix_test}

-- `add_matrix`
unfoldable pub add_matrix : Bool → Counts → Matrix → Night → Outcome Reduced Night
add_matrix on c a w = unless Refused (add_matrix_test c a w.dense w.answers w.memory) w (take_matrix on false c a w)
