-- A text and memory that pass their tests get a whole report: bytes, a determinant where the matrix is square, and the rank and U of all rows.
-- Assumes nothing.
use Rattle.std.specs.Prelude.{Err, Ok, Some}
use mathlib.Core.Path.{◌≡◌, refl, sym, ap}
use mathlib.Core.List.{List, [], ◌∷◌}
use Prim.Native.Nat.{ℕ}
use native.Mathlib.Omega.{arith}
use Rattle.text.specs.Mma.{Printed}
use Rattle.sparse.specs.Lent.{unless}
use Rattle.sparse.specs.Refusals.{lowest}
use Rattle.sparse.proofs.Firsts.{lowest_next, lowest_last}
use Rattle.stepping.specs.Take.{lists}
use Rattle.market.specs.Parse.{Read, nothing, got, Market, market}
use Rattle.market.specs.Tests.{modulus, entries_test, read_test, market_test}
use Rattle.plenty.specs.Plenty.{AllTaken}
use Rattle.solving.specs.Solve.{worth, afresh, solve}
use Rattle.solving.proofs.Wholes.{Solvable, solve_determined, solve_takes}
use Rattle.reporting.specs.Said.{matrix_said}
use Rattle.report.specs.Report.{loaded, printed, reported, said, report}
use Rattle.report.specs.Work.{Work, work_test}
use Rattle.report.proofs.Solvables.{solvable}

-- what a whole report is, of what the text says
pub record Whole (m : Market) (w : Work) (answer : Printed) : Type 0 where
  pub bytes : (n : ℕ) × (answer ≡ Ok n)
  pub determinant : m.nrows ≡ m.ncols → (v : ℕ) × ((solve modulus (matrix_said m) (loaded m w).night).answer.det ≡ Some v)
  pub rows : AllTaken m.nrows (afresh modulus (matrix_said m) (loaded m w).night (worth modulus (matrix_said m) (lists (loaded m w).night.memory (loaded m w).night.dense))).answer

-- what passed the tests is what the text says
passed : (r : Read Market) → read_test r ≡ Ok tt → entries_test (said r).nrows (said r).ncols (said r).entries ≡ Ok tt
unfolding read_test said
passed nothing e = let z : ◌≡◌ {A = ℕ} 0 1 = cc in absurd (omega arith)
passed (got m later) e = e

pub report_whole : (text : List ℕ) (w : Work) → market_test text ≡ Ok tt → work_test w ≡ Ok tt → Whole (said (market text)) w (report text w).answer
unfolding report unless reported printed market_test matrix_said
report_whole text w good room =
    let m : Market = said (market text) in
    let s : Solvable modulus (matrix_said m) (loaded m w).night = solvable m w (passed (market text) good) room in
    let both : lowest (market_test text ∷ work_test w ∷ []) ≡ Ok tt = sym (lowest_next _ refl good (lowest_last (sym room))) in
    record {
      bytes = (_, ap (λ t. (unless Err t w (reported m w)).answer) both);
      determinant = solve_determined modulus (matrix_said m) (loaded m w).night s;
      rows = solve_takes modulus (matrix_said m) (loaded m w).night s;
    }
