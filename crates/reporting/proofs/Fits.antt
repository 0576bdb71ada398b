-- The U that `solve` leaves can be written, and within 64 columns the whole output fits in 163,840 bytes.
-- Assumes nothing.
use Rattle.std.specs.Prelude.{Ok}
use mathlib.Core.Path.{◌≡◌}
use mathlib.Core.List.{[], ◌∷◌, ◌++◌}
use Prim.Native.Nat.{ℕ, ◌+◌, ◌≤◌}
use native.Mathlib.Omega.{arith}
use lib.ListN.{length, take, length-append}
use lib.Seq.{length-take-le}
use Rattle.sparse.specs.Matrix.{Matrix, matrix}
use Rattle.sparse.specs.Tests.{clean}
use Rattle.sparse.proofs.Cuts.{Laid}
use Rattle.state.specs.Memory.{Memory}
use Rattle.state.specs.declared.Counts.{Counts}
use Rattle.state.specs.declared.Mode.{Mode}
use Rattle.state.proofs.Faults.{Held, lost_none}
use Rattle.states.proofs.Echelons.{state_clean, lies}
use Rattle.stepping.specs.Take.{lists}
use Rattle.stepping.proofs.Walks.{parts, rank_low}
use Rattle.text.specs.Mma.{matrix_text}
use Rattle.solving.specs.declared.Solved.{Solved}
use Rattle.plenty.specs.Plenty.{Settled}
use Rattle.reporting.specs.Asks.{Rows}
use Rattle.reporting.specs.Text.{upper_of, heading, report_text}
use Rattle.reporting.proofs.Chains.{heading_most}
use Rattle.reporting.proofs.Sizes.{text_fits}

module _ {p n : ℕ} {kind : Mode} {c : Counts} {m : Memory} (r : Settled p n kind c m) (wide : n ≤ 64) where
  abbrev u : Matrix
  u = matrix c.rank c.ncols (take (c.rank + 1) m.u_ptrs) (take c.u_fill m.u_cols) (take c.u_fill m.u_vals)

  tidy : clean 1048576 c.modulus u ≡ Ok tt
  tidy = state_clean c.modulus c.ncols c.rank c.u_fill m.u_cols m.u_vals m.u_ptrs m.pivots r.stands.opened (parts c (lists m []) r.stands).lost (parts c (lists m []) r.stands).fault

  laid : Laid u
  laid = lies c.modulus c.ncols c.rank c.u_fill m.u_cols m.u_vals m.u_ptrs m.pivots r.stands.opened (parts c (lists m []) r.stands).lost (parts c (lists m []) r.stands).fault

  held : Held c.rank c.u_fill m.u_cols m.u_vals m.u_ptrs
  held = lost_none _ _ _ _ _ (parts c (lists m []) r.stands).lost

  low : c.rank ≤ 64
  low = omega (arith, rank_low c (lists m []) r.stands, r.ncols)

  pub settled_rows : Rows c.rank c.u_fill m.u_cols m.u_vals m.u_ptrs
  settled_rows = record {
    cut = rw (length-take-le c.u_fill m.u_vals held.numbers) at laid.rows;
    starts = laid.shape.starts;
    low = omega (arith, low);
    few = held.few;
    pointers = held.pointers;
    columns = held.columns;
    numbers = held.numbers;
  }

module _ {p n : ℕ} {kind : Mode} {m : Memory} (s : Solved) (r : Settled p n kind s.counts m) (wide : n ≤ 64) where
  pub settled_fits : length (report_text s m) ≤ 163840
  unfolding report_text upper_of
  settled_fits =
      let whole = text_fits 1048576 s.counts.modulus (u r wide) (tidy r wide) (low r wide) (omega (arith, r.ncols)) in
      omega (arith, whole, heading_most s.counts.rank s.det, length-append (heading s.counts.rank s.det) (matrix_text (u r wide) ++ (10 ∷ [])), length-append (matrix_text (u r wide)) (10 ∷ []))
