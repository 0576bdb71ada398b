-- A row's step that has room, and a fresh start, leave every list as long as it was.
-- Assumes nothing.
use Rattle.std.specs.Prelude.{None, Ok, Some}
use mathlib.Core.Path.{◌≡◌, refl, ◌∙◌}
use mathlib.Core.Bool.{Bool, true, false, cond}
use mathlib.Core.List.{List, [], ◌∷◌}
use Prim.Native.Nat.{ℕ, ◌+◌, ◌≤◌, ◌<◌}
use native.Mathlib.Omega.{arith}
use lib.ListN.{length, length-map, length-set}
use Rattle.lists.specs.Onto.{◌onto◌}
use Rattle.lists.specs.Table.{table}
use Rattle.lists.proofs.Ontos.{length-onto}
use Rattle.lists.proofs.Tables.{length-table}
use Rattle.sparse.specs.Matrix.{Matrix}
use Rattle.sparse.specs.Pivots.{mark}
use Rattle.sparse.specs.Put.{cols_of, values_of}
use Rattle.sparse.specs.Rows.{Entry}
use Rattle.state.specs.Fresh.{keeps, started}
use Rattle.state.specs.Memory.{Memory}
use Rattle.state.specs.Room.{room_test}
use Rattle.state.specs.declared.Counts.{Counts}
use Rattle.state.specs.declared.Mode.{Mode}
use Rattle.state.specs.declared.Mode.TheVariants.{Full, Pattern, None as NoL}
use Rattle.state.proofs.Starts.{first_pointer, first_of_kept}
use Rattle.walk.specs.Step.{Taken, Answer}
use Rattle.steps.specs.Added.{Added, NotAdded}
use Rattle.steps.specs.Rows.{CleanRow}
use Rattle.writing.specs.Puts.{put_at}
use Rattle.writing.proofs.Puts.{length-put_at}
use Rattle.taking.specs.Stores.{Lower, with_u, with_l}
use Rattle.stepping.specs.Asks.{Stands}
use Rattle.stepping.specs.Take.{Lists, lower_of, cleared, room_asked, step_of, stored, step_row}
use Rattle.stepping.proofs.Room.{URoom, LRoom, u_free, l_free}
use Rattle.stepping.proofs.Walks.{heads}
use Rattle.keeping.proofs.Keeps.{took_added, took_not_added}
use Rattle.keeping.proofs.Settings.{rows_in}
use Rattle.keeping.proofs.Ways.{room_there, step_ways}
use Rattle.running.specs.Rows.{Night}
use Rattle.batches.specs.Asks.{Anew}
use Rattle.batches.specs.Batch.{restarted}
use Rattle.plenty.specs.Plenty.{SameLists}

pub same_itself : (m : Memory) → SameLists m m
same_itself m = record { u_cols = refl; u_vals = refl; u_ptrs = refl; l_cols = refl; l_vals = refl; l_ptrs = refl; pivots = refl }

pub same_then : {u v w : Memory} → SameLists u v → SameLists v w → SameLists u w
same_then a b = record {
  u_cols = a.u_cols ∙ b.u_cols;
  u_vals = a.u_vals ∙ b.u_vals;
  u_ptrs = a.u_ptrs ∙ b.u_ptrs;
  l_cols = a.l_cols ∙ b.l_cols;
  l_vals = a.l_vals ∙ b.l_vals;
  l_ptrs = a.l_ptrs ∙ b.l_ptrs;
  pivots = a.pivots ∙ b.pivots;
}

-- columns or values of entries, written where they fit
cols_long : (at : ℕ) (es : List Entry) (xs : List ℕ) → at + length es ≤ length xs → length (put_at at (cols_of es) xs) ≡ length xs
unfolding cols_of
cols_long at es xs fits = length-put_at at (cols_of es) xs (omega (arith, length-map es (λ (e : Entry). e.col)))

vals_long : (at : ℕ) (es : List Entry) (xs : List ℕ) → at + length es ≤ length xs → length (put_at at (values_of es) xs) ≡ length xs
unfolding values_of
vals_long at es xs fits = length-put_at at (values_of es) xs (omega (arith, length-map es (λ (e : Entry). e.value)))

-- L's lists are as long as others
record SameLower (v w : Lower) : Type 0 where
  cols : length v.cols ≡ length w.cols
  vals : length v.vals ≡ length w.vals
  ptrs : length v.ptrs ≡ length w.ptrs

lower_long : (m : Mode) (k rows fill : ℕ) (es : List Entry) (l : Lower) → length es ≤ k → LRoom m k rows fill l.cols l.vals l.ptrs → SameLower (with_l m rows fill es l) l
unfolding with_l keeps
lower_long Full k rows fill es l few room = record {
  cols = cols_long fill es l.cols (omega (arith, room.columns refl));
  vals = vals_long fill es l.vals (omega (arith, room.numbers refl));
  ptrs = length-set l.ptrs (rows + 1) (fill + length es);
}
lower_long Pattern k rows fill es l few room = record { cols = cols_long fill es l.cols (omega (arith, room.columns refl)); vals = refl; ptrs = length-set l.ptrs (rows + 1) (fill + length es) }
lower_long NoL k rows fill es l few room = record { cols = refl; vals = refl; ptrs = refl }

module _ (on : Bool) (c : Counts) (es : List Entry) (o : Lists) (s : Stands c o) (row : CleanRow c.modulus c.ncols es) where
  abbrev t : Taken
  t = step_of on c es o.memory

  module _ (room : room_test c o.memory ≡ Ok tt) where
    l_long : length t.l ≤ c.rank + 1 → SameLower (with_l c.mode c.l_rows c.l_fill t.l (lower_of o.memory)) (lower_of o.memory)
    l_long few = lower_long c.mode (c.rank + 1) c.l_rows c.l_fill t.l (lower_of o.memory) few (l_free c o.memory room)

    stored_long : (a : Answer) → t.answer ≡ a → SameLists (stored c a t o.memory) o.memory
    unfolding stored with_u
    stored_long (Some g) e =
        let a : Added c.modulus c.ncols c.rank (rows_in o.memory) (heads c o s) g t = took_added on c es o s row e in
        let free : URoom c.ncols c.rank c.u_fill o.memory.u_cols o.memory.u_vals o.memory.u_ptrs = u_free c o.memory room (omega (arith, a.within)) in
        let l = l_long a.l_room in
        record {
          u_cols = cols_long c.u_fill t.u o.memory.u_cols (omega (arith, a.u_room, free.columns));
          u_vals = vals_long c.u_fill t.u o.memory.u_vals (omega (arith, a.u_room, free.numbers));
          u_ptrs = length-set o.memory.u_ptrs (c.rank + 1) (c.u_fill + length t.u);
          l_cols = l.cols;
          l_vals = l.vals;
          l_ptrs = l.ptrs;
          pivots = length-set o.memory.pivots g c.rank;
        }
    stored_long None e =
        let a : NotAdded c.modulus c.ncols c.rank (heads c o s) t = took_not_added on c es o s row e in
        let l = l_long (omega (arith, a.l_room)) in
        record { u_cols = refl; u_vals = refl; u_ptrs = refl; l_cols = l.cols; l_vals = l.vals; l_ptrs = l.ptrs; pivots = refl }

  pub step_long : room_asked c es o.memory ≡ Ok tt → SameLists (step_row on c es o).memory.memory o.memory
  step_long room =
      step_ways on c es o (λ r. SameLists r.memory.memory o.memory)
      (λ e. same_itself o.memory)
      (λ e. stored_long (room_there c es o.memory room e) t.answer refl)

-- so does a fresh start
module _ {p : ℕ} {mode : Mode} {a : Matrix} {w : Night} (s : Anew p mode a w) where
  kept_first : (b : Bool) → (b ≡ true → 0 < length w.memory.l_ptrs) → length (cond b ((0 ∷ []) onto w.memory.l_ptrs) w.memory.l_ptrs) ≡ length w.memory.l_ptrs
  kept_first true some = length-onto (0 ∷ []) w.memory.l_ptrs (some refl)
  kept_first false some = refl

  pub restarted_long : SameLists (restarted mode a.ncols w.memory) w.memory
  unfolding restarted started
  restarted_long = record {
    u_cols = refl;
    u_vals = refl;
    u_ptrs = length-onto (0 ∷ []) w.memory.u_ptrs (first_pointer mode w.memory.u_ptrs w.memory.l_ptrs s.room);
    l_cols = refl;
    l_vals = refl;
    l_ptrs = kept_first (keeps mode) (first_of_kept mode w.memory.u_ptrs w.memory.l_ptrs s.room);
    pivots = length-onto (table a.ncols (λ j. mark)) w.memory.pivots (omega (arith, length-table a.ncols (λ j. mark), s.table));
  }

-- and dense memory that is cleared
pub cleared_long : (n : ℕ) (dense : List ℕ) → n ≤ length dense → length (cleared n dense) ≡ length dense
unfolding cleared
cleared_long n dense fits = length-onto (table n (λ j. 0)) dense (omega (arith, length-table {A = ℕ} n (λ j. 0)))
