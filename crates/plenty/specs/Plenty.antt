-- Room enough for all rows of a matrix, and what a call then comes to.
use Rattle.std.specs.Prelude.{◌≡◌, Bool, true, [], ℕ, ◌*◌, ◌≤◌, ◌<◌, length}
use Rattle.state.specs.Fresh.{keeps}
use Rattle.state.specs.Memory.{Memory, places}
use Rattle.state.specs.declared.Counts.{Counts}
use Rattle.state.specs.declared.Mode.{Mode}
use Rattle.state.specs.declared.Mode.TheVariants.{Full}
use Rattle.stepping.specs.Asks.{Stands}
use Rattle.stepping.specs.Take.{lists}
use Rattle.telling.specs.declared.Reduced.{Reduced}
use Rattle.telling.specs.declared.Reduced.TheVariants.{Taken, Dependent}
use Rattle.telling.specs.declared.Run.{Run}
use Rattle.running.specs.Rows.{Night}

-- room for n rows of n entries in U, and in a kept L for a row of n entries for each row taken
pub record Plenty (mode : Mode) (rows n : ℕ) (m : Memory) : Type 0 where
  pub u_cols : n * n ≤ places m.u_cols
  pub u_vals : n * n ≤ places m.u_vals
  pub u_ptrs : n < places m.u_ptrs
  pub l_cols : keeps mode ≡ true → rows * n ≤ places m.l_cols
  pub l_vals : mode ≡ Full → rows * n ≤ places m.l_vals
  pub l_ptrs : keeps mode ≡ true → rows < places m.l_ptrs

-- a call took all k rows, or, where it checks for dependence, ended at a None
pub data Whole (check : Bool) (k : ℕ) : Reduced → Type 0 where
  all : (r : Run) → r.taken ≡ k → Whole check k (Taken r)
  none : check ≡ true → (r : Run) → Whole check k (Dependent r)

-- a call took all k rows
pub record AllTaken (k : ℕ) (x : Reduced) : Type 0 where
  pub run : Run
  pub is : x ≡ Taken run
  pub taken : run.taken ≡ k

-- counts and lists that are a state, with this modulus, column count and mode
pub record Settled (p n : ℕ) (kind : Mode) (c : Counts) (m : Memory) : Type 0 where
  pub stands : Stands c (lists m [])
  pub modulus : c.modulus ≡ p
  pub ncols : c.ncols ≡ n
  pub mode : c.mode ≡ kind

-- the reducer's lists are as long as others
pub record SameLists (v w : Memory) : Type 0 where
  pub u_cols : length v.u_cols ≡ length w.u_cols
  pub u_vals : length v.u_vals ≡ length w.u_vals
  pub u_ptrs : length v.u_ptrs ≡ length w.u_ptrs
  pub l_cols : length v.l_cols ≡ length w.l_cols
  pub l_vals : length v.l_vals ≡ length w.l_vals
  pub l_ptrs : length v.l_ptrs ≡ length w.l_ptrs
  pub pivots : length v.pivots ≡ length w.pivots

-- so is all that is lent
pub record SameLengths (v w : Night) : Type 0 where
  pub memory : SameLists v.memory w.memory
  pub answers : length v.answers ≡ length w.answers
  pub dense : length v.dense ≡ length w.dense
