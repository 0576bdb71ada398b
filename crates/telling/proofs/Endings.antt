-- Which answers end a call.
-- Assumes nothing.
use Rattle.std.specs.Prelude.{Some}
use mathlib.Core.Path.{◌≡◌, refl}
use mathlib.Core.Bool.{Bool, true, false}
use Prim.Native.Nat.{ℕ}
use Rattle.walk.specs.Step.{is_none, Answer}
use Rattle.telling.specs.Runs.{ended}
use Rattle.telling.specs.declared.Reduced.TheVariants.{Taken}
use Rattle.telling.specs.declared.Run.{Run}

-- an accepted row never ends a call
pub never_ends : (check : Bool) {a : Answer} {g : ℕ} → a ≡ Some g → (r : Run) → Taken r ≡ ended check a r
unfolding ended is_none
never_ends true e r = rw e
never_ends false e r = refl
