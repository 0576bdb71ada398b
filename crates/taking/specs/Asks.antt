-- What storing a row asks for: a walk's end, and room in the free parts of U and L.
use Rattle.std.specs.Prelude.{◌≡◌, true, ℕ, ◌+◌, ◌≤◌, ◌<◌, List, length, drop}
use Rattle.state.specs.Fresh.{keeps}
use Rattle.state.specs.declared.Mode.{Mode}
use Rattle.state.specs.declared.Mode.TheVariants.{Full}
use Rattle.storing.specs.Asks.{Heads, Keeps}
use Rattle.taking.specs.Stores.{Upper, Lower}

-- a row of U
pub record StoresU (p rank fill : ℕ) (dense : List ℕ) (limit head : ℕ) (u : Upper) : Type 0 where
  pub ends : Heads p u.pivots dense limit head (drop fill u.cols) (drop fill u.vals)
  pub columns : fill ≤ length u.cols
  pub numbers : fill ≤ length u.vals
  pub pointer : rank + 1 < length u.ptrs
  pub low : rank ≤ 1024

-- a row of L
pub record StoresL (mode : Mode) (rows fill : ℕ) (pivots dense : List ℕ) (limit from head rank : ℕ) (l : Lower) : Type 0 where
  pub ends : Keeps mode pivots dense limit from head rank (drop fill l.cols) (drop fill l.vals)
  pub columns : keeps mode ≡ true → fill ≤ length l.cols
  pub numbers : mode ≡ Full → fill ≤ length l.vals
  pub pointer : keeps mode ≡ true → rows + 1 < length l.ptrs
