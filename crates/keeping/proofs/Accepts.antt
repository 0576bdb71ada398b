-- An accepted row in memory: U has one row more, and passes its test again.
-- Assumes nothing.
use Rattle.std.specs.Prelude.{Ok, Some}
use mathlib.Core.Path.{◌≡◌, sym, subst}
use mathlib.Core.Bool.{false}
use mathlib.Core.List.{List}
use Prim.Native.Nat.{ℕ, suc, ◌+◌}
use native.Mathlib.Numerals.{add-one}
use native.Mathlib.Omega.{arith}
use lib.ListN.{length, set, length-set}
use Rattle.sparse.specs.Put.{cols_of, values_of}
use Rattle.state.specs.Asks.{Opened}
use Rattle.state.specs.Room.{room_test}
use Rattle.state.specs.State.{u_fault, u_lost, u_rows}
use Rattle.state.specs.declared.Counts.{Counts}
use Rattle.state.proofs.Faults.{lost_none}
use Rattle.walk.specs.Step.{Taken}
use Rattle.walk.specs.Step as S
use Rattle.steps.specs.Added.{Added}
use Rattle.steps.specs.Setting.{Tabled, Echelon, with_last, Grown}
use Rattle.steps.proofs.Nones.{rows_few}
use Rattle.taking.specs.Stores.{with_u}
use Rattle.writing.specs.Puts.{put_at}
use Rattle.stepping.specs.Asks.{Stands}
use Rattle.stepping.specs.Take.{Lists, stored}
use Rattle.stepping.proofs.Room.{URoom, u_free}
use Rattle.stepping.proofs.Walks.{heads, rank_low}
use Rattle.keeping.proofs.Grows.{Fits, long_cols, long_vals, long_ptrs, upright_grown, upright_grows}
use Rattle.keeping.proofs.Places.{none_lost}
use Rattle.keeping.proofs.Settings.{rows_in, stands_upright}
use Rattle.keeping.proofs.Uppers.{upright_sound}

module _ {c : Counts} {o : Lists} (s : Stands c o) (room : room_test c o.memory ≡ Ok tt) {h : ℕ → ℕ} {g : ℕ} {t : Taken}
    (a : Added c.modulus c.ncols c.rank (rows_in o.memory) h g t) where
  free : URoom c.ncols c.rank c.u_fill o.memory.u_cols o.memory.u_vals o.memory.u_ptrs
  free = u_free c o.memory room (omega (arith, a.within))

  fits : Fits c.rank c.u_fill (length t.u) o.memory.u_cols o.memory.u_vals o.memory.u_ptrs
  fits = record { columns = omega (arith, free.columns, a.u_room); numbers = omega (arith, free.numbers, a.u_room); pointer = free.pointers }

  -- U's rows after it are those before it, and the new one
  pub stored_grown : Grown c.ncols c.rank g (rows_in o.memory) t.u (rows_in (stored c (Some g) t o.memory))
  unfolding stored with_u
  stored_grown = upright_grown (stands_upright c o s) t.u fits o.memory.pivots g

  abbrev cols' : List ℕ
  cols' = put_at c.u_fill (cols_of t.u) o.memory.u_cols

  abbrev vals' : List ℕ
  vals' = put_at c.u_fill (values_of t.u) o.memory.u_vals

  abbrev ptrs' : List ℕ
  ptrs' = set o.memory.u_ptrs (c.rank + 1) (c.u_fill + length t.u)

  pub accepted_found : u_lost (c.rank + 1) (c.u_fill + length t.u) cols' vals' ptrs' ≡ false
  accepted_found =
      none_lost (c.rank + 1) (c.u_fill + length t.u) cols' vals' ptrs'
      (omega (arith, free.pointers, long_ptrs (stands_upright c o s) t.u fits))
      (omega (arith, rank_low c o s, s.opened.wide))
      (omega (arith, fits.columns, long_cols (stands_upright c o s) t.u fits))
      (omega (arith, fits.numbers, long_vals (stands_upright c o s) t.u fits))
      (omega (arith, free.few, a.u_room))

  pub accepted_opened : Opened c.modulus c.ncols (set o.memory.pivots g c.rank)
  accepted_opened = record { modulus = s.opened.modulus; wide = s.opened.wide; table = omega (arith, s.opened.table, length-set o.memory.pivots g c.rank) }

  -- in echelon form again, it passes U's test
  pub accepted_sound : Echelon c.modulus c.ncols (suc c.rank) (rows_in (stored c (Some g) t o.memory)) (with_last c.rank g (heads c o s))
      → u_fault c.modulus (u_rows c.ncols (c.rank + 1) (c.u_fill + length t.u) cols' vals' ptrs') (set o.memory.pivots g c.rank) ≡ false
  unfolding stored with_u S.upper
  accepted_sound e =
      upright_sound (lost_none (c.rank + 1) (c.u_fill + length t.u) cols' vals' ptrs' accepted_found)
      (upright_grows (stands_upright c o s) t.u fits a.clean g a.beyond a.head)
      s.opened.modulus (omega (arith, rows_few e, s.opened.wide)) s.opened.wide
      (subst (λ (k : ℕ). Tabled c.ncols k (with_last c.rank g (heads c o s)) (set o.memory.pivots g c.rank)) (sym (add-one c.rank)) e.table)
