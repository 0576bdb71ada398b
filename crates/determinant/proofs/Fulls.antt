-- An L with values, in memory that is a state: where its rows lie, and that their last entries are residues.
-- Assumes nothing.
use Rattle.std.specs.Prelude.{is_err}
use mathlib.Core.Path.{◌≡◌, refl, sym, subst}
use mathlib.Core.Bool.{false}
use mathlib.Core.List.{List, [], ◌∷◌}
use Prim.Native.Nat.{ℕ, ◌+◌, ◌-◌, ◌≤◌, ◌<◌}
use native.Mathlib.Omega.{arith}
use borrow.Author.Tests.{ltb-false}
use lib.Dec.{ltb}
use lib.ListN.{length, get_or, take}
use lib.Seq.{length-take-le, get_or-take}
use Rattle.sparse.specs.Matrix.{row}
use Rattle.sparse.specs.Tests.{values_test}
use Rattle.sparse.specs.declared.inside.Clause.TheVariants.{Residue, Nonzero}
use Rattle.sparse.proofs.Firsts.{neither}
use Rattle.meaning.proofs.BuiltForm.{below_p}
use Rattle.meaning.proofs.Parts.{length_part, get_d_part}
use Rattle.state.specs.Memory.{places}
use Rattle.state.specs.State.{pattern_fault, values_fault, l_fault}
use Rattle.state.specs.declared.Counts.{Counts}
use Rattle.state.specs.declared.Mode.TheVariants.{Full}
use Rattle.state.proofs.Faults.{held, not_refused}
use Rattle.keeping.proofs.Lowers.{Level, fault_level, level_within}
use Rattle.signs.specs.Asks.{Multiplies}
use Rattle.signs.specs.Value.{last_of}

-- the last of residues is one
last_small : (p : ℕ) → 0 < p → (xs : List ℕ) → ((k : ℕ) → k < length xs → get_or xs k 0 < p) → last_of xs < p
unfolding last_of
last_small p pos [] small = pos
last_small p pos (x ∷ xs) small = small (length (x ∷ xs) - 1) (omega arith)

module _ (c : Counts) (cols vals ptrs : List ℕ) (least : 2 ≤ c.modulus) (sound : l_fault Full c cols vals ptrs ≡ false) where
  both : (pattern_fault c.rank c.l_rows c.l_fill cols ptrs ≡ false) × (values_fault c.modulus c.l_fill vals ≡ false)
  unfolding l_fault
  both = neither _ _ sound

  pub full_level : Level c.rank c.l_rows c.l_fill cols ptrs
  full_level = fault_level c.rank c.l_rows c.l_fill cols ptrs both.0

  first : (ltb (places vals) c.l_fill ≡ false) × (is_err (values_test Residue c.modulus (take c.l_fill vals)) ≡ false)
  unfolding values_fault
  first = neither _ _ (neither _ (is_err (values_test Nonzero c.modulus (take c.l_fill vals))) both.1).0

  pub full_long : c.l_fill ≤ length vals
  unfolding places
  full_long = omega (arith, ltb-false (places vals) c.l_fill first.0, held {n = length vals} refl)

  full_small : (k : ℕ) → k < c.l_fill → get_or vals k 0 < c.modulus
  full_small k h =
      subst (λ (v : ℕ). v < c.modulus) (get_or-take c.l_fill vals k 0 h)
      (below_p c.modulus (take c.l_fill vals) (not_refused _ first.1) k (omega (arith, length-take-le c.l_fill vals full_long)))

  rows_low : (i : ℕ) → i ≤ c.l_rows → get_or ptrs i 0 ≤ c.l_fill
  rows_low = level_within full_level

  pub full_multiplies : Multiplies c.modulus c.l_rows ptrs vals
  unfolding row places
  full_multiplies = record {
    least = least;
    pointers = omega (arith, full_level.pointers, held {n = length ptrs} refl);
    rises = full_level.rises;
    within = λ i h. omega (arith, rows_low (i + 1) (omega arith), full_long);
    small = λ i h.
        last_small c.modulus (omega (arith, least)) _ (λ k l.
        let long = length_part (get_or ptrs i 0) (get_or ptrs (i + 1) 0) vals (omega (arith, rows_low (i + 1) (omega arith), full_long)) in
        subst (λ (v : ℕ). v < c.modulus) (sym (get_d_part (get_or ptrs i 0) (get_or ptrs (i + 1) 0) vals k 0 (omega (arith, long)))) (full_small (get_or ptrs i 0 + k) (omega (arith, long, rows_low (i + 1) (omega arith)))));
  }
