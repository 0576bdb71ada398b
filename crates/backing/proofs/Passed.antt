-- The tests of back substitution: which decides, and what they leave where they find nothing.
-- Assumes nothing.
use Rattle.std.specs.Prelude.{Err, Ok}
use mathlib.Core.Path.{◌≡◌, refl}
use mathlib.Core.Bool.{false, ◌||◌}
use mathlib.Core.List.{List, [], ◌∷◌}
use Prim.Native.Nat.{ℕ, ◌+◌, ◌-◌, ◌*◌, ◌≤◌}
use native.Mathlib.Omega.{arith}
use borrow.Author.Tests.{ltb-false}
use lib.Dec.{ltb}
use lib.ListN.{length, take}
use Rattle.sparse.specs.Lent.{Lent, room_test}
use Rattle.sparse.specs.Refusals.{refuse, lowest, Tested}
use Rattle.sparse.specs.Tests.{modulus_test, size_test}
use Rattle.sparse.specs.declared.Refusal.{Refusal}
use Rattle.sparse.specs.declared.Refusal.TheVariants.{Mismatch}
use Rattle.sparse.proofs.Cuts.{small}
use Rattle.sparse.proofs.Firsts.{refuse_good, neither, lowest_good}
use Rattle.state.specs.Asks.{Opened}
use Rattle.state.specs.Memory.{Memory, memory}
use Rattle.state.specs.State.{state_test}
use Rattle.state.specs.declared.Counts.{Counts}
use Rattle.walk.specs.Dense.{wiped}
use Rattle.writing.proofs.Lowests.{first_stop, first_next, both_good}
use Rattle.stepping.specs.Asks.{Stands}
use Rattle.stepping.specs.Take.{lists}
use Rattle.stepping.proofs.Clears.{front_zero}
use Rattle.stepping.proofs.Walks.{parts, rank_low}
use Rattle.backing.specs.Asks.{open_test, Builds}
use Rattle.backing.specs.Back.{back_test}
use Rattle.backing.proofs.Most.{entries_most}

-- 1, 2 and 11 find nothing
module _ (p n d : ℕ) (pivots : List ℕ) (e : open_test p n d (length pivots) ≡ Ok tt) where
  long_both : (ltb d n || ltb (length pivots) n) ≡ false
  unfolding open_test
  long_both = refuse_good _ Mismatch (lowest_good _ _ (lowest_good _ _ (lowest_good _ _ e).1).1).0

  pub opens : Opened p n pivots
  unfolding open_test
  opens = record {
    modulus = (lowest_good _ _ e).0;
    wide = (small 65536 0 n 0 (lowest_good _ _ (lowest_good _ _ e).1).0).wide;
    table = ltb-false (length pivots) n (neither (ltb d n) (ltb (length pivots) n) long_both).1;
  }

  dense_long : n ≤ d
  dense_long = ltb-false d n (neither (ltb d n) (ltb (length pivots) n) long_both).0

module _ (dense : List ℕ) (c : Counts) (m : Memory) (l : Lent) where
  abbrev first : List Tested
  first = modulus_test c.modulus ∷ size_test 65536 0 c.ncols 0 ∷ refuse (ltb (length dense) c.ncols || ltb (length m.pivots) c.ncols) Mismatch ∷ []

  abbrev second : List Tested
  second = state_test c m ∷ room_test c.rank (c.rank * (c.ncols - c.rank + 1)) l ∷ []

  -- 1, 2 or 11 decides,
  pub open_refused : {s : Tested} {why : Refusal} → s ≡ open_test c.modulus c.ncols (length dense) (length m.pivots) → s ≡ Err why → Err why ≡ back_test dense c m l
  unfolding back_test open_test
  open_refused q e = first_stop first second q e

  -- or 13 and 14 do
  pub open_passed : {x : Tested} → open_test c.modulus c.ncols (length dense) (length m.pivots) ≡ Ok tt → x ≡ lowest (state_test c m ∷ room_test c.rank (c.rank * (c.ncols - c.rank + 1)) l ∷ []) → x ≡ back_test dense c m l
  unfolding back_test open_test
  open_passed q e = first_next first second refl q e

  -- none does
  pub record Passed : Type 0 where
    pub stands : Stands c (lists m [])
    pub long : c.ncols ≤ length dense
    pub room : room_test c.rank (c.rank * (c.ncols - c.rank + 1)) l ≡ Ok tt

  pub passed : back_test dense c m l ≡ Ok tt → Passed
  unfolding back_test open_test
  passed e =
      let both = both_good first second e in
      let rest = lowest_good _ _ both.1 in
      record {
        stands = record { opened = opens c.modulus c.ncols (length dense) m.pivots both.0; state = rest.0 };
        long = dense_long c.modulus c.ncols (length dense) m.pivots both.0;
        room = (lowest_good _ _ rest.1).0;
      }

-- what 13 leaves of the rank
pub record Ranked (c : Counts) : Type 0 where
  pub low : c.rank ≤ c.ncols
  pub few : c.ncols ≤ 1024
  pub product : c.rank * (c.ncols - c.rank + 1) ≤ 1048576

pub ranked : (d : ℕ) (c : Counts) (m : Memory) → open_test c.modulus c.ncols d (length m.pivots) ≡ Ok tt → state_test c m ≡ Ok tt → Ranked c
ranked d c m e t =
    let o : Opened c.modulus c.ncols m.pivots = opens c.modulus c.ncols d m.pivots e in
    let low : c.rank ≤ c.ncols = rank_low c (lists m []) (record { opened = o; state = t }) in
    record { low = low; few = o.wide; product = entries_most c.rank c.rank c.ncols (omega arith) low o.wide }

-- the front of dense memory, wiped, is lent, and U without L
pub passed_builds : (dense : List ℕ) (c : Counts) (m : Memory) (l : Lent) → Passed dense c m l → (front : List ℕ) → front ≡ wiped 0 (take c.ncols dense) → Builds c (memory m.u_cols m.u_vals m.u_ptrs [] [] [] m.pivots) l front
passed_builds dense c m l t front wipe = record {
  opened = t.stands.opened;
  lost = (parts c (lists m []) t.stands).lost;
  fault = (parts c (lists m []) t.stands).fault;
  room = t.room;
  zero = front_zero c.ncols dense front t.long wipe;
}
