-- Back substitution: each outcome.
-- Assumes nothing.
use Rattle.std.specs.Prelude.{Err, Ok}
use mathlib.Core.Path.{◌≡◌, refl, sym, ap, ◌∙◌}
use mathlib.Core.List.{List, [], ◌++◌, flatten}
use Prim.Native.Nat.{ℕ}
use lib.ListN.{length, take, drop}
use Rattle.sparse.specs.Refusals.{Tested}
use Rattle.lists.specs.Onto.{◌onto◌}
use Rattle.sparse.specs.Lent.{Lent, Outcome, outcome, unless}
use Rattle.sparse.specs.Put.{put_rows}
use Rattle.sparse.specs.Rows.{Entry}
use Rattle.sparse.specs.declared.Refusal.{Refusal}
use Rattle.state.specs.Memory.{Memory, memory}
use Rattle.state.specs.State.{u_of}
use Rattle.state.specs.declared.Counts.{Counts}
use Rattle.walk.specs.Dense.{wiped}
use Rattle.stepping.specs.Take.{cleared}
use Rattle.stepping.proofs.Clears.{cleared_zero, front_zero, front_cleared}
use Rattle.backing.specs.Back.{down_row, back_row, back_rows, back_pivots, back_test, back_counts, Backing, backing, backed, back_substitute}
use Rattle.backing.proofs.Passed.{passed}

module _ (c : Counts) (m : Memory) (l : Lent) (dense : List ℕ) {s : Tested} (tested : s ≡ back_test dense c m l) where
  pub back_refused : {why : Refusal} → s ≡ Err why → outcome (Err why) (backing m.pivots l dense) ≡ back_substitute c m l dense
  unfolding back_substitute unless
  back_refused e = rw (sym tested ∙ e)

  -- U without L
  abbrev alone : Memory
  alone = memory m.u_cols m.u_vals m.u_ptrs [] [] [] m.pivots

  same_rows : back_rows c alone ≡ back_rows c m
  unfolding back_rows back_row down_row u_of
  same_rows = refl

  same_pivots : back_pivots c alone ≡ back_pivots c m
  unfolding back_pivots down_row u_of
  same_pivots = refl

  -- the second U is built, and the front of dense memory given back
  module _ (good : s ≡ Ok tt) {front : List ℕ} (wipe : front ≡ wiped 0 (take c.ncols dense)) where
    front_same : cleared c.ncols front ++ drop c.ncols dense ≡ cleared c.ncols dense
    front_same =
        let zero = front_zero c.ncols dense front (passed dense c m l (sym tested ∙ good)).long wipe in
        front_cleared c.ncols dense (cleared c.ncols front) (cleared_zero c.ncols front zero ∙ zero)

    pub back_made : {fill : ℕ} {after : Counts} {pivots back : List ℕ} {l' : Lent}
        → outcome fill (backing pivots l' back) ≡ outcome (length (flatten (back_rows c alone))) (backed c alone l front) → after ≡ back_counts c fill
        → outcome (Ok after) (backing pivots l' (back ++ drop c.ncols dense)) ≡ back_substitute c m l dense
    unfolding back_substitute unless backed
    back_made {fill} {after} {pivots} {back} {l'} built counted =
        let a : fill ≡ length (flatten (back_rows c m)) = ap (λ (o : Outcome ℕ Backing). o.answer) built ∙ ap (λ (rs : List (List Entry)). length (flatten rs)) same_rows in
        let p : pivots ≡ back_pivots c m onto m.pivots = ap (λ (o : Outcome ℕ Backing). o.memory.pivots) built ∙ ap (λ (q : List ℕ). q onto m.pivots) same_pivots in
        let r : l' ≡ put_rows (back_rows c m) l = ap (λ (o : Outcome ℕ Backing). o.memory.second) built ∙ ap (λ (rs : List (List Entry)). put_rows rs l) same_rows in
        let d : back ++ drop c.ncols dense ≡ cleared c.ncols dense = ap (λ (o : Outcome ℕ Backing). o.memory.dense ++ drop c.ncols dense) built ∙ front_same in
        rw (sym tested ∙ good, counted, a, p, r, d)
