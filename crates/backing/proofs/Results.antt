-- What back substitution makes: a state whose rows are reduced, span what U's rows span, and are the only such rows, one for
-- each pivot from the highest column down.
-- Assumes nothing.
use Rattle.std.specs.Prelude.{Err, Ok}
use mathlib.Core.Path.{◌≡◌, refl, sym, ap, subst, ◌∙◌}
use mathlib.Core.Bool.{false}
use mathlib.Core.List.{List, [], flatten}
use Prim.Native.Nat.{ℕ, ◌<◌}
use native.Mathlib.Omega.{arith}
use lib.ListN.{length}
use Rattle.sparse.specs.Refusals.{Tested}
use Rattle.lists.specs.Onto.{◌onto◌}
use Rattle.lists.specs.Table.{table}
use Rattle.sparse.specs.Lent.{Lent, Outcome, outcome, unless}
use Rattle.sparse.specs.Put.{put_rows}
use Rattle.sparse.specs.Rows.{row_at}
use Rattle.state.specs.Memory.{Memory}
use Rattle.state.specs.State.{u_lost, l_fault, u_of}
use Rattle.state.specs.declared.Counts.{Counts}
use Rattle.state.specs.declared.Mode.TheVariants.{None}
use Rattle.state.proofs.Faults.{lost_none}
use Rattle.walk.specs.Step as S
use Rattle.steps.specs.Setting.{Inverts, Echelon, Tabled}
use Rattle.stepping.specs.Asks.{Stands}
use Rattle.stepping.specs.Take.{lists, cleared}
use Rattle.stepping.proofs.Walks.{parts}
use Rattle.keeping.proofs.Places.{none_lost}
use Rattle.keeping.proofs.Settings.{rows_in, parts_state}
use Rattle.keeping.proofs.Uppers.{upright_sound}
use Rattle.reduced.specs.Building.{Finished}
use Rattle.reduced.specs.Order.{column_down}
use Rattle.reduced.specs.Reduced.{Reduced, SameSpan, Among}
use Rattle.reduced.proofs.Backs.{back_finished, back_spans, back_only}
use Rattle.reduced.proofs.Uniques.{reduced_count, span_back, span_join}
use Rattle.backing.specs.Asks.{Builds}
use Rattle.backing.specs.Back.{down_row, back_rows, back_pivots, back_test, back_counts, Backing, backing, reducer, backed, back_substitute, Backed}
use Rattle.backing.proofs.Downs.{heads, echelon, inverts, clean, means, falling}
use Rattle.backing.proofs.Filled.{long_cols, long_vals, long_ptrs, long_pivots, filling_few, filling_last}
use Rattle.backing.proofs.Fillings.{Filling}
use Rattle.backing.proofs.Fits.{rows_many, rank_few, second_room}
use Rattle.backing.proofs.Passed.{passed}

-- what the tests leave
module _ (c : Counts) (m : Memory) (l : Lent) (dense : List ℕ) (good : back_test dense c m l ≡ Ok tt) where
  stands : Stands c (lists m [])
  stands = (passed dense c m l good).stands

  builds : Builds c m l (table c.ncols (λ j. 0))
  builds = record { opened = stands.opened; lost = (parts c (lists m []) stands).lost; fault = (parts c (lists m []) stands).fault; room = (passed dense c m l good).room; zero = refl }

  abbrev fill : ℕ
  fill = length (flatten (back_rows c m))

  abbrev second : Lent
  second = put_rows (back_rows c m) l

  abbrev pivots : List ℕ
  pivots = back_pivots c m onto m.pivots

  abbrev v : S.Upper
  v = S.upper second.col_idcs second.values second.row_ptrs pivots

  abbrev h : ℕ → ℕ
  h = column_down m.pivots c.ncols

  last : Filling c m l c.rank fill second.row_ptrs second.col_idcs second.values pivots (cleared c.ncols (table c.ncols (λ j. 0)))
  last = filling_last builds

  inv : Inverts c.modulus
  inv = inverts c m builds.opened builds.lost builds.fault

  firm : Echelon c.modulus c.ncols c.rank (rows_in m) (heads c m builds.opened builds.lost builds.fault)
  firm = echelon c m builds.opened builds.lost builds.fault

  -- the second U's rows are those of back substitution
  done : Finished c.modulus c.ncols c.rank (down_row c m) h v
  unfolding down_row S.upper
  done = back_finished inv firm (row_at (u_of c m)) (clean c m builds.opened builds.lost builds.fault) (means c m builds.opened builds.lost builds.fault) last.built

  spans : SameSpan c.modulus c.ncols c.rank (rows_in m).value c.rank v.value
  unfolding down_row S.upper
  spans = back_spans inv firm (row_at (u_of c m)) (clean c m builds.opened builds.lost builds.fault) (means c m builds.opened builds.lost builds.fault) last.built

  only : {j : ℕ} {s : ℕ → ℕ → ℕ} {g : ℕ → ℕ} → Reduced c.modulus c.ncols j s g → SameSpan c.modulus c.ncols c.rank (rows_in m).value j s → (i : ℕ) → i < j → Among c.ncols (s i) (g i) c.rank v.value h
  unfolding down_row S.upper
  only = back_only inv firm (row_at (u_of c m)) (clean c m builds.opened builds.lost builds.fault) (means c m builds.opened builds.lost builds.fault) last.built

  -- and pass U's test
  found : u_lost c.rank fill second.col_idcs second.values second.row_ptrs ≡ false
  found =
      none_lost c.rank fill second.col_idcs second.values second.row_ptrs
      (omega (arith, long_ptrs builds last, (second_room builds).pointers, rows_many builds))
      (omega (arith, rank_few builds))
      (omega (arith, long_cols builds last, (second_room builds).columns))
      (omega (arith, long_vals builds last, (second_room builds).numbers))
      (filling_few builds last)

  no_l : l_fault None (back_counts c fill) m.l_cols m.l_vals m.l_ptrs ≡ false
  unfolding l_fault back_counts
  no_l = refl

  stands_again : (d : List ℕ) → Stands (back_counts c fill) (lists (reducer m (backed c m l d)) d)
  unfolding back_counts backed S.upper
  stands_again d = record {
    opened = record { modulus = builds.opened.modulus; wide = builds.opened.wide; table = omega (arith, builds.opened.table, long_pivots builds last) };
    state = parts_state (record {
      lost = found;
      fault = upright_sound (lost_none c.rank fill second.col_idcs second.values second.row_ptrs found) last.upright builds.opened.modulus (rank_few builds) builds.opened.wide done.table;
      multipliers = no_l;
    });
  }

-- back substitution that isn't refused
module _ (c : Counts) (m : Memory) (l : Lent) (dense : List ℕ) {after : Counts} (made : (back_substitute c m l dense).answer ≡ Ok after) where
  abbrev result : Backing
  result = (back_substitute c m l dense).memory

  good : back_test dense c m l ≡ Ok tt
  unfolding back_substitute unless
  good = go (back_test dense c m l) (backing m.pivots l dense) (outcome (Ok (back_counts c (length (flatten (back_rows c m))))) (backed c m l dense)) made
    where
      go : (t : Tested) (x : Backing) (o : Outcome Backed Backing) → (unless Err t x o).answer ≡ Ok after → t ≡ Ok tt
      go (Ok _) x o e = refl
      go (Err why) x o e = let z : ◌≡◌ {A = ℕ} 0 1 = cc in absurd (omega arith)

  ends : back_substitute c m l dense ≡ outcome (Ok (back_counts c (length (flatten (back_rows c m))))) (backed c m l dense)
  unfolding back_substitute unless
  ends = rw good

  -- the counts: L is empty, and none is kept
  pub back_counted : after ≡ back_counts c (length (flatten (back_rows c m)))
  back_counted = let e : Ok after ≡ Ok (back_counts c (length (flatten (back_rows c m)))) = sym made ∙ ap (λ (o : Outcome Backed Backing). o.answer) ends in cc

  there : (P : Backing → Type 0) → P (backed c m l dense) → P result
  there P x = subst (λ (o : Outcome Backed Backing). P o.memory) (sym ends) x

  -- the second U with the pivot table, the counts and L's lists as they came is a state
  pub back_stands : Stands after (lists (reducer m result) result.dense)
  back_stands = there (λ b. Stands after (lists (reducer m b) b.dense)) (rw back_counted (record { opened = again.opened; state = again.state }))
    where
      again : Stands (back_counts c (length (flatten (back_rows c m)))) (lists (reducer m (backed c m l dense)) dense)
      again = stands_again c m l dense good dense

  -- its rows are reduced
  pub back_rows_reduced : Reduced c.modulus c.ncols c.rank (rows_in (reducer m result)).value (column_down m.pivots c.ncols)
  unfolding backed
  back_rows_reduced = there (λ b. Reduced c.modulus c.ncols c.rank (rows_in (reducer m b)).value (column_down m.pivots c.ncols)) (done c m l dense good).reduced

  -- they span what U's rows span
  pub back_rows_span : SameSpan c.modulus c.ncols c.rank (rows_in m).value c.rank (rows_in (reducer m result)).value
  unfolding backed
  back_rows_span = there (λ b. SameSpan c.modulus c.ncols c.rank (rows_in m).value c.rank (rows_in (reducer m b)).value) (spans c m l dense good)

  -- any reduced rows with that span are among them
  pub back_rows_only : {j : ℕ} {s : ℕ → ℕ → ℕ} {g : ℕ → ℕ} → Reduced c.modulus c.ncols j s g → SameSpan c.modulus c.ncols c.rank (rows_in m).value j s → (i : ℕ) → i < j → Among c.ncols (s i) (g i) c.rank (rows_in (reducer m result)).value (column_down m.pivots c.ncols)
  unfolding backed
  back_rows_only {j} {s} {g} r q i t = there (λ b. Among c.ncols (s i) (g i) c.rank (rows_in (reducer m b)).value (column_down m.pivots c.ncols)) (only c m l dense good r q i t)

  -- and are as many
  pub back_rows_count : {j : ℕ} {s : ℕ → ℕ → ℕ} {g : ℕ → ℕ} → Reduced c.modulus c.ncols j s g → SameSpan c.modulus c.ncols c.rank (rows_in m).value j s → j ≡ c.rank
  back_rows_count r q = reduced_count (inv c m l dense good).least r back_rows_reduced (span_join (span_back q) back_rows_span)

  -- row i has its pivot at the i-th pivot column from the highest down, and the table names no other column
  pub back_table : Tabled c.ncols c.rank (column_down m.pivots c.ncols) result.pivots
  unfolding backed S.upper
  back_table = there (λ b. Tabled c.ncols c.rank (column_down m.pivots c.ncols) b.pivots) (done c m l dense good).table

  pub back_falls : (i e : ℕ) → i < e → e < c.rank → column_down m.pivots c.ncols e < column_down m.pivots c.ncols i
  back_falls = (falling c m (builds c m l dense good).opened (builds c m l dense good).lost (builds c m l dense good).fault).falls
