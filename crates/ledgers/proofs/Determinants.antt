-- The determinant is 0 exactly if its reduction met a None; and the rows that it took.
-- Assumes nothing.
use Rattle.std.specs.Prelude.{Err, Ok}
use mathlib.Core.Path.{◌≡◌, refl, sym, ap, subst, ◌∙◌}
use mathlib.Core.Logic.{◌↔◌}
use mathlib.Core.Bool.{Bool, true, false, cond}
use mathlib.Core.List.{[]}
use Prim.Native.Nat.{ℕ, ◌-◌, ◌%◌, ◌<◌}
use native.Mathlib.Nat.{mod-eq_of_lt}
use native.Mathlib.Omega.{arith}
use lib.Dec.{eqb}
use lib.ListN.{length}
use Rattle.sparse.specs.Refusals.{Tested}
use Rattle.sparse.specs.Lent.{Outcome, outcome, unless}
use Rattle.sparse.specs.Matrix.{Matrix}
use Rattle.sparse.specs.Rows.{rows_of}
use Rattle.state.specs.Fresh.{counts}
use Rattle.state.specs.declared.Counts.{Counts}
use Rattle.state.specs.declared.Mode.TheVariants.{Full}
use Rattle.steps.specs.History.{accepted}
use Rattle.stepping.specs.Take.{Lists}
use Rattle.telling.specs.Runs.{run}
use Rattle.telling.specs.declared.Reduced.{Reduced}
use Rattle.telling.specs.declared.Reduced.TheVariants.{Taken, Dependent, Stopped as Short, Refused as Unfolded}
use Rattle.telling.specs.declared.Run.{Run}
use Rattle.running.specs.Rows.{Night, night, Written, written, take_rows}
use Rattle.batches.specs.Batch.{restarted, take_matrix, take_anew}
use Rattle.nights.proofs.Folds.{run_in}
use Rattle.determinant.specs.Det.{det_test, valued, determined, det}
use Rattle.signs.specs.Value.{signed, value_of}
use Rattle.determinant.specs.declared.Determined.{Determined}
use Rattle.determinant.specs.declared.Determined.TheVariants.{Value, Refused}
use Rattle.determinant.specs.declared.Valued.{Valued}
use Rattle.determinant.proofs.Dets.{det_anew}
use Rattle.signs.proofs.Sums.{product_small}
use Rattle.strides.proofs.Anews.{anew_ends, run_of, valued_run, det_begun}
use Rattle.strides.proofs.Folds.{apart, Ends}
use Rattle.ledgers.specs.Means.{Means}
use Rattle.ledgers.specs.Taken.{Took}
use Rattle.ledgers.proofs.Diagonals.{all_product}
use Rattle.ledgers.proofs.Takens.{took_prime}

-- a residue but 0 stays one with its sign
signed_some : (p turns v : ℕ) → v < p → (v ≡ 0 → ⊥) → signed p turns v ≡ 0 → ⊥
unfolding signed
signed_some p turns v low some = go (eqb (turns % 2) 1)
  where
    go : (b : Bool) → cond b ((p - v) % p) v ≡ 0 → ⊥
    go true e = some (let z : p - v ≡ 0 = sym (mod-eq_of_lt (below some)) ∙ e in absurd (omega arith))
      where
        below : (v ≡ 0 → ⊥) → p - v < p
        below f = omega (arith, f)
    go false e = some e

module _ (p : ℕ) (a : Matrix) (o : Lists) where
  abbrev w : Night
  w = night o.memory [] o.dense

  abbrev c : Counts
  c = counts Full p a.ncols 0 0 0 0

  -- what the reduction comes to
  abbrev fold : Outcome Reduced Written
  fold = take_rows false true (rows_of a) (outcome (Taken (run 0 c)) (written (restarted Full a.ncols o.memory) []))

  module _ (good : det_test p a o.dense o.memory.u_ptrs o.memory.l_ptrs o.memory.pivots ≡ Ok tt) where
    ends : Ends false true (run 0 c) p a.ncols c (restarted Full a.ncols o.memory) [] (rows_of a) fold
    ends = anew_ends (det_anew p a o good) false true (run 0 c)

    -- the rows that it took, whatever ended it
    fold_took : Took Full p a.ncols ends.appended.new (run_in (run 0 c) fold.answer).counts fold.memory.memory
    fold_took = record { from = restarted Full a.ncols o.memory; start = det_begun p a o good; strides = ends.appended.strides }

    -- the value, where all rows were taken
    abbrev value_here : Run → ℕ
    value_here r = value_of p a.ncols r.counts.l_rows fold.memory.memory.l_vals fold.memory.memory.l_ptrs fold.memory.memory.pivots

    -- none was answered None, so it isn't 0
    taken_some : (r : Run) → fold.answer ≡ Taken r → value_here r ≡ 0 → ⊥
    unfolding run_in value_of
    taken_some r e =
        let t : Took Full p a.ncols ends.appended.new r.counts fold.memory.memory = subst (λ (x : Reduced). Took Full p a.ncols ends.appended.new (run_in (run 0 c) x).counts fold.memory.memory) e fold_took in
        signed_some p _ _ (product_small p fold.memory.memory.l_ptrs fold.memory.memory.l_vals r.counts.l_rows (took_prime t).least) (all_product t (ends.accepts refl (λ q z. apart (sym e ∙ z))))

    abbrev valued_as : Reduced → Determined
    valued_as x = valued p a.ncols x fold.memory.memory.l_vals fold.memory.memory.l_ptrs fold.memory.memory.pivots

    -- the value, by what the reduction came to
    valued_zero : (v : Valued) (x : Reduced) → fold.answer ≡ x → valued_as x ≡ Value v → (v.value ≡ 0) ↔ ((r : Run) × (x ≡ Dependent r))
    unfolding valued
    valued_zero v (Taken r) e q =
        let same : record { value = value_here r; run = r } ≡ v = cc in
        ((λ z. absurd (taken_some r e (ap (λ (y : Valued). y.value) same ∙ z))), (λ z. absurd (apart z.1)))
    valued_zero v (Dependent r) e q =
        let same : record { value = 0; run = r } ≡ v = cc in
        ((λ z. (r, refl)), (λ z. sym (ap (λ (y : Valued). y.value) same)))
    valued_zero v (Short s) e q = let z : ◌≡◌ {A = ℕ} 0 1 = cc in absurd (omega arith)
    valued_zero v (Unfolded why) e q = let z : ◌≡◌ {A = ℕ} 0 1 = cc in absurd (omega arith)

    run_here : (v : Valued) → valued_as fold.answer ≡ Value v → run_in (run 0 c) fold.answer ≡ v.run
    unfolding run_of
    run_here v q = valued_run (run 0 c) p a.ncols fold.answer _ _ _ ∙ ap (run_of (run 0 c)) q

    -- it ended at a None exactly if not all rows that it took were accepted
    fold_none : ((r : Run) × (fold.answer ≡ Dependent r)) ↔ (length (accepted ends.appended.new) < length ends.appended.new)
    fold_none = ((λ z. ends.meets z.0 z.1), go fold.answer refl)
      where
        go : (x : Reduced) → fold.answer ≡ x → length (accepted ends.appended.new) < length ends.appended.new → (r : Run) × (fold.answer ≡ Dependent r)
        go (Dependent r) e l = (r, e)
        go (Taken s) e l = absurd (omega (arith, ends.accepts refl (λ r q. apart (sym e ∙ q))))
        go (Short s) e l = let no : (r : Run) → fold.answer ≡ Dependent r → ⊥ = λ r q. (let f : Short s ≡ Dependent r = sym e ∙ q in let z : ◌≡◌ {A = ℕ} 0 1 = cc in omega arith) in absurd (omega (arith, ends.accepts refl no))
        go (Unfolded s) e l = let no : (r : Run) → fold.answer ≡ Dependent r → ⊥ = λ r q. (let f : Unfolded s ≡ Dependent r = sym e ∙ q in let z : ◌≡◌ {A = ℕ} 0 1 = cc in omega arith) in absurd (omega (arith, ends.accepts refl no))

    valued_means : (v : Valued) → valued_as fold.answer ≡ Value v → Means p a.ncols (rows_of a) v fold.memory.memory
    valued_means v q =
        let z = valued_zero v fold.answer refl q in
        record {
          ts = ends.appended.new;
          took = subst (λ (r : Run). Took Full p a.ncols ends.appended.new r.counts fold.memory.memory) (run_here v q) fold_took;
          many = ends.appended.many ∙ ap (λ (r : Run). r.taken) (run_here v q);
          first = ends.appended.first;
          zero = ((λ e. fold_none.0 (z.0 e)), (λ l. z.1 (fold_none.1 l)));
        }

  -- by the tests and the value
  module _ (v : Valued) where
    split : {P : Type 0} → (det p a o).answer ≡ Value v → ((good : det_test p a o.dense o.memory.u_ptrs o.memory.l_ptrs o.memory.pivots ≡ Ok tt) → valued_as good fold.answer ≡ Value v → P) → P
    unfolding det unless determined take_anew take_matrix
    split {P} q f = go (det_test p a o.dense o.memory.u_ptrs o.memory.l_ptrs o.memory.pivots) refl q
      where
        go : (t : Tested) → det_test p a o.dense o.memory.u_ptrs o.memory.l_ptrs o.memory.pivots ≡ t → (unless Refused t o (determined p a.ncols (take_anew false true p Full a w))).answer ≡ Value v → P
        go (Err why) e q = let z : ◌≡◌ {A = ℕ} 0 1 = cc in absurd (omega arith)
        go (Ok _) e q = f e q

    -- the value is 0 exactly if the reduction ended at a None
    pub det_zero : (det p a o).answer ≡ Value v → (v.value ≡ 0) ↔ ((r : Run) × ((take_anew false true p Full a w).answer ≡ Dependent r))
    unfolding take_anew take_matrix
    det_zero q = split q (λ good f. valued_zero good v fold.answer refl f)

    -- which is to say, if not all rows that it took were accepted
    pub det_means : (det p a o).answer ≡ Value v → Means p a.ncols (rows_of a) v (det p a o).memory.memory
    unfolding det unless determined take_anew take_matrix
    det_means q = split q (λ good f. rw good (valued_means good v f))
