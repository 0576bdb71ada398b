-- Runs of single steps: one after the other, the rows of each clean; and the state at a fresh start.
-- Assumes nothing.
use Rattle.std.specs.Prelude.{None}
use mathlib.Core.Path.{◌≡◌, sym, ap, subst, ◌∙◌}
use mathlib.Core.List.{List, [], ◌∷◌, ◌++◌, append-nil, append_assoc}
use Prim.Native.Nat.{ℕ, ◌≤◌, ◌<◌, min}
use native.Mathlib.Nat.{min-le_right, not-suc-le-zero}
use native.Mathlib.Decide.{dec_lt}
use native.Mathlib.Omega.{arith}
use lib.ListN.{length, get_or, length-append, length-map, length-take, get_or-append}
use lib.Seq.{get_or_at}
use Rattle.sparse.specs.Rows.{Entry}
use Rattle.state.specs.Fresh.{counts, opening}
use Rattle.state.specs.Memory.{Memory}
use Rattle.state.specs.declared.Counts.{Counts}
use Rattle.state.specs.declared.Mode.{Mode}
use Rattle.steps.specs.History.{Told, told}
use Rattle.steps.specs.Rows.{CleanRow}
use Rattle.stepping.specs.Asks.{Stands}
use Rattle.stepping.specs.Take.{lists, row_step}
use Rattle.keeping.proofs.Pasts.{fresh_stands}
use Rattle.telling.specs.declared.Run.{Run}
use Rattle.running.specs.Rows.{Written}
use Rattle.batches.specs.Batch.{restarted}
use Rattle.strides.specs.Strides.{Begun, begun, Strides, still, stride, Appended}

-- a fresh start is a state
pub begun_stands : {mode : Mode} {p n : ℕ} {m : Memory} → Begun mode p n m → Stands (counts mode p n 0 0 0 0) (lists m [])
unfolding restarted
begun_stands {mode} {p} {n} (begun m good) = fresh_stands p n mode (opening m.u_ptrs m.l_ptrs m.pivots) good m.u_cols m.u_vals m.l_cols m.l_vals []

-- the same modulus and column count by other names
pub strides_as : {p q n i : ℕ} {c d : Counts} {m k : Memory} {ts : List Told} → q ≡ p → i ≡ n → Strides q i c m ts d k → Strides p n c m ts d k
strides_as {p} {i = i} {c = c} {d = d} {m = m} {k = k} {ts = ts} e f strides = subst (λ (x : ℕ). Strides p x c m ts d k) f (subst (λ (x : ℕ). Strides x i c m ts d k) e strides)

module _ {p n : ℕ} {c : Counts} {m : Memory} where
  -- one run after another
  pub strides_join : {ts : List Told} {d : Counts} {k : Memory} {us : List Told} {e : Counts} {l : Memory} → Strides p n c m ts d k → Strides p n d k us e l → Strides p n c m (ts ++ us) e l
  strides_join {ts} past still = rw (append-nil ts) past
  strides_join {ts} past (stride us d k more on es row room) = rw (← append_assoc ts us (told es (row_step on d es k).answer.answer ∷ [])) (stride (ts ++ us) d k (strides_join past more) on es row room)

  -- each row taken was clean
  pub strides_clean : {ts : List Told} {d : Counts} {k : Memory} → Strides p n c m ts d k → (i : ℕ) → i < length ts → CleanRow p n (get_or ts i (told [] None)).row
  strides_clean still i h = absurd (not-suc-le-zero h)
  strides_clean (stride ts d k before on es row room) i h = go (dec_lt i (length ts)) (λ b. strides_clean before i b)
    where
      t : Told
      t = told es (row_step on d es k).answer.answer

      go : Dec (i < length ts) → (i < length ts → CleanRow p n (get_or ts i (told [] None)).row) → CleanRow p n (get_or (ts ++ (t ∷ [])) i (told [] None)).row
      go (yes b) each = rw (get_or-append ts (t ∷ []) (told [] None) i b) (each b)
      go (no b) each = let here : length ts ≡ i = omega (arith, length-append ts (t ∷ [])) in rw (get_or_at ts t [] (told [] None) i here) row

-- no more rows than were offered
pub appended_few : {p n : ℕ} {c : Counts} {m : Memory} {offered : List (List Entry)} {before : List ℕ} {r : Run} {w : Written} (x : Appended p n c m offered before r w) → length x.new ≤ length offered
appended_few {offered = offered} x =
    let same : length x.new ≡ min (length x.new) (length offered) = sym (length-map x.new _) ∙ ap length x.first ∙ length-take (length x.new) offered in
    subst (λ (k : ℕ). k ≤ length offered) (sym same) (min-le_right (length x.new) (length offered))
