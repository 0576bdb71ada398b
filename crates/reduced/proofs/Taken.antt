-- A row whose head stands before all heads of reduced rows, taken by the second walk: accepted there, and the rows are reduced again.
-- Assumes nothing.
use Rattle.std.specs.Prelude.{None, Some}
use mathlib.Core.Path.{◌≡◌, refl, sym, ap, subst, ◌∙◌}
use mathlib.Core.Logic.{◌↔◌}
use mathlib.Core.Bool.{true, cond}
use mathlib.Core.List.{List}
use Prim.Native.Nat.{ℕ, suc, ◌%◌, ◌<◌}
use native.Mathlib.Nat.{mod-eq_of_lt, zero-mod}
use native.Mathlib.Decide.{dec_lt, ℕ_discrete}
use native.Mathlib.Omega.{arith}
use borrow.Author.Tests.{eq-eqb, ne_eqb}
use lib.Dec.{eqb}
use Rattle.linear.proofs.Heads.{Heads}
use Rattle.linear.proofs.Span.{Span, combination_span, span_row, span_trans, span_more}
use Rattle.sparse.specs.Rows.{Entry}
use Rattle.walk.specs.Step.{Upper, Taken, step}
use Rattle.steps.specs.History.{answered}
use Rattle.steps.specs.Rows.{value_of, CleanRow}
use Rattle.steps.specs.Setting.{Inverts, Echelon, with_last, Grown}
use Rattle.steps.proofs.Answers.{answered_none, answered_step}
use Rattle.steps.proofs.Lasts.{up_to, last_all, spans_last, spans_before}
use Rattle.steps.proofs.Nones.{no_head}
use Rattle.steps.proofs.Steps.{step_added, step_echelon, step_spans, second_clear}
use Rattle.steps.proofs.Zeros.{row_small}
use Rattle.reduced.specs.Building.{Falling, Finished}
use Rattle.reduced.proofs.Uniques.{head_there}

-- what stands in place k already
pub last_same {ℓ} : {A : Type ℓ} (k : ℕ) (f : ℕ → A) → with_last k (f k) f ≡ f
unfolding with_last
last_same k f = λ t i. go i (ℕ_discrete i k) t
  where
    go : (i : ℕ) → Dec (i ≡ k) → cond (eqb i k) (f k) (f i) ≡ f i
    go i (yes e) = rw (eq-eqb i k e) (ap f (sym e))
    go i (no e) = rw (ne_eqb i k e)

-- U after rows by falling head is in echelon form
pub finished_echelon : {p n k : ℕ} {rows : ℕ → List Entry} {h : ℕ → ℕ} {u : Upper} → Finished p n k rows h u → Echelon p n k u h
finished_echelon done = record { heads = done.reduced.heads; table = done.table }

-- its rows are 0 over every head but their own, those of the rows still to come too
pub clear_all : {p n m k : ℕ} {rows : ℕ → List Entry} {h : ℕ → ℕ} {u : Upper} → Falling p n m rows h → Finished p n k rows h u → (i e : ℕ) → i < k → e < m → (i ≡ e → ⊥) → u.value i (h e) ≡ 0
clear_all {p} {n} {m} {k} {rows} {h} {u} falling done i e l b other = go (dec_lt e k)
  where
    go : Dec (e < k) → u.value i (h e) ≡ 0
    go (yes q) = done.reduced.clear i e l q other
    go (no q) =
        sym (mod-eq_of_lt (done.reduced.small i l (h e) (falling.within e b)))
        ∙ done.reduced.heads.before i l (h e) (falling.falls i e (omega arith) b)
        ∙ zero-mod p

module _ {p n m : ℕ} {rows : ℕ → List Entry} {h : ℕ → ℕ} (inverts : Inverts p) (falling : Falling p n m rows h)
    (k : ℕ) (low : k < m) (u : Upper) (done : Finished p n k rows h u) where
  abbrev given : ℕ → ℕ → ℕ
  given i = value_of (rows i)

  echelon : Echelon p n k u h
  echelon = finished_echelon done

  row : CleanRow p n (rows k)
  row = falling.clean k low

  -- rows that span the row have a head where it begins
  head_in_lem : {l : ℕ} {v : ℕ → ℕ → ℕ} {f : ℕ → ℕ} → Heads p n l v f → Span p n l v (given k) → (i : ℕ) × (i < l) × (f i ≡ h k)
  head_in_lem heads span =
      head_there inverts.least heads span (h k) (falling.within k low)
      (ap (λ (z : ℕ). z % p) (falling.one k low))
      (λ j b. ap (λ (z : ℕ). z % p) (falling.before k low j b))

  pub not_none : (answered true p n k u (rows k)).answer ≡ None → ⊥
  not_none e =
      let w = head_in_lem echelon.heads (combination_span ((answered_none true p n k u h inverts echelon (rows k) row).0 e)) in
      omega (arith, w.2, falling.falls w.0 k w.1 low)

  module _ {g : ℕ} {v : Upper} (e : (answered true p n k u (rows k)).answer ≡ Some g) (grown : Grown n k g u (answered true p n k u (rows k)).u v) where
    walked : answered true p n k u (rows k) ≡ step true p n k u (rows k)
    walked = answered_step true p n k u (rows k) g e

    found : (step true p n k u (rows k)).answer ≡ Some g
    found = ap (λ (t : Taken). t.answer) (sym walked) ∙ e

    new : Grown n k g u (step true p n k u (rows k)).u v
    new = subst (λ (t : Taken). Grown n k g u t.u v) walked grown

    spans : {y : ℕ → ℕ} → Span p n (suc k) v.value y ↔ Span p n (suc k) (with_last k (given k) u.value) y
    spans = step_spans true p n k u h inverts echelon (rows k) row found new

    raised : Echelon p n (suc k) v (with_last k g h)
    raised = step_echelon true p n k u h inverts echelon (rows k) row found new

    -- accepted where it begins
    pub at_own : g ≡ h k
    at_own =
        let w = head_in_lem raised.heads (spans.1 (spans_last (given k) u.value)) in
        last_all k g h (λ i c. c ≡ h k → g ≡ h k) (λ q. q) (λ i l q. absurd (omega (arith, falling.falls i k l low, q))) w.0 w.1 w.2

    taller : Echelon p n (suc k) v h
    taller = subst (Echelon p n (suc k) v) (ap (λ (c : ℕ). with_last k c h) at_own ∙ last_same k h) raised

    pub new_row : CleanRow p n (answered true p n k u (rows k)).u
    new_row = subst (λ (t : Taken). CleanRow p n t.u) (sym walked) (step_added true p n k u h inverts echelon (rows k) row found).clean

    -- residues
    small : (i : ℕ) → i < suc k → (j : ℕ) → j < n → v.value i j < p
    small =
        up_to (λ i. (j : ℕ) → j < n → v.value i j < p) k
        (λ j b. rw (grown.added j b) (row_small (omega (arith, inverts.least)) new_row j))
        (λ i l j b. rw (new.kept i l j b) (done.reduced.small i l j b))

    -- 0 over the other heads: the new row by the second walk
    new_clear : (e : ℕ) → e < k → v.value k (h e) ≡ 0
    new_clear e l =
        let within : h e < n = echelon.heads.within e l in
        new.added (h e) within ∙ second_clear p n k u h inverts echelon (rows k) row found (h e) within (λ free. no_head echelon (h e) free e l refl)

    old_clear : (i : ℕ) → i < k → (e : ℕ) → e < suc k → (i ≡ e → ⊥) → v.value i (h e) ≡ 0
    old_clear i l e b other = new.kept i l (h e) (falling.within e (omega arith)) ∙ clear_all falling done i e l (omega arith) other

    clear : (i e : ℕ) → i < suc k → e < suc k → (i ≡ e → ⊥) → v.value i (h e) ≡ 0
    clear i e a b =
        up_to (λ i. (e : ℕ) → e < suc k → (i ≡ e → ⊥) → v.value i (h e) ≡ 0) k
        (up_to (λ e. (k ≡ e → ⊥) → v.value k (h e) ≡ 0) k (λ ne. absurd (ne refl)) (λ e l ne. new_clear e l))
        old_clear
        i a e b

    -- the span
    to : (i : ℕ) → i < suc k → Span p n (suc k) given (v.value i)
    to i l =
        span_trans
        (last_all k (given k) u.value (λ i y. Span p n (suc k) given y) (span_row k (omega arith)) (λ i b. span_more ((done.spans.same (u.value i)).1 (span_row i b))))
        (spans.0 (span_row i l))

    from : (i : ℕ) → i < suc k → Span p n (suc k) v.value (given i)
    from i l =
        spans.1
        (up_to (λ i. Span p n (suc k) (with_last k (given k) u.value) (given i)) k (spans_last (given k) u.value)
        (λ i b. span_trans (spans_before (given k) u.value) ((done.spans.same (given i)).0 (span_row i b))) i l)

    pub finished_more : Finished p n (suc k) rows h v
    finished_more = record {
      table = taller.table;
      reduced = record { heads = taller.heads; small = small; clear = clear };
      spans = record { same = λ y. (span_trans from, span_trans to) };
    }
