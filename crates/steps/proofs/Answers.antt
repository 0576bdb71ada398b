-- Step 1 answers as steps 3 and 4 would: at full rank every row is a combination, and so is an empty row.
-- Assumes nothing.
use Rattle.std.specs.Prelude.{None, Some}
use mathlib.Core.Path.{◌≡◌, refl, sym, ap, subst}
use mathlib.Core.Logic.{◌↔◌, ⊎_elim}
use mathlib.Core.Bool.{Bool, true, false, cond}
use mathlib.Core.List.{List, [], ◌∷◌}
use Prim.Native.Nat.{ℕ, ◌%◌, ◌<◌}
use native.Mathlib.Omega.{arith}
use lib.ListN.{length}
use Rattle.lists.proofs.Decides.{decides_or, decides_eq}
use Rattle.lists.proofs.Find.{told}
use Rattle.linear.specs.Combination.{Combination}
use Rattle.linear.proofs.Heads.{Heads, full}
use Rattle.linear.proofs.Span.{Span, span_combination, span_same, span_zero}
use Rattle.sparse.specs.Rows.{Entry}
use Rattle.walk.specs.Step.{Upper, taken, step}
use Rattle.steps.specs.History.{at_once, answered}
use Rattle.steps.specs.Rows.{value_of, CleanRow}
use Rattle.steps.specs.Setting.{Inverts, Echelon}
use Rattle.steps.proofs.Entries.{value_none}
use Rattle.steps.proofs.Steps.{step_none}
use Rattle.steps.proofs.Zeros.{row_small}

-- step 1 passes over a row only if it is a sum of multiples of the k rows so far: an empty row, or any row where there are n
pub once_span : {p n k : ℕ} {u : ℕ → ℕ → ℕ} {h : ℕ → ℕ} → 0 < p → Heads p n k u h → (es : List Entry) → at_once n k es ≡ true → Span p n k u (value_of es)
unfolding at_once
once_span {p} {n} {k} {u} {h} pos heads es e = ⊎_elim (λ q. empty es q) all ((decides_or (decides_eq (length es) 0) (decides_eq k n)).yes e)
  where
    empty : (ds : List Entry) → length ds ≡ 0 → Span p n k u (value_of ds)
    empty [] q = span_same (λ j l. ap (λ (z : ℕ). z % p) (value_none j)) span_zero
    empty (d ∷ ds) q = absurd (omega arith)

    all : k ≡ n → Span p n k u (value_of es)
    all q = subst (λ (m : ℕ). Span p n m u (value_of es)) (sym q) (full p n u h (subst (λ (m : ℕ). Heads p n m u h) q heads) pos (value_of es))

-- N5: at full rank every row is a combination
pub full_combination : {p n : ℕ} {u : Upper} {h : ℕ → ℕ} → 0 < p → Echelon p n n u h → (x : ℕ → ℕ) → ((j : ℕ) → j < n → x j < p) → Combination p n n u.value x
full_combination {p} {n} {u} {h} pos echelon x small = span_combination pos small (full p n u.value h echelon.heads pos x)

-- an accepted row went through steps 3 and 4
pub answered_step : (on : Bool) (p n k : ℕ) (u : Upper) (es : List Entry) (g : ℕ) → (answered on p n k u es).answer ≡ Some g → answered on p n k u es ≡ step on p n k u es
unfolding answered
answered_step on p n k u es g = go (at_once n k es)
  where
    go : (b : Bool) → (cond b (taken None [] []) (step on p n k u es)).answer ≡ Some g → cond b (taken None [] []) (step on p n k u es) ≡ step on p n k u es
    go true q = let z : ◌≡◌ {A = ℕ} 0 1 = cc in absurd (omega arith)
    go false q = refl

module _ (on : Bool) (p n k : ℕ) (u : Upper) (h : ℕ → ℕ) (inverts : Inverts p) (echelon : Echelon p n k u h) (es : List Entry) (row : CleanRow p n es) where
  pos : 0 < p
  pos = omega (arith, inverts.least)

  small : (j : ℕ) → j < n → value_of es j < p
  small j l = row_small pos row j

  at_once_lem : at_once n k es ≡ true → Combination p n k u.value (value_of es)
  at_once_lem e = span_combination pos small (once_span pos echelon.heads es e)

  -- None exactly if a combination, step 1 included
  pub answered_none : ((answered on p n k u es).answer ≡ None) ↔ Combination p n k u.value (value_of es)
  unfolding answered
  answered_none = ⊎_elim (λ e. ((λ q. at_once_lem e), (λ c. rw e))) (λ e. rw e (step_none on p n k u h inverts echelon es row)) (told (at_once n k es))
