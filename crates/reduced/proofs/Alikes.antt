-- Two Us that agree below n columns make the same of a row.
-- Assumes nothing.
use Rattle.std.specs.Prelude.{None, Some}
use mathlib.Core.Path.{◌≡◌, refl, sym, ap, ap₂, ◌∙◌}
use mathlib.Core.Bool.{Bool, true, false, not, cond}
use mathlib.Core.List.{List, [], ◌∷◌, ◌++◌}
use Prim.Native.Nat.{ℕ, ◌*◌, ◌%◌, ◌<◌}
use native.Mathlib.Omega.{arith}
use lib.Dec.{eqb}
use Rattle.field.specs.Inverse.{inverse}
use Rattle.lists.specs.Find.{keep}
use Rattle.lists.proofs.Tables.{table_ext}
use Rattle.sparse.specs.Rows.{Entry, entry}
use Rattle.walk.specs.Step.{Upper, Way, climb, Taken, taken, divided, ended, start, step, walked, Answer}
use Rattle.walk.proofs.Same.{Same, Alike, climb_alike}
use Rattle.steps.specs.History.{at_once, answered}
use Rattle.steps.specs.Rows.{CleanRow}
use Rattle.steps.specs.Setting.{Inverts}
use Rattle.steps.proofs.Copies.{step_walked}

-- what is left of a row, divided by its head
divided_same : (p n : ℕ) (x y : ℕ → ℕ) (g : ℕ) → g < n → ((j : ℕ) → j < n → x j ≡ y j) → divided p n x g ≡ divided p n y g
unfolding divided
divided_same p n x y g h same =
    ap (keep (λ (e : Entry). not (eqb e.value 0)))
    (table_ext n (λ j. entry j (x j * inverse p (x g) % p)) (λ j. entry j (y j * inverse p (y g) % p)) (λ j l. ap₂ (λ (a b : ℕ). entry j (a * inverse p b % p)) (same j l) (same g h)))

module _ (on : Bool) (p n k : ℕ) (u v : Upper) (alike : Alike n u v) (inverts : Inverts p) (es : List Entry) (row : CleanRow p n es) where
  walked_alike : (g : ℕ) → g < n → (walked on p n k u es).answer ≡ Some g → walked on p n k u es ≡ walked on p n k v es
  unfolding walked ended
  walked_alike g h e = go (climb on p u n (start es)) (climb on p v n (start es)) (climb_alike on p n u v alike n (start es) (start es) (omega arith) (record { rest = λ j l. refl; l = refl; answer = refl })) e
    where
      ends : (w x : Way) → Same n w x → (a : Answer) → (ended p n k a w).answer ≡ Some g → ended p n k a w ≡ ended p n k a x
      ends w x s None q = ap (taken None []) s.l
      ends w x s (Some f) q =
          let same : f ≡ g = cc in
          let low : f < n = omega arith in
          parts (divided_same p n w.rest x.rest f low s.rest) s.l (s.rest f low)
        where
          parts : {a b : List Entry} {c d : List Entry} {r t : ℕ} → a ≡ b → c ≡ d → r ≡ t → taken (Some f) a (c ++ (entry k r ∷ [])) ≡ taken (Some f) b (d ++ (entry k t ∷ []))
          parts q r t = rw (q, r, t)

      go : (w x : Way) → Same n w x → (ended p n k w.answer w).answer ≡ Some g → ended p n k w.answer w ≡ ended p n k x.answer x
      go w x s q = ends w x s w.answer q ∙ ap (λ (a : Answer). ended p n k a x) s.answer

  -- a row that is accepted by the one is accepted by the other, and comes to the same
  pub answered_alike : (g : ℕ) → g < n → (answered on p n k u es).answer ≡ Some g → answered on p n k u es ≡ answered on p n k v es
  unfolding answered
  answered_alike g h = go (at_once n k es)
    where
      go : (b : Bool) → (cond b (taken None [] []) (step on p n k u es)).answer ≡ Some g → cond b (taken None [] []) (step on p n k u es) ≡ cond b (taken None [] []) (step on p n k v es)
      go true e = refl
      go false e =
          let was : step on p n k u es ≡ walked on p n k u es = step_walked on p n k u inverts es row in
          was ∙ walked_alike g h (ap (λ (t : Taken). t.answer) (sym was) ∙ e) ∙ sym (step_walked on p n k v inverts es row)
