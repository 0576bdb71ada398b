-- What a walk left in dense memory is what document 01's walk comes to.
-- Assumes nothing.
use Rattle.std.specs.Prelude.{None, Some}
use mathlib.Core.Path.{◌≡◌, refl, sym, ap, ap₂, ◌∙◌}
use mathlib.Core.Bool.{Bool, false, not, and-false}
use mathlib.Core.List.{List, [], ◌∷◌, ◌++◌, append-nil}
use Prim.Native.Nat.{ℕ, ◌*◌, ◌%◌, ◌≤◌, ◌<◌}
use native.Mathlib.Decide.{dec_lt}
use native.Mathlib.Omega.{arith}
use borrow.Author.Tests.{eq-eqb, lt-ltb, le-ltb}
use lib.Dec.{eqb, ltb}
use lib.ListN.{length, get_or}
use Rattle.lists.specs.Find.{keep}
use Rattle.lists.proofs.Tables.{table_ext}
use Rattle.field.specs.Inverse.{inverse}
use Rattle.sparse.specs.Pivots.{mark}
use Rattle.sparse.specs.Rows.{Entry, entry}
use Rattle.walk.specs.Left.{over, rest_of, multiples, answer_of, limit_of, LeftFrom}
use Rattle.walk.specs.Step.{Upper, pivot_at, Way, way, climb, taken, divided, ended, start, walked}
use Rattle.walk.proofs.Same.{Same, climb_same}
use Rattle.walk.proofs.Ways.{rest_free}
use Rattle.steps.specs.Rows.{value_of}
use Rattle.steps.specs.Setting.{Begins, Echelon}
use Rattle.steps.proofs.Ends.{accepted_begins}
use Rattle.storing.specs.Gathers.{l_row}

-- rows that agree below n are divided alike
divided_same : (p n : ℕ) (x y : ℕ → ℕ) (g : ℕ) → g < n → ((j : ℕ) → j < n → x j ≡ y j) → divided p n x g ≡ divided p n y g
unfolding divided
divided_same p n x y g h same =
    ap (keep (λ (e : Entry). not (eqb e.value 0)))
    (table_ext n (λ j. entry j (x j * inverse p (x g) % p)) (λ j. entry j (y j * inverse p (y g) % p)) (λ j l. ap₂ (λ (a b : ℕ). entry j (a * inverse p b % p)) (same j l) (same g h)))

module _ (on : Bool) (p n rank : ℕ) (u : Upper) (heads : ℕ → ℕ) (echelon : Echelon p n rank u heads)
    (es : List Entry) (small : (j : ℕ) → j < n → value_of es j < p)
    (from : ℕ) (dense₁ dense : List ℕ) (head : ℕ) (loaded : (j : ℕ) → j < n → get_or dense₁ j 0 ≡ value_of es j)
    (end : LeftFrom p n (limit_of on n head) u (climb on p u n (way (λ j. get_or dense₁ j 0) [] None)) from dense head) where
  abbrev limit : ℕ
  limit = limit_of on n head

  abbrev w : Way
  w = climb on p u n (way (value_of es) [] None)

  same : Same n (climb on p u n (way (λ j. get_or dense₁ j 0) [] None)) w
  same = climb_same on p n u n (way (λ j. get_or dense₁ j 0) [] None) (way (value_of es) [] None) (omega arith) (record { rest = loaded; l = refl; answer = refl })

  rests : (j : ℕ) → j < n → w.rest j ≡ rest_of u.pivots limit dense j
  rests j l = sym (same.rest j l) ∙ end.left.rest j l

  rows : w.l ≡ multiples u.pivots limit dense
  rows = sym same.l ∙ end.left.l

  answers : w.answer ≡ answer_of n head
  answers = sym same.answer ∙ end.left.answer

  long : length dense ≡ n
  long = end.left.long

  -- a row with a head
  module _ (low : head < n) where
    found : w.answer ≡ Some head
    unfolding answer_of
    found = answers ∙ rw (lt-ltb head n low)

    begins : Begins n u.pivots w.rest head
    begins = accepted_begins on p n rank u heads echelon (value_of es) small head found

    head_value : w.rest head ≡ get_or dense head 0
    head_value = rests head low ∙ rest_free u limit dense head begins.free

    pub head_free : over u.pivots limit head ≡ false
    unfolding over
    head_free = rw (eq-eqb (pivot_at u.pivots head) mark begins.free) (and-false (ltb head limit))

    pub head_stands : get_or dense head 0 ≡ 0 → ⊥
    head_stands e = begins.stands (head_value ∙ e)

    pub head_first : (j : ℕ) → j < head → rest_of u.pivots limit dense j ≡ 0
    head_first j l = sym (rests j (omega arith)) ∙ begins.before j l

    -- it stands at or past the row's first entry
    pub head_from : from ≤ head
    head_from = go (dec_lt head from)
      where
        go : Dec (head < from) → from ≤ head
        go (yes l) = absurd (head_stands (end.before head l))
        go (no l) = omega arith

    pub walked_accepted : walked on p n rank u es ≡ taken (Some head) (divided p n (rest_of u.pivots limit dense) head) (l_row u.pivots dense limit head rank)
    unfolding walked start ended l_row
    walked_accepted =
        let a : divided p n w.rest head ≡ divided p n (rest_of u.pivots limit dense) head = divided_same p n w.rest (rest_of u.pivots limit dense) head low rests in
        let b : w.l ++ (entry rank (w.rest head) ∷ []) ≡ multiples u.pivots limit dense ++ (entry rank (get_or dense head 0) ∷ []) = ap₂ (λ (x : List Entry) (y : ℕ). x ++ (entry rank y ∷ [])) rows head_value in
        rw (found, a, b, long, lt-ltb head n low)

  -- a row without one
  pub walked_none : n ≤ head → walked on p n rank u es ≡ taken None [] (l_row u.pivots dense limit head rank)
  unfolding walked start ended l_row answer_of
  walked_none h =
      let a : w.answer ≡ None = answers ∙ rw (le-ltb head n h) in
      rw (a, rows, long, le-ltb head n h) (ap (taken None []) (sym (append-nil (multiples u.pivots limit dense))))
