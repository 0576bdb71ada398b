-- A row that is copied directly is what the walk makes of it, in both walks.
-- Assumes nothing.
use Rattle.std.specs.Prelude.{None, Some}
use mathlib.Core.Path.{◌≡◌, refl, sym, ap, ap₂, ◌∙◌}
use mathlib.Core.Logic.{⊎_elim}
use mathlib.Core.Bool.{Bool, true, false, not, cond, true≢false}
use mathlib.Core.List.{List, [], ◌∷◌, map}
use Prim.Native.Nat.{ℕ, zero, suc, ◌*◌, ◌%◌, ◌<◌}
use native.Mathlib.Nat.{mod-eq_of_lt, zero-mod, zero-mul, mul-zero, mul_comm, not-suc-le-zero}
use native.Mathlib.Decide.{dec_lt, ℕ_discrete}
use native.Mathlib.Omega.{arith}
use borrow.Author.Tests.{eq-eqb, ne_eqb, lt-ltb, le-ltb, eqb-true, not-false}
use lib.Dec.{eqb, ltb}
use lib.ListN.{length, length-map}
use Rattle.lists.specs.Find.{count}
use Rattle.lists.proofs.Find.{told}
use Rattle.lists.proofs.Gathers.{gather_ext, map-gather}
use Rattle.field.specs.Inverse.{inverse}
use Rattle.field.proofs.Inverses.{undo}
use Rattle.meaning.proofs.Values.{value_elsewhere, before_head, at_head}
use Rattle.sparse.specs.Pivots.{mark}
use Rattle.sparse.specs.Put.{cols_of, values_of}
use Rattle.sparse.specs.Rows.{Entry, entry}
use Rattle.walk.specs.Step.{Upper, pivot_at, is_none, Way, way, accept, stopped, at, climb, taken, divided, ended, start, walked, copied, direct, step}
use Rattle.walk.proofs.Ways.{at_zero, at_stopped, at_free}
use Rattle.steps.specs.Rows.{value_of, entry_at, Storable, CleanRow}
use Rattle.steps.specs.Setting.{Inverts, Begins}
use Rattle.steps.proofs.Ends.{none_goes}
use Rattle.steps.proofs.Entries.{map_at}
use Rattle.steps.proofs.Zeros.{without_zeros, by_columns, row_clean, row_small, row_same}

-- a row x that begins at g, where no pivot stands; in the second walk none stands under any of its values
module _ (on : Bool) (p n : ℕ) (u : Upper) (x : ℕ → ℕ) (g : ℕ) (begins : Begins n u.pivots x g) (clear : on ≡ true → (j : ℕ) → (x j ≡ 0 → ⊥) → pivot_at u.pivots j ≡ mark) where
  -- at a column past its head
  past : (c : ℕ) → g < c → at on p u c (way x [] (Some g)) ≡ way x [] (Some g)
  unfolding accept stopped is_none
  past c h = go on refl
    where
      go : (b : Bool) → on ≡ b → at on p u c (way x [] (Some g)) ≡ way x [] (Some g)
      go false e = at_stopped on p u c (way x [] (Some g)) (rw e)
      go true e = there (ℕ_discrete (x c) 0)
        where
          there : Dec (x c ≡ 0) → at on p u c (way x [] (Some g)) ≡ way x [] (Some g)
          there (yes z) = at_zero on p u c (way x [] (Some g)) z
          there (no z) = at_free on p u c (way x [] (Some g)) (rw e) z (clear e c z)

  -- the walk changes nothing
  pub untouched : (c : ℕ) → climb on p u c (way x [] None) ≡ way x [] (cond (ltb g c) (Some g) None)
  unfolding climb accept is_none
  untouched zero = rw (le-ltb g 0 (omega arith))
  untouched (suc c) = ap (at on p u c) (untouched c) ∙ go (dec_lt c g) (dec_lt g c)
    where
      go : Dec (c < g) → Dec (g < c) → at on p u c (way x [] (cond (ltb g c) (Some g) None)) ≡ way x [] (cond (ltb g (suc c)) (Some g) None)
      go (yes b) d = at_zero on p u c (way x [] (cond (ltb g c) (Some g) None)) (begins.before c b) ∙ rw (le-ltb g c (omega arith), le-ltb g (suc c) (omega arith))
      go (no b) (yes d) = rw (lt-ltb g c d, lt-ltb g (suc c) (omega arith)) (past c d)
      go (no b) (no d) =
          let e : c ≡ g = omega arith in
          rw (e, le-ltb g g (omega arith), lt-ltb g (suc g) (omega arith)) (at_free on p u g (way x [] None) (none_goes on (way x [] None) refl) begins.stands begins.free)

-- dividing by b: 0 where it was
module _ (p : ℕ) (inverts : Inverts p) (b : ℕ) (pos : 0 < b) (below : b < p) where
  -- times the inverse, then times b
  pub undivided : (a : ℕ) → b * (a * inverse p b % p) % p ≡ a % p
  undivided a = ap (λ (z : ℕ). b * (z % p) % p) (mul_comm a (inverse p b)) ∙ undo a (record { less = below; law = ap (λ (z : ℕ). z % p) (mul_comm (inverse p b) b) ∙ inverts.law b pos below })

  divided_zero : (a : ℕ) → a < p → not (eqb (a * inverse p b % p) 0) ≡ not (eqb a 0)
  divided_zero a h = go (ℕ_discrete a 0)
    where
      go : Dec (a ≡ 0) → not (eqb (a * inverse p b % p) 0) ≡ not (eqb a 0)
      go (yes e) = rw (eq-eqb a 0 e, eq-eqb (a * inverse p b % p) 0 (ap (λ (z : ℕ). z * inverse p b % p) e ∙ ap (λ (z : ℕ). z % p) (zero-mul (inverse p b)) ∙ zero-mod p))
      go (no ne) = rw (ne_eqb a 0 ne, ne_eqb (a * inverse p b % p) 0 (λ z. ne (sym (mod-eq_of_lt h) ∙ sym (undivided a) ∙ ap (λ (y : ℕ). b * y % p) z ∙ ap (λ (y : ℕ). y % p) (mul-zero b) ∙ zero-mod p)))

  -- a clean row divided, entry by entry
  divided_entries : (n : ℕ) (es : List Entry) → CleanRow p n es → without_zeros n (λ j. value_of es j * inverse p b % p) ≡ map (λ d. entry d.col (d.value * inverse p b % p)) es
  divided_entries n es row =
      by_columns n (λ j. value_of es j * inverse p b % p)
      ∙ gather_ext (λ j. not (eqb (value_of es j * inverse p b % p) 0)) (λ j. not (eqb (value_of es j) 0)) _ _ n (λ j h. divided_zero (value_of es j) (row_small (omega arith) row j)) (λ j h q. refl)
      ∙ sym (map-gather (λ (d : Entry). entry d.col (d.value * inverse p b % p)) (λ j. not (eqb (value_of es j) 0)) (λ j. entry j (value_of es j)) n)
      ∙ ap (map (λ (d : Entry). entry d.col (d.value * inverse p b % p))) (sym (by_columns n (value_of es)) ∙ row_same row)

-- where none passes, each fails
count_each : (f : Entry → Bool) (es : List Entry) → count f es ≡ 0 → (i : ℕ) → i < length es → f (entry_at es i) ≡ false
unfolding count
count_each f [] e i h = absurd (not-suc-le-zero h)
count_each f (x ∷ es) e i h = go (f x) refl i h (count_each f es)
  where
    go : (b : Bool) → f x ≡ b → (i : ℕ) → i < suc (length es) → (count f es ≡ 0 → (i : ℕ) → i < length es → f (entry_at es i) ≡ false) → f (entry_at (x ∷ es) i) ≡ false
    go true q i l ih = absurd (omega (arith, rw q at e))
    go false q zero l ih = q
    go false q (suc i) l ih = ih (omega (arith, rw q at e)) i (omega arith)

-- what direct copying asks for: no pivot at an entry's column in the second walk, at the head's in both
free_each : (u : Upper) (e : Entry) (es : List Entry) → direct true u (e ∷ es) ≡ true → (i : ℕ) → i < length (e ∷ es) → pivot_at u.pivots (entry_at (e ∷ es) i).col ≡ mark
unfolding direct
free_each u e es d i h =
    eqb-true (pivot_at u.pivots (entry_at (e ∷ es) i).col) mark
    (not-false (eqb (pivot_at u.pivots (entry_at (e ∷ es) i).col) mark) (count_each over (e ∷ es) (eqb-true (count over (e ∷ es)) 0 d) i h))
  where
    over : Entry → Bool
    over d = not (eqb (pivot_at u.pivots d.col) mark)

free_head : (on : Bool) (u : Upper) (e : Entry) (es : List Entry) → direct on u (e ∷ es) ≡ true → pivot_at u.pivots e.col ≡ mark
unfolding direct
free_head false u e es d = eqb-true (pivot_at u.pivots e.col) mark d
free_head true u e es d = free_each u e es d 0 (omega arith)

free_values : (on : Bool) (u : Upper) (e : Entry) (es : List Entry) → direct on u (e ∷ es) ≡ true → on ≡ true → (j : ℕ) → (value_of (e ∷ es) j ≡ 0 → ⊥) → pivot_at u.pivots j ≡ mark
unfolding cols_of values_of
free_values false u e es d o j stands = absurd (true≢false (sym o))
free_values true u e es d o j stands = go (ℕ_discrete (pivot_at u.pivots j) mark)
  where
    go : Dec (pivot_at u.pivots j ≡ mark) → pivot_at u.pivots j ≡ mark
    go (yes m) = m
    go (no m) = absurd (stands (value_elsewhere (cols_of (e ∷ es)) (values_of (e ∷ es)) j (λ k h q.
        let b : k < length (e ∷ es) = omega (arith, length-map (e ∷ es) (λ (d : Entry). d.col)) in
        m (ap (pivot_at u.pivots) (sym q ∙ map_at (λ (d : Entry). d.col) (e ∷ es) k b) ∙ free_each u e es d k b))))

module _ (on : Bool) (p n rank : ℕ) (u : Upper) (inverts : Inverts p) where
  -- copy and walk agree
  pub copy_walk : (es : List Entry) → CleanRow p n es → direct on u es ≡ true → copied p rank es ≡ walked on p n rank u es
  unfolding direct copied walked start ended divided cols_of values_of
  copy_walk [] row d = absurd (true≢false (sym d))
  copy_walk (e ∷ es) row d = sym (ap (λ (w : Way). ended p n rank w.answer w) walk ∙ ap₂ (λ (ds : List Entry) (v : ℕ). taken (Some e.col) ds (entry rank v ∷ [])) new value)
    where
      x : ℕ → ℕ
      x = value_of (e ∷ es)

      value : x e.col ≡ e.value
      value = at_head (row_clean row)

      stored : Storable p e.value
      stored = row.values.at 0 (omega arith)

      begins : Begins n u.pivots x e.col
      begins = record {
        within = row.climbs.below 0 (omega arith);
        free = free_head on u e es d;
        stands = λ z. omega (arith, stored.pos, value);
        before = before_head (row_clean row);
      }

      walk : climb on p u n (way x [] None) ≡ way x [] (Some e.col)
      walk = untouched on p n u x e.col begins (free_values on u e es d) n ∙ rw (lt-ltb e.col n begins.within)

      new : divided p n x e.col ≡ map (λ d. entry d.col (d.value * inverse p e.value % p)) (e ∷ es)
      new = ap (λ (v : ℕ). without_zeros n (λ j. x j * inverse p v % p)) value ∙ divided_entries p inverts e.value stored.pos stored.below n (e ∷ es) row

  -- so a step is a walk
  pub step_walked : (es : List Entry) → CleanRow p n es → step on p n rank u es ≡ walked on p n rank u es
  unfolding step
  step_walked es row = ⊎_elim (λ d. rw d (copy_walk es row d)) (λ d. rw d) (told (direct on u es))
