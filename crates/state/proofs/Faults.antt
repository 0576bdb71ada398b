-- What U's test tells: part by part, and of the rows that pass each part.
-- Assumes nothing.
use Rattle.std.specs.Prelude.{Err, Ok, is_err}
use mathlib.Core.Path.{◌≡◌, refl, sym, ap, ◌∙◌}
use mathlib.Core.Bool.{Bool, true, false, cond, ◌||◌}
use mathlib.Core.List.{List, [], ◌∷◌}
use Prim.Native.Nat.{ℕ, ◌+◌, ◌≤◌, ◌<◌}
use native.Mathlib.Decide.{dec_lt}
use native.Mathlib.Omega.{arith}
use borrow.Author.Tests.{leb-false, ltb-false, lt-ltb, le-ltb}
use lib.Dec.{ltb}
use lib.ListN.{length, get_or, take}
use lib.Seq.{length-take-le}
use Rattle.lists.specs.Find.{any}
use Rattle.lists.proofs.Find.{any_false}
use Rattle.sparse.specs.Matrix.{Matrix}
use Rattle.sparse.specs.Refusals.{refuse, ◌else◌, lowest, Tested}
use Rattle.sparse.specs.Tests.{modulus_test, size_test, matrix_test, rows_values_test, well_formed, clean}
use Rattle.sparse.specs.declared.inside.Clause.TheVariants.{Nonzero}
use Rattle.sparse.proofs.Cuts.{Laid, laid, row_in}
use Rattle.sparse.proofs.Firsts.{lowest_good, lowest_skip, lowest_last, neither}
use Rattle.meaning.proofs.RowColumns.{column_low}
use Rattle.state.specs.Memory.{at_most, places}
use Rattle.state.specs.Asks.{Seated, Headed, Sized, Opened}
use Rattle.state.specs.State.{headless, u_fault, u_lost, u_rows}

-- the places that are used are there, and within the limit
pub held : {r n : ℕ} → r ≡ at_most n → r ≤ n
unfolding at_most
held {n = n} e = rw e (go (dec_lt 1048576 n))
  where
    go : Dec (1048576 < n) → cond (ltb 1048576 n) 1048576 n ≤ n
    go (yes h) = rw (lt-ltb 1048576 n h) (omega arith)
    go (no h) = rw (le-ltb 1048576 n (omega arith)) (omega arith)

pub limited : {r : ℕ} (n : ℕ) → r ≡ at_most n → r ≤ 1048576
unfolding at_most
limited n e = rw e (go (dec_lt 1048576 n))
  where
    go : Dec (1048576 < n) → cond (ltb 1048576 n) 1048576 n ≤ 1048576
    go (yes h) = rw (lt-ltb 1048576 n h) (omega arith)
    go (no h) = rw (le-ltb 1048576 n (omega arith)) (omega arith)

-- so many can be taken
pub taken_places : {r k : ℕ} (xs : List ℕ) → r ≡ at_most (length xs) → k ≤ r → k ≡ length (take k xs)
taken_places {k = k} xs e h = sym (length-take-le k xs (omega (arith, held e)))

-- a test that doesn't refuse finds nothing
pub not_refused : (t : Tested) → is_err t ≡ false → t ≡ Ok tt
not_refused (Ok _) e = refl
not_refused (Err r) e = let z : ◌≡◌ {A = ℕ} 0 1 = cc in absurd (omega arith)

-- what code found of a test
pub found : {s t : Tested} {b r : Bool} → s ≡ t → r ≡ is_err s → r ≡ b → is_err t ≡ b
found q e h = ap is_err (sym q) ∙ sym e ∙ h

-- the first of two tests, or the second
lowest_two : (s t : Tested) → is_err (lowest (s ∷ t ∷ [])) ≡ is_err s || is_err t
unfolding lowest ◌else◌
lowest_two (Ok u) (Ok v) = refl
lowest_two (Ok u) (Err r) = refl
lowest_two (Err r) t = refl

module _ {p : ℕ} {u : Matrix} {pivots : List ℕ} (s : Sized p u pivots) where
  -- within the limits: 1 and 2 find nothing
  pub clean_parts : is_err (clean 1048576 p u) ≡ is_err (matrix_test p u) || is_err (rows_values_test Nonzero p u.nrows u.row_ptrs u.values)
  unfolding clean well_formed size_test refuse
  clean_parts =
      lowest_two (well_formed 1048576 p u) (rows_values_test Nonzero p u.nrows u.row_ptrs u.values)
      ∙ ap (λ t. is_err t || is_err (rows_values_test Nonzero p u.nrows u.row_ptrs u.values))
      (lowest_skip _ s.modulus
      ∙ lowest_skip _ (rw (le-ltb 1024 u.nrows s.high, le-ltb 1024 u.ncols s.wide, le-ltb 1048576 (length u.values) s.few))
      ∙ sym (lowest_last refl))

  lays : matrix_test p u ≡ Ok tt → Laid u
  unfolding matrix_test
  lays e = let h = lowest_good _ _ e in laid u h.0 (lowest_good _ _ h.1).0

  -- rows that pass 3 to 6
  pub formed_seated : matrix_test p u ≡ Ok tt → Seated u pivots
  unfolding matrix_test
  formed_seated e =
      let h = lowest_good _ _ e in
      let low = column_low u (lowest_good _ _ h.1).0 (lays e) in
      record { same = (lays e).shape.col_each; cut = (lays e).rows; below = λ k l. omega (arith, low k l, s.table) }

  -- and of which none lacks its head
  pub seated_headed : Seated u pivots → any u.nrows (headless u pivots) ≡ false → Headed u pivots
  unfolding headless
  seated_headed seated e = record {
    seated = seated;
    wide = s.table;
    head = λ r l.
        let h = neither _ _ (neither _ _ (any_false u.nrows (headless u pivots) e r l)).0 in
        omega (arith, leb-false (get_or u.row_ptrs (r + 1) 0) (get_or u.row_ptrs r 0) h.0, row_in seated.cut l, seated.same);
  }

-- U's counts are within their places
pub record Held (rank fill : ℕ) (cols vals ptrs : List ℕ) : Type 0 where
  pub pointers : rank + 1 ≤ length ptrs
  pub columns : fill ≤ length cols
  pub numbers : fill ≤ length vals
  pub few : fill ≤ 1048576

pub lost_none : (rank fill : ℕ) (cols vals ptrs : List ℕ) → u_lost rank fill cols vals ptrs ≡ false → Held rank fill cols vals ptrs
unfolding u_lost places
lost_none rank fill cols vals ptrs e =
    let last = neither _ _ e in
    let first = neither _ _ last.0 in
    record {
      pointers = omega (arith, leb-false (at_most (length ptrs)) rank first.0, held {n = length ptrs} refl);
      columns = omega (arith, ltb-false (at_most (length cols)) fill first.1, held {n = length cols} refl);
      numbers = omega (arith, ltb-false (at_most (length vals)) fill last.1, held {n = length vals} refl);
      few = omega (arith, ltb-false (at_most (length cols)) fill first.1, limited (length cols) refl);
    }

-- more rows than 2 allows aren't clean
pub fault_high : (p : ℕ) (u : Matrix) (pivots : List ℕ) → modulus_test p ≡ Ok tt → 1024 < u.nrows → u_fault p u pivots ≡ true
unfolding u_fault clean well_formed size_test refuse lowest ◌else◌
fault_high p u pivots m h = rw (m, lt-ltb 1024 u.nrows h)

-- what U's test asks for
pub held_sized : {p n rank fill : ℕ} {cols vals ptrs pivots : List ℕ} → Opened p n pivots → Held rank fill cols vals ptrs → rank ≤ 1024 → Sized p (u_rows n rank fill cols vals ptrs) pivots
unfolding u_rows
held_sized {fill = fill} {vals = vals} o h low = record { modulus = o.modulus; high = low; wide = o.wide; few = rw (length-take-le fill vals h.numbers) h.few; table = o.table }
