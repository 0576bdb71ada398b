-- Our own account is judged: no number refuses it where its rows are within the limits.
-- Assumes nothing.
use Rattle.std.specs.Prelude.{None, Ok}
use mathlib.Core.Path.{◌≡◌, refl, sym, ap, subst, ◌∙◌}
use mathlib.Core.Bool.{false}
use mathlib.Core.List.{List, [], map, flatten}
use Prim.Native.Nat.{ℕ, ◌+◌, ◌-◌, ◌≤◌, ◌<◌}
use native.Mathlib.Omega.{arith}
use borrow.Author.Tests.{eq-eqb, ne_eqb, le-ltb}
use lib.Dec.{ltb}
use lib.ListN.{length, get_or, take, length-map, get_or-map}
use lib.Seq.{get_or-take, length-take-le}
use Rattle.lists.proofs.Find.{any_none}
use Rattle.sparse.specs.Matrix.{row}
use Rattle.sparse.specs.Put.{cols_of, values_of}
use Rattle.sparse.specs.Refusals.{refuse}
use Rattle.sparse.specs.Rows.{Entry, compressed}
use Rattle.sparse.specs.Tests.{modulus_test, size_test, values_test, rows_values_test, well_formed, clean}
use Rattle.sparse.specs.declared.inside.Clause.{Clause}
use Rattle.sparse.specs.declared.inside.Clause.TheVariants.{Residue, Nonzero}
use Rattle.sparse.proofs.Cuts.{Laid, formed_laid}
use Rattle.sparse.proofs.Firsts.{lowest_next, lowest_last, all_good}
use Rattle.meaning.proofs.RowColumns.{climbs_good}
use Rattle.state.specs.Memory.{Memory}
use Rattle.state.specs.State.{crooked}
use Rattle.state.specs.declared.Counts.{Counts}
use Rattle.state.specs.declared.Mode.TheVariants.{Full}
use Rattle.steps.specs.History.{Told, told}
use Rattle.steps.specs.Rows.{CleanRow}
use Rattle.writing.proofs.WellFormed.{rows_well_formed}
use Rattle.writing.proofs.Written.{row_of_rows, row_parts}
use Rattle.keeping.proofs.Storables.{storables_pass, each_storables}
use Rattle.telling.specs.Answers.{number}
use Rattle.accounts.specs.Account.{Account}
use Rattle.accounts.specs.Tests.{broken, answers_test, memory_test, slices_test, account_test}
use Rattle.strides.specs.Strides.{rows_of_told}
use Rattle.strides.proofs.Runs.{strides_clean}
use Rattle.ledgers.specs.Own.{account_of}
use Rattle.ledgers.specs.Taken.{Took}
use Rattle.ledgers.proofs.Lines.{l_level, l_long}
use Rattle.ledgers.proofs.Owns.{places_held, u_upright, l_wide, l_placed}
use Rattle.ledgers.proofs.Takens.{Stood, took_stood}

-- clean rows within the limits make a clean matrix
module _ (p n : ℕ) (rs : List (List Entry)) (modulus : modulus_test p ≡ Ok tt) (size : size_test 65536 (length rs) n (length (flatten rs)) ≡ Ok tt) (each : (i : ℕ) → i < length rs → CleanRow p n (get_or rs i [])) where
  values_pass : (c : Clause) (i : ℕ) → i < length rs → values_test c p (map (λ e. e.value) (get_or rs i [])) ≡ Ok tt
  unfolding values_of
  values_pass c i h = storables_pass (each_storables (each i h).values) c

  formed : well_formed 65536 p (compressed n rs) ≡ Ok tt
  unfolding cols_of
  formed = rows_well_formed p n rs modulus size (λ i h. climbs_good n (cols_of (get_or rs i [])) (each i h).climbs) (values_pass Residue)

  rows_clean : clean 65536 p (compressed n rs) ≡ Ok tt
  unfolding clean row
  rows_clean = sym (lowest_next _ refl formed (lowest_last (sym nonzero)))
    where
      lies : Laid (compressed n rs)
      lies = formed_laid 65536 p (compressed n rs) formed

      one : (i : ℕ) → i < (compressed n rs).nrows → values_test Nonzero p (row (compressed n rs).row_ptrs (compressed n rs).values i) ≡ Ok tt
      one i h =
          let low : i < length rs = (unfold compressed in h) in
          ap (values_test Nonzero p) ((row_parts (compressed n rs) i h lies.shape.col_each (lies.rows.within i h)).vals ∙ ap (map (λ (e : Entry). e.value)) (row_of_rows n rs i)) ∙ values_pass Nonzero i low

      nonzero : rows_values_test Nonzero p (compressed n rs).nrows (compressed n rs).row_ptrs (compressed n rs).values ≡ Ok tt
      nonzero = (unfold rows_values_test in all_good (compressed n rs).nrows (λ i. values_test Nonzero p (row (compressed n rs).row_ptrs (compressed n rs).values i)) one)

-- the filled parts of rows that lie one after the other from 0 to the fill
module _ (rows fill : ℕ) (cols vals ptrs : List ℕ) (placed : rows + 1 ≤ length ptrs) (wide : fill ≤ length cols) (long : fill ≤ length vals)
    (starts : get_or ptrs 0 0 ≡ 0) (rises : (i : ℕ) → i < rows → get_or ptrs i 0 ≤ get_or ptrs (i + 1) 0) (ends : get_or ptrs rows 0 ≡ fill) where
  abbrev front : List ℕ
  front = take (rows + 1) ptrs

  many : length front ≡ rows + 1
  many = length-take-le (rows + 1) ptrs placed

  at : (i : ℕ) → i ≤ rows → get_or front i 0 ≡ get_or ptrs i 0
  at i h = get_or-take (rows + 1) ptrs i 0 (omega arith)

  straight : crooked rows fill front ≡ false
  unfolding crooked
  straight = rw (
    eq-eqb (get_or front 0 0) 0 (at 0 (omega arith) ∙ starts),
    any_none rows (λ i. ltb (get_or front (i + 1) 0) (get_or front i 0)) (λ i h. le-ltb (get_or front (i + 1) 0) (get_or front i 0) (omega (arith, rises i h, at i (omega arith), at (i + 1) (omega arith)))),
    eq-eqb (get_or front rows 0) fill (at rows (omega arith) ∙ ends),
  )

  front_whole : broken (take fill cols) (take fill vals) front ≡ false
  unfolding broken
  front_whole =
      let last : length front - 1 ≡ rows = omega (arith, many) in
      let size : length (take fill vals) ≡ fill = length-take-le fill vals long in
      rw (
        eq-eqb (length (take fill cols)) (length (take fill vals)) (length-take-le fill cols wide ∙ sym size),
        ne_eqb (length front) 0 (λ e. omega (arith, many)),
        last,
        size,
      ) straight

module _ {p n : ℕ} {ts : List Told} {c : Counts} {m : Memory} (took : Took Full p n ts c m) where
  abbrev a : Account
  a = account_of p n ts c m

  stood : Stood Full p n ts c m
  stood = took_stood took

  modulus : modulus_test p ≡ Ok tt
  modulus = subst (λ (q : ℕ). modulus_test q ≡ Ok tt) stood.kept.modulus stood.kept.stands.opened.modulus

  slices : slices_test a ≡ Ok tt
  unfolding slices_test account_of refuse
  slices =
      let s = stood.kept.stands in
      let held = places_held p n ts c m s in
      let u = u_upright p n ts c m s in
      let level = l_level c m s stood.kept.mode in
      rw (
        front_whole c.rank c.u_fill m.u_cols m.u_vals m.u_ptrs held.pointers held.columns held.numbers u.starts (λ i h. omega (arith, (u.rows i h).pivot.filled)) u.ends,
        front_whole c.l_rows c.l_fill m.l_cols m.l_vals m.l_ptrs (l_placed p n ts c m s stood.kept.mode) (l_wide p n ts c m s stood.kept.mode) (l_long c m s stood.kept.mode) level.starts level.rises level.ends,
      )

  module _ (high : length ts ≤ 1024) (few : length (flatten (rows_of_told ts)) ≤ 65536) (dense : List ℕ) (long : n ≤ length dense) where
    rows_many : length (rows_of_told ts) ≡ length ts
    rows_many = length-map ts (λ (t : Told). t.row)

    size : size_test 65536 (length (rows_of_told ts)) n (length (flatten (rows_of_told ts))) ≡ Ok tt
    unfolding size_test refuse
    size = rw (
      le-ltb 1024 (length (rows_of_told ts)) (omega (arith, rows_many)),
      le-ltb 1024 n (omega (arith, stood.kept.stands.opened.wide, stood.kept.ncols)),
      le-ltb 65536 (length (flatten (rows_of_told ts))) few,
    )

    sized : size_test 65536 a.rows.nrows a.rows.ncols (length a.rows.values) ≡ Ok tt
    unfolding account_of compressed
    sized = ap (size_test 65536 (length (rows_of_told ts)) n) (length-map (flatten (rows_of_told ts)) (λ (e : Entry). e.value)) ∙ size

    answers : answers_test a ≡ Ok tt
    unfolding answers_test account_of compressed refuse
    answers = rw (eq-eqb (length (map (λ (t : Told). number t.answer) ts)) (length (rows_of_told ts)) (length-map ts (λ (t : Told). number t.answer) ∙ sym rows_many))

    row_clean : (i : ℕ) → i < length (rows_of_told ts) → CleanRow p n (get_or (rows_of_told ts) i [])
    row_clean i h = subst (CleanRow p n) (sym (get_or-map (λ (t : Told). t.row) ts i (told [] None))) (strides_clean took.strides i (omega (arith, rows_many)))

    rows : clean 65536 a.modulus a.rows ≡ Ok tt
    unfolding account_of
    rows = rows_clean p n (rows_of_told ts) modulus size row_clean

    memory : memory_test dense a ≡ Ok tt
    unfolding memory_test account_of compressed refuse
    memory = rw (le-ltb (length dense) n long, le-ltb (length m.pivots) n (omega (arith, stood.kept.stands.opened.table, stood.kept.ncols)))

    -- no number refuses it
    pub complete_tested : account_test dense (account_of p n ts c m) ≡ Ok tt
    unfolding account_test
    complete_tested = sym (lowest_next _ refl (unfold account_of in modulus) (lowest_next _ refl sized (lowest_next _ refl answers (lowest_next _ refl rows (lowest_next _ refl memory (lowest_last (sym slices)))))))
