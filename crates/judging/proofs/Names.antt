-- The entries of an L row, as code reads them.
-- Assumes nothing.
use mathlib.Core.Path.{◌≡◌, sym, ap, ap₂, subst, ◌∙◌}
use mathlib.Core.Bool.{Bool, true, false, not, ◌&&◌, ◌||◌}
use mathlib.Core.List.{List}
use Prim.Native.Nat.{ℕ, ◌+◌, ◌-◌, ◌≤◌, ◌<◌}
use native.Mathlib.Decide.{ℕ_discrete}
use native.Mathlib.Omega.{arith}
use borrow.Author.Tests.{eq-eqb, ne_eqb, le-leb, lt-leb, leb-false, eqb-true, not-false}
use lib.Dec.{eqb, leb, ltb}
use lib.ListN.{length, get_or}
use Rattle.lists.specs.Find.{any}
use Rattle.lists.proofs.Find.{any_false}
use Rattle.lists.proofs.Scans.{Clear}
use Rattle.lists.proofs.Tables.{get_or-table}
use Rattle.meaning.proofs.RowLists.{length-entries}
use Rattle.sparse.specs.Matrix.{Matrix}
use Rattle.sparse.specs.Rows.{Entry, entry, entries}
use Rattle.sparse.proofs.Firsts.{neither}
use Rattle.state.specs.State.{head_of}
use Rattle.steps.specs.Rows.{entry_at}
use Rattle.telling.specs.Answers.{none}
use Rattle.walk.specs.Asks.{PivotRow}
use Rattle.accounts.specs.Judgement.{unstorable, astray, diagonal, diagonal_fault, answer_fault}
use Rattle.accounts.proofs.Judgements.{names_earlier}
use Rattle.judging.specs.Asks.{upper, head_in, HasHead, Rows, Follows, Named, Placed}
use Rattle.judging.specs.Faults.{entries_fault}

-- a row of U has a head
pub has_head : {n : ℕ} {cols vals ptrs : List ℕ} → Rows n cols vals ptrs → (r : ℕ) → r + 1 < length ptrs → HasHead cols ptrs r
has_head {n} {cols} {vals} {ptrs} rows r h =
    let s : PivotRow n (head_in cols ptrs r) cols vals ptrs r = rows.each r h in
    record { pointer = omega arith; entry = omega (arith, s.filled, s.columns) }

-- entry i, and how many there are
pub entry_here : (cols vals : List ℕ) → length cols ≡ length vals → (i : ℕ) → i < length cols → entry_at (entries cols vals) i ≡ entry (get_or cols i 0) (get_or vals i 0)
unfolding entries
entry_here cols vals same i h = get_or-table (length vals) (λ k. entry (get_or cols k 0) (get_or vals k 0)) i (entry 0 0) (omega (arith, same))

pub entries_many : (cols vals : List ℕ) → length cols ≡ length vals → length (entries cols vals) ≡ length cols
entries_many cols vals same = length-entries cols vals ∙ sym same

module _ {n : ℕ} {cols vals ptrs : List ℕ} {k : ℕ} {l_cols l_vals : List ℕ} (s : Named n cols vals ptrs k l_cols l_vals) (p : ℕ) where
  abbrev u : Matrix
  u = upper n cols vals ptrs

  abbrev l : List Entry
  l = entries l_cols l_vals

  abbrev falls : ℕ → Bool
  falls at = ltb 0 at && leb (head_in cols ptrs (get_or l_cols at 0)) (head_in cols ptrs (get_or l_cols (at - 1) 0))

  -- the clauses of an entry
  astray_is : (at : ℕ) → at < length l_cols → astray p u k l at ≡ leb k (get_or l_cols at 0) || falls at || unstorable p (get_or l_vals at 0)
  unfolding astray head_of
  astray_is at h =
      ap₂ (λ (e f : Entry). leb k e.col || ltb 0 at && leb (head_of u e.col) (head_of u f.col) || unstorable p e.value)
      (entry_here l_cols l_vals s.same at h)
      (entry_here l_cols l_vals s.same (at - 1) (omega arith))

  module _ (at : ℕ) (h : at < length l_cols) where
    pub astray_later : k ≤ get_or l_cols at 0 → true ≡ astray p u k l at
    astray_later g = sym (astray_is at h ∙ rw (le-leb k (get_or l_cols at 0) g))

    pub astray_falls : get_or l_cols at 0 < k → {b : Bool} → b ≡ falls at → b ≡ true → true ≡ astray p u k l at
    astray_falls g e q = sym (astray_is at h ∙ rw (lt-leb k (get_or l_cols at 0) g, sym e ∙ q))

    pub astray_value : get_or l_cols at 0 < k → {b : Bool} → b ≡ falls at → b ≡ false → {r : Bool} → r ≡ unstorable p (get_or l_vals at 0) → r ≡ astray p u k l at
    astray_value g e q v = v ∙ sym (astray_is at h ∙ rw (lt-leb k (get_or l_cols at 0) g, sym e ∙ q))

  -- entries that aren't astray name earlier rows
  pub named_earlier : (i : ℕ) → i < length l_cols → astray p u k l i ≡ false → get_or l_cols i 0 < k
  named_earlier i h e = subst (λ (x : Entry). x.col < k) (entry_here l_cols l_vals s.same i h) (names_earlier p u k l i e)

  pub named_before : {until at : ℕ} → until ≤ length l_cols → Clear until (astray p u k l) at → (i : ℕ) → i < at → get_or l_cols i 0 < k
  named_before {until} {at} fits c i h = named_earlier i (omega (arith, c.within)) (any_false at (astray p u k l) c.none i h)

  -- the diagonal
  last_is : 0 < length l_cols → diagonal l ≡ entry (get_or l_cols (length l_cols - 1) 0) (get_or l_vals (length l_cols - 1) 0)
  unfolding diagonal
  last_is h = ap (λ (m : ℕ). entry_at l (m - 1)) (entries_many l_cols l_vals s.same) ∙ entry_here l_cols l_vals s.same (length l_cols - 1) (omega arith)

  pub diagonal_none : length l_cols ≡ 0 → true ≡ diagonal_fault p u k l
  unfolding diagonal_fault
  diagonal_none e = rw (eq-eqb (length l) 0 (entries_many l_cols l_vals s.same ∙ e))

  pub diagonal_is : 0 < length l_cols → diagonal_fault p u k l ≡ any (length l_cols - 1) (astray p u k l) || not (eqb (get_or l_cols (length l_cols - 1) 0) k) || unstorable p (get_or l_vals (length l_cols - 1) 0)
  unfolding diagonal_fault
  diagonal_is h =
      ap (λ (b : Bool). b || any (length l - 1) (astray p u k l) || not (eqb (diagonal l).col k) || unstorable p (diagonal l).value) (ne_eqb (length l) 0 (λ e. omega (arith, e, entries_many l_cols l_vals s.same)))
      ∙ ap₂ (λ (m : ℕ) (e : Entry). any (m - 1) (astray p u k l) || not (eqb e.col k) || unstorable p e.value) (entries_many l_cols l_vals s.same) (last_is h)

  -- by the answer
  module _ (a : ℕ) {r : Bool} where
    pub entries_none : a ≡ none → r ≡ any (length l_cols) (astray p u k l) → r ≡ entries_fault p u k a l
    unfolding entries_fault
    entries_none e q = rw (eq-eqb a none e) (q ∙ ap (λ (m : ℕ). any m (astray p u k l)) (sym (entries_many l_cols l_vals s.same)))

    pub entries_led : (a ≡ none → ⊥) → r ≡ answer_fault u k a || diagonal_fault p u k l → r ≡ entries_fault p u k a l
    unfolding entries_fault
    entries_led e q = rw (ne_eqb a none e) q

  -- entries without fault name rows of U
  pub names_rows : (a : ℕ) → entries_fault p u k a l ≡ false → (i : ℕ) → i < length l_cols → get_or l_cols i 0 + 1 < length ptrs
  unfolding entries_fault answer_fault
  names_rows a e i h = go (ℕ_discrete a none)
    where
      last : get_or l_cols (length l_cols - 1) 0 ≡ k → k + 1 < length ptrs → get_or l_cols (length l_cols - 1) 0 + 1 < length ptrs
      last q b = rw q b

      go : Dec (a ≡ none) → get_or l_cols i 0 + 1 < length ptrs
      go (yes q) =
          let f : any (length l) (astray p u k l) ≡ false = rw (eq-eqb a none q) at e in
          omega (arith, s.upper.low, named_earlier i h (any_false (length l) (astray p u k l) f i (omega (arith, entries_many l_cols l_vals s.same))))
      go (no q) =
          let f : (leb (length ptrs - 1) k || not (eqb a (head_of u k))) || diagonal_fault p u k l ≡ false = rw (ne_eqb a none q) at e in
          let both = neither (leb (length ptrs - 1) k || not (eqb a (head_of u k))) (diagonal_fault p u k l) f in
          let low : k < length ptrs - 1 = leb-false (length ptrs - 1) k (neither (leb (length ptrs - 1) k) (not (eqb a (head_of u k))) both.0).0 in
          let parts = neither (any (length l_cols - 1) (astray p u k l) || not (eqb (get_or l_cols (length l_cols - 1) 0) k)) (unstorable p (get_or l_vals (length l_cols - 1) 0)) (sym (diagonal_is (omega arith)) ∙ both.1) in
          let inner = neither (any (length l_cols - 1) (astray p u k l)) (not (eqb (get_or l_cols (length l_cols - 1) 0) k)) parts.0 in
          let own : get_or l_cols (length l_cols - 1) 0 ≡ k = eqb-true _ k (not-false _ inner.1) in
          at_last (ℕ_discrete i (length l_cols - 1)) low own inner.0
        where
          at_last : Dec (i ≡ length l_cols - 1) → k < length ptrs - 1 → get_or l_cols (length l_cols - 1) 0 ≡ k → any (length l_cols - 1) (astray p u k l) ≡ false → get_or l_cols i 0 + 1 < length ptrs
          at_last (yes z) low own f = subst (λ (m : ℕ). get_or l_cols m 0 + 1 < length ptrs) (sym z) (last own (omega arith))
          at_last (no z) low own f = omega (arith, named_earlier i h (any_false (length l_cols - 1) (astray p u k l) f i (omega arith)))

-- an entry that names an earlier row, after such entries
pub placed_follows : {n : ℕ} {cols vals ptrs : List ℕ} {k : ℕ} {l_cols l_vals : List ℕ} {at : ℕ} → Placed n cols vals ptrs k l_cols l_vals at → get_or l_cols at 0 < k → Follows cols ptrs l_cols at
placed_follows {cols = cols} {ptrs = ptrs} {l_cols = l_cols} {at = at} s h = record { within = s.within; heads = λ i b. go i b (ℕ_discrete i at) }
  where
    go : (i : ℕ) → i ≤ at → Dec (i ≡ at) → HasHead cols ptrs (get_or l_cols i 0)
    go i b (yes e) = subst (λ (m : ℕ). HasHead cols ptrs (get_or l_cols m 0)) (sym e) (has_head s.all.upper.rows (get_or l_cols at 0) (omega (arith, s.all.upper.low)))
    go i b (no e) = has_head s.all.upper.rows (get_or l_cols i 0) (omega (arith, s.all.upper.low, s.before i (omega arith)))
