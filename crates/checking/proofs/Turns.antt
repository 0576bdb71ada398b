-- The rows of an account, one after another: what is known at each.
-- Assumes nothing.
use mathlib.Core.Path.{◌≡◌, refl, sym, ap, ap₂, subst, ◌∙◌}
use mathlib.Core.Logic.{⊎_elim}
use mathlib.Core.Bool.{Bool, true, false, not, cond, ◌||◌}
use mathlib.Core.List.{List}
use Prim.Native.Nat.{ℕ, ◌+◌, ◌-◌, ◌≤◌, ◌<◌}
use native.Mathlib.Decide.{ℕ_discrete}
use native.Mathlib.Numerals.{add-one}
use native.Mathlib.Omega.{arith}
use borrow.Author.Tests.{le-leb, lt-leb, eq-eqb, ne_eqb, eqb-true, not-false}
use lib.Dec.{eqb, leb}
use lib.ListN.{length, get_or}
use Rattle.lists.specs.Find.{any}
use Rattle.lists.proofs.Find.{told, any_true}
use Rattle.meaning.proofs.Parts.{length_part}
use Rattle.meaning.proofs.RowLists.{part_entries}
use Rattle.sparse.specs.Lent.{Outcome, outcome}
use Rattle.sparse.specs.Matrix.{row}
use Rattle.sparse.specs.Rows.{Entry, entries, row_at}
use Rattle.sparse.proofs.Cuts.{Within, row_in}
use Rattle.sparse.proofs.Firsts.{neither}
use Rattle.state.specs.Fresh.{counts}
use Rattle.state.specs.declared.Mode.TheVariants.{Full}
use Rattle.steps.specs.History.{at_once}
use Rattle.stepping.specs.After.{one_if}
use Rattle.stepping.specs.Asks.{Offered}
use Rattle.stepping.proofs.MatrixRows.{Place, place, row_here, row_offered}
use Rattle.telling.specs.Answers.{none}
use Rattle.accounts.specs.Account.{Account, u_whole, l_count, l_row, answer_at, accepted_in, without, used_in, row_fault}
use Rattle.accounts.specs.Judgement.{judge_fault}
use Rattle.accounts.proofs.Judgements.{judged_accepts}
use Rattle.judging.specs.Asks.{upper, Judges}
use Rattle.judging.proofs.Names.{entries_many}
use Rattle.checking.specs.Asks.{RowChecks, Checks}
use Rattle.checking.specs.Rows.{row_wrong, rows_fault}

-- step 1 by the number of columns
at_once_is : (n k : ℕ) (cols vals : List ℕ) → length cols ≡ length vals → at_once n k (entries cols vals) ≡ eqb (length cols) 0 || eqb k n
unfolding at_once
at_once_is n k cols vals same = ap (λ (m : ℕ). eqb m 0 || eqb k n) (entries_many cols vals same)

-- at most one is counted
pub one_most : (b : Bool) {x : ℕ} → x ≡ one_if b → x ≤ 1
unfolding one_if
one_most true e = omega (arith, e)
one_most false e = omega (arith, e)

-- one row
module _ {p n : ℕ} {u_cols u_vals u_ptrs l_cols l_vals l_ptrs : List ℕ} {k : ℕ} {cols vals dense : List ℕ} (s : RowChecks p n u_cols u_vals u_ptrs l_cols l_vals l_ptrs k cols vals dense) (used a : ℕ)
    {once : Bool} (found : once ≡ eqb (length cols) 0 || eqb k n) where
  abbrev wrong : Bool
  wrong = row_wrong p n u_cols u_vals u_ptrs l_cols l_vals l_ptrs k used (entries cols vals) a

  pub row_at_once : once ≡ true → outcome (not (eqb a none)) dense ≡ outcome wrong dense
  unfolding row_wrong
  row_at_once e = rw (at_once_is n k cols vals s.same ∙ sym found ∙ e)

  pub row_none_left : once ≡ false → length l_ptrs - 1 ≤ used → outcome true dense ≡ outcome wrong dense
  unfolding row_wrong
  row_none_left e h = rw (at_once_is n k cols vals s.same ∙ sym found ∙ e, le-leb (length l_ptrs - 1) used h)

  -- the next L row
  module _ (h : used < length l_ptrs - 1) where
    pub next_within : Within (get_or l_ptrs used 0) (get_or l_ptrs (used + 1) 0) (length l_vals)
    next_within = row_in s.lower.cut h

    pub next_columns : get_or l_ptrs (used + 1) 0 ≤ length l_cols
    next_columns = omega (arith, s.lower.same, next_within.fits)

    pub row_judges : Judges p n u_cols u_vals u_ptrs k (row l_ptrs l_cols used) (row l_ptrs l_vals used) cols vals dense
    unfolding row
    row_judges = record {
      positive = s.positive;
      named = record {
        upper = record { rows = s.upper; low = s.low };
        same = length_part (get_or l_ptrs used 0) (get_or l_ptrs (used + 1) 0) l_cols next_columns ∙ sym (length_part (get_or l_ptrs used 0) (get_or l_ptrs (used + 1) 0) l_vals next_within.fits);
      };
      same = s.same;
      clean = s.clean;
      zero = s.zero;
    }

    pub row_judged : once ≡ false → {r : Outcome Bool (List ℕ)} → r ≡ outcome (judge_fault p (upper n u_cols u_vals u_ptrs) k (entries cols vals) a (entries (row l_ptrs l_cols used) (row l_ptrs l_vals used))) dense → r ≡ outcome wrong dense
    unfolding row_wrong row
    row_judged e q =
        q
        ∙ ap (λ (l : List Entry). outcome (judge_fault p (upper n u_cols u_vals u_ptrs) k (entries cols vals) a l) dense) (part_entries (get_or l_ptrs used 0) (get_or l_ptrs (used + 1) 0) l_cols l_vals s.lower.same next_within.fits)
        ∙ rw (at_once_is n k cols vals s.same ∙ sym found ∙ e, lt-leb (length l_ptrs - 1) used h)

-- the first i rows aren't wrong; so many of them were accepted, and so many L rows are used
pub record Turn (a : Account) (start : List ℕ) (i accepted used : ℕ) (dense : List ℕ) : Type 0 where
  pub within : i ≤ a.rows.nrows
  pub fine : any i (row_fault at_once a) ≡ false
  pub counted : accepted ≡ accepted_in a i
  pub few : accepted < length a.memory.u_ptrs
  pub most : accepted ≤ i
  pub taken : used ≡ used_in at_once a i
  pub low : used ≤ i
  pub same : dense ≡ start

pub turn_none : {a : Account} {dense : List ℕ} → Checks a dense → Turn a dense 0 0 0 dense
unfolding any accepted_in used_in
turn_none s = record { within = omega arith; fine = refl; counted = refl; few = s.pointers; most = omega arith; taken = refl; low = omega arith; same = refl }

module _ {a : Account} {start : List ℕ} {i accepted used : ℕ} {dense : List ℕ} (s : Checks a start) (t : Turn a start i accepted used dense) where
  abbrev cols : List ℕ
  cols = row a.rows.row_ptrs a.rows.col_idcs i

  abbrev vals : List ℕ
  vals = row a.rows.row_ptrs a.rows.values i

  abbrev wrong_now : Bool
  wrong_now =
      row_wrong a.modulus a.rows.ncols a.memory.u_cols a.memory.u_vals a.memory.u_ptrs a.memory.l_cols a.memory.l_vals a.memory.l_ptrs accepted used (entries cols vals) (get_or a.answers i 0)

  module _ (h : i < a.rows.nrows) where
    pub turn_place : Place a.modulus a.rows s.rows i
    turn_place = place a.modulus a.rows s.rows i h

    offer : Offered (counts Full a.modulus a.rows.ncols 0 0 0 0) cols vals
    offer = row_offered a.modulus a.rows s.rows (counts Full a.modulus a.rows.ncols 0 0 0 0) refl refl i h

    pub turn_row : RowChecks a.modulus a.rows.ncols a.memory.u_cols a.memory.u_vals a.memory.u_ptrs a.memory.l_cols a.memory.l_vals a.memory.l_ptrs accepted cols vals dense
    turn_row = record { positive = s.positive; upper = s.upper; low = t.few; lower = s.lower; same = offer.same; clean = offer.clean; zero = t.same ∙ s.zero }

    wrong_is : wrong_now ≡ row_fault at_once a i
    unfolding row_wrong row_fault without u_whole l_count l_row answer_at
    wrong_is =
        (λ j.
        row_wrong a.modulus a.rows.ncols a.memory.u_cols a.memory.u_vals a.memory.u_ptrs a.memory.l_cols a.memory.l_vals a.memory.l_ptrs (t.counted j) (t.taken j) (row_here a.modulus a.rows s.rows i h j) (get_or a.answers i 0))

    module _ {r : Bool} {d : List ℕ} (judged : outcome r d ≡ outcome wrong_now dense) where
      is : r ≡ row_fault at_once a i
      is = ap (λ (o : Outcome Bool (List ℕ)). o.answer) judged ∙ wrong_is

      pub stays : d ≡ start
      stays = ap (λ (o : Outcome Bool (List ℕ)). o.memory) judged ∙ t.same

      -- a row is wrong
      pub turn_wrong : r ≡ true → outcome true d ≡ outcome (rows_fault a) start
      unfolding rows_fault
      turn_wrong e = ap₂ (λ (b : Bool) (x : List ℕ). outcome b x) (rw (any_true a.rows.nrows (row_fault at_once a) h (sym is ∙ e))) stays

      -- or it isn't
      module _ (right : r ≡ false) where
        fine_now : row_fault at_once a i ≡ false
        fine_now = sym is ∙ right

        once_now : without at_once a i ≡ eqb (length cols) 0 || eqb accepted a.rows.ncols
        unfolding without
        once_now = (λ j. at_once a.rows.ncols (sym t.counted j) (sym (row_here a.modulus a.rows s.rows i h) j)) ∙ at_once_is a.rows.ncols accepted cols vals offer.same

        wide_now : length cols ≡ get_or a.rows.row_ptrs (i + 1) 0 - get_or a.rows.row_ptrs i 0
        unfolding row
        wide_now = length_part (get_or a.rows.row_ptrs i 0) (get_or a.rows.row_ptrs (i + 1) 0) a.rows.col_idcs turn_place.columns

        low_now : (answer_at a i ≡ none → ⊥) → accepted + 1 < length a.memory.u_ptrs
        unfolding row_fault u_whole
        low_now ne = ⊎_elim spared judges (told (without at_once a i))
          where
            spared : without at_once a i ≡ true → accepted + 1 < length a.memory.u_ptrs
            spared q =
                let f : not (eqb (answer_at a i) none) ≡ false = rw q at fine_now in
                absurd (ne (eqb-true (answer_at a i) none (not-false (eqb (answer_at a i) none) f)))

            judges : without at_once a i ≡ false → accepted + 1 < length a.memory.u_ptrs
            judges q =
                let f : leb (l_count a) (used_in at_once a i) || judge_fault a.modulus (u_whole a) (accepted_in a i) (row_at a.rows i) (answer_at a i) (l_row a (used_in at_once a i)) ≡ false = rw q at fine_now in
                let low = (judged_accepts a.modulus (u_whole a) (accepted_in a i) (answer_at a i) (l_row a (used_in at_once a i)) (row_at a.rows i) (neither (leb (l_count a) (used_in at_once a i)) _ f).1 ne).low in
                omega (arith, low, t.counted)

        pub turn_more : {once : Bool} → once ≡ eqb (get_or a.rows.row_ptrs (i + 1) 0 - get_or a.rows.row_ptrs i 0) 0 || eqb accepted a.rows.ncols → {x y : ℕ} → x ≡ one_if (not once) → y ≡ one_if (not (eqb (get_or a.answers i 0) none)) → Turn a start (i + 1) (accepted + y) (used + x) d
        unfolding any accepted_in used_in one_if answer_at
        turn_more {once} found {x} {y} ex ey = record {
          within = omega arith;
          fine = rw (add-one, t.fine) fine_now;
          counted = rw add-one (ap₂ (λ (m n : ℕ). m + n) t.counted (ey ∙ flip (eqb (get_or a.answers i 0) none)));
          few = few_now (ℕ_discrete (get_or a.answers i 0) none);
          most = omega (arith, t.most, one_most (not (eqb (get_or a.answers i 0) none)) ey);
          taken = rw add-one (ap₂ (λ (m n : ℕ). m + n) t.taken (ex ∙ flip once ∙ ap (λ (b : Bool). cond b 0 1) (found ∙ ap (λ (m : ℕ). eqb m 0 || eqb accepted a.rows.ncols) (sym wide_now) ∙ sym once_now)));
          low = omega (arith, t.low, one_most (not once) ex);
          same = stays;
        }
          where
            flip : (b : Bool) → ◌≡◌ {A = ℕ} (cond (not b) 1 0) (cond b 0 1)
            flip true = refl
            flip false = refl

            few_now : Dec (get_or a.answers i 0 ≡ none) → accepted + y < length a.memory.u_ptrs
            few_now (yes e) = let z : y ≡ 0 = ey ∙ rw (eq-eqb (get_or a.answers i 0) none e) in omega (arith, z, t.few)
            few_now (no e) = let z : y ≡ 1 = ey ∙ rw (ne_eqb (get_or a.answers i 0) none e) in omega (arith, z, low_now e)

  -- no row is left
  module _ (h : a.rows.nrows ≤ i) where
    all : i ≡ a.rows.nrows
    all = omega (arith, t.within)

    right_rows : any a.rows.nrows (row_fault at_once a) ≡ false
    right_rows = subst (λ (m : ℕ). any m (row_fault at_once a) ≡ false) all t.fine

    counts_now : (accepted ≡ accepted_in a a.rows.nrows) × (used ≡ used_in at_once a a.rows.nrows)
    counts_now = (t.counted ∙ ap (accepted_in a) all, t.taken ∙ ap (used_in at_once a) all)

    pub turn_u_left : (accepted ≡ length a.memory.u_ptrs - 1 → ⊥) → outcome true dense ≡ outcome (rows_fault a) start
    unfolding rows_fault u_whole
    turn_u_left e = ap₂ (λ (b : Bool) (x : List ℕ). outcome b x) (rw (right_rows, ← counts_now.0, ne_eqb accepted (length a.memory.u_ptrs - 1) e)) t.same

    pub turn_l_left : accepted ≡ length a.memory.u_ptrs - 1 → outcome (not (eqb used (length a.memory.l_ptrs - 1))) dense ≡ outcome (rows_fault a) start
    unfolding rows_fault u_whole l_count
    turn_l_left e = ap₂ (λ (b : Bool) (x : List ℕ). outcome b x) (rw (right_rows, ← counts_now.0, eq-eqb accepted (length a.memory.u_ptrs - 1) e, ← counts_now.1)) t.same
