-- An account with a ledger: none of its rows is wrong, and its counts are the ledger's.
-- Assumes nothing.
use Rattle.std.specs.Prelude.{None, Some}
use mathlib.Core.Path.{◌≡◌, refl, sym, ap, subst, ◌∙◌}
use mathlib.Core.Bool.{true, false}
use mathlib.Core.List.{List, [], ◌∷◌, ◌++◌}
use Prim.Native.Nat.{ℕ, suc, ◌+◌, ◌≤◌, ◌<◌}
use native.Mathlib.Nat.{add-zero, not-suc-le-zero}
use native.Mathlib.Numerals.{add-one}
use native.Mathlib.Omega.{arith}
use borrow.Author.Tests.{eq-eqb, ne_eqb, lt-leb}
use lib.ListN.{length, get_or, length-append, get_or-append}
use lib.Seq.{get_or_at}
use Rattle.lists.proofs.Find.{any_none}
use Rattle.sparse.specs.Rows.{Entry, row_at}
use Rattle.state.specs.State.{u_fault}
use Rattle.steps.specs.History.{at_once, Told, told}
use Rattle.steps.proofs.Lasts.{up_to}
use Rattle.telling.specs.Answers.{none, number}
use Rattle.accounts.specs.Account.{Account, u_whole, l_count, l_row, answer_at, accepted_in, without, used_in, row_fault, account_fault, is_account}
use Rattle.accounts.specs.Judgement.{judge_fault}
use Rattle.ledgers.proofs.Judges.{books_of, spanned_judged, entered_judged}
use Rattle.ledgers.proofs.Ledgers.{Spanned, Entered, Ledger, empty, spared, spanned, entered}

-- the account's first rows and answers are these
pub record Tells (a : Account) (ts : List Told) : Type 0 where
  pub row : (r : ℕ) → r < length ts → row_at a.rows r ≡ (get_or ts r (told [] None)).row
  pub answer : (r : ℕ) → r < length ts → answer_at a r ≡ number (get_or ts r (told [] None)).answer

-- of its first m rows none is wrong, k were accepted and i have an L row
pub record Balanced (a : Account) (m k i : ℕ) : Type 0 where
  pub accepted : accepted_in a m ≡ k
  pub used : used_in at_once a m ≡ i
  pub right : (r : ℕ) → r < m → row_fault at_once a r ≡ false

module _ (a : Account) where
  abbrev n : ℕ
  n = a.rows.ncols

  -- one row more
  module _ {m k i : ℕ} (b : Balanced a m k i) (es : List Entry) (row : row_at a.rows m ≡ es) where
    by_rule : without at_once a m ≡ at_once n k es
    unfolding without
    by_rule = rw (b.accepted, row)

    none_counts : answer_at a m ≡ none → accepted_in a (suc m) ≡ k
    unfolding accepted_in
    none_counts e = rw (eq-eqb (answer_at a m) none e) (add-zero (accepted_in a m) ∙ b.accepted)

    walked_counts : at_once n k es ≡ false → used_in at_once a (suc m) ≡ i + 1
    unfolding used_in
    walked_counts e = rw (by_rule ∙ e) (ap (λ (x : ℕ). x + 1) b.used)

    -- a row with an L row is right where it is judged so
    judged_right : (v : ℕ) → answer_at a m ≡ v → at_once n k es ≡ false → i < l_count a → judge_fault a.modulus (u_whole a) k es v (l_row a i) ≡ false → row_fault at_once a m ≡ false
    unfolding row_fault
    judged_right v e walks low fine = rw (by_rule ∙ walks, b.used, lt-leb (l_count a) i low, b.accepted, row, e) fine

    spared_right : answer_at a m ≡ none → at_once n k es ≡ true → Balanced a (suc m) k i
    unfolding row_fault used_in
    spared_right e once = record {
      accepted = none_counts e;
      used = rw (by_rule ∙ once) (add-zero (used_in at_once a m) ∙ b.used);
      right = up_to (λ r. row_fault at_once a r ≡ false) m (rw (by_rule ∙ once, eq-eqb (answer_at a m) none e)) b.right;
    }

    spanned_right : answer_at a m ≡ none → at_once n k es ≡ false → i < l_count a → Spanned a.modulus n k (books_of (u_whole a) (l_row a)) es (l_row a i) → Balanced a (suc m) k (i + 1)
    unfolding u_whole
    spanned_right e walks low s = record {
      accepted = none_counts e;
      used = walked_counts walks;
      right = up_to (λ r. row_fault at_once a r ≡ false) m (judged_right none e walks low (spanned_judged a.modulus (u_whole a) k es (l_row a i) (l_row a) s)) b.right;
    }

    entered_right : (g : ℕ) → answer_at a m ≡ g → (g ≡ none → ⊥) → at_once n k es ≡ false → k < (u_whole a).nrows → i < l_count a → Entered a.modulus n k g (books_of (u_whole a) (l_row a)) es (l_row a i) → Balanced a (suc m) (k + 1) (i + 1)
    unfolding u_whole accepted_in
    entered_right g e apart walks below low s = record {
      accepted = rw (ne_eqb (answer_at a m) none (λ q. apart (sym e ∙ q))) (ap (λ (x : ℕ). x + 1) b.accepted);
      used = walked_counts walks;
      right = up_to (λ r. row_fault at_once a r ≡ false) m (judged_right g e walks low (entered_judged a.modulus (u_whole a) k es (l_row a i) (l_row a) g apart below s)) b.right;
    }

  -- the rows before the last, and the last
  module _ (ts : List Told) (t : Told) (tells : Tells a (ts ++ (t ∷ []))) where
    long : length (ts ++ (t ∷ [])) ≡ suc (length ts)
    long = length-append ts (t ∷ []) ∙ add-one (length ts)

    tells_before : Tells a ts
    tells_before = record {
      row = λ r h. tells.row r (omega (arith, long)) ∙ ap (λ (x : Told). x.row) (get_or-append ts (t ∷ []) (told [] None) r h);
      answer = λ r h. tells.answer r (omega (arith, long)) ∙ ap (λ (x : Told). number x.answer) (get_or-append ts (t ∷ []) (told [] None) r h);
    }

    last_row : row_at a.rows (length ts) ≡ t.row
    last_row = tells.row (length ts) (omega (arith, long)) ∙ ap (λ (x : Told). x.row) (get_or_at ts t [] (told [] None) (length ts) refl)

    last_answer : answer_at a (length ts) ≡ number t.answer
    last_answer = tells.answer (length ts) (omega (arith, long)) ∙ ap (λ (x : Told). number x.answer) (get_or_at ts t [] (told [] None) (length ts) refl)

  module _ (wide : n ≤ 1024) where
    pub ledger_balanced : {ts : List Told} {k i : ℕ} → Tells a ts → k ≤ (u_whole a).nrows → i ≤ l_count a → Ledger a.modulus n (books_of (u_whole a) (l_row a)) ts k i → Balanced a (length ts) k i
    unfolding accepted_in used_in number none
    ledger_balanced tells rows lines empty = record { accepted = refl; used = refl; right = λ r h. absurd (not-suc-le-zero h) }
    ledger_balanced tells rows lines (spared ts k i past es once) =
        let b = ledger_balanced (tells_before ts (told es None) tells) rows lines past in
        rw (long ts (told es None) tells) (spared_right b es (last_row ts (told es None) tells) (last_answer ts (told es None) tells) once)
    ledger_balanced tells rows lines (spanned ts k i past es walks s) =
        let b = ledger_balanced (tells_before ts (told es None) tells) rows (omega arith) past in
        rw (long ts (told es None) tells) (spanned_right b es (last_row ts (told es None) tells) (last_answer ts (told es None) tells) walks (omega arith) s)
    ledger_balanced tells rows lines (entered ts k i past es g walks s) =
        let b = ledger_balanced (tells_before ts (told es (Some g)) tells) (omega arith) (omega arith) past in
        rw (long ts (told es (Some g)) tells) (entered_right b es (last_row ts (told es (Some g)) tells) g (last_answer ts (told es (Some g)) tells) (λ e. omega (arith, s.within)) walks (omega arith) (omega arith) s)

-- where all rows balance, and U and pivots are a state, the check says yes
pub balanced_account : (a : Account) {m k i : ℕ} → u_fault a.modulus (u_whole a) a.memory.pivots ≡ false → Balanced a m k i → a.rows.nrows ≡ m → (u_whole a).nrows ≡ k → l_count a ≡ i → is_account at_once a ≡ true
unfolding is_account account_fault
balanced_account a {m} {k} {i} sound b many rank rows =
    let all : Balanced a a.rows.nrows k i = subst (λ (x : ℕ). Balanced a x k i) (sym many) b in
    rw (
      sound,
      any_none a.rows.nrows (row_fault at_once a) all.right,
      eq-eqb (accepted_in a a.rows.nrows) (u_whole a).nrows (all.accepted ∙ sym rank),
      eq-eqb (used_in at_once a a.rows.nrows) (l_count a) (all.used ∙ sym rows),
    )
