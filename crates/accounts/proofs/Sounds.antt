-- The account check is sound: in an account that it says yes to, a row is answered None exactly if it is a combination of the rows accepted before it.
-- Assumes nothing.
use mathlib.Core.Path.{◌≡◌, refl, sym, subst}
use mathlib.Core.Logic.{◌↔◌, ⊎_elim}
use mathlib.Core.Bool.{Bool, true, false, not, ◌||◌}
use mathlib.Core.List.{List, [], ◌∷◌, ◌++◌}
use Prim.Native.Nat.{ℕ, zero, suc, ◌≤◌, ◌<◌, zero-le}
use native.Mathlib.Nat.{add-zero}
use native.Mathlib.Decide.{ℕ_discrete}
use native.Mathlib.Numerals.{add-one}
use native.Mathlib.Omega.{arith}
use borrow.Author.Tests.{eqb-true, eq-eqb, ne_eqb, not-true, not-false}
use lib.Dec.{eqb, leb}
use lib.ListN.{length}
use Rattle.lists.specs.Find.{any, keep}
use Rattle.lists.specs.Table.{table}
use Rattle.lists.proofs.Find.{told, any_false}
use Rattle.field.specs.Prime.{Prime}
use Rattle.linear.specs.Combination.{Combination}
use Rattle.linear.proofs.Heads.{Heads}
use Rattle.linear.proofs.Span.{Span, combination_span, span_combination, span_trans}
use Rattle.sparse.specs.Matrix.{value_at}
use Rattle.sparse.specs.Rows.{Entry, row_at}
use Rattle.sparse.proofs.Firsts.{neither}
use Rattle.state.specs.Fresh.{counts}
use Rattle.state.specs.State.{head_of, u_fault}
use Rattle.state.specs.declared.Mode.TheVariants.{Full}
use Rattle.steps.specs.History.{accepted, values_in}
use Rattle.steps.specs.Rows.{value_of, CleanRow}
use Rattle.steps.proofs.Histories.{accepted_same, accepted_more}
use Rattle.steps.proofs.Zeros.{row_small}
use Rattle.telling.specs.Answers.{none}
use Rattle.stepping.proofs.MatrixRows.{row_here, row_offered}
use Rattle.accounts.specs.Account.{Account, Rule, u_whole, l_count, l_row, answer_at, accepted_in, without, used_in, row_fault, account_fault, is_account, answer_of, told_in}
use Rattle.accounts.specs.Judgement.{judge_fault}
use Rattle.accounts.specs.Rule.{Spares}
use Rattle.accounts.specs.Tests.{Presented}
use Rattle.accounts.proofs.Diagonals.{diagonal_span, heads_first, head_apart}
use Rattle.accounts.proofs.Growths.{Agree, agree_none, agree_more}
use Rattle.accounts.proofs.Judgements.{Accepts, judged_none, judged_accepts}
use Rattle.accounts.proofs.Wholes.{whole_heads}

-- the counts and the accepted rows after row i, by its answer
accepted_none : (a : Account) (i : ℕ) → answer_at a i ≡ none → (accepted_in a (suc i) ≡ accepted_in a i) × (accepted (told_in a (suc i)) ≡ accepted (told_in a i))
unfolding accepted_in told_in table answer_of
accepted_none a i e = rw (eq-eqb (answer_at a i) none e) (add-zero (accepted_in a i), accepted_same (told_in a i) (row_at a.rows i))

accepted_next : (a : Account) (i : ℕ) → (answer_at a i ≡ none → ⊥) → (accepted_in a (suc i) ≡ suc (accepted_in a i)) × (accepted (told_in a (suc i)) ≡ accepted (told_in a i) ++ (row_at a.rows i ∷ []))
unfolding accepted_in told_in table answer_of
accepted_next a i e = rw (ne_eqb (answer_at a i) none e) (add-one (accepted_in a i), accepted_more (told_in a i) (row_at a.rows i) (answer_at a i))

module _ (rule : Rule) (spares : Spares rule) (a : Account) (prime : Prime a.modulus) (given : Presented a) (right : is_account rule a ≡ true) where
  abbrev p : ℕ
  p = a.modulus

  abbrev n : ℕ
  n = a.rows.ncols

  abbrev value : ℕ → ℕ → ℕ
  value = value_at (u_whole a)

  abbrev es : ℕ → List Entry
  es i = row_at a.rows i

  -- the parts of the check
  abbrev state : Bool
  state = u_fault a.modulus (u_whole a) a.memory.pivots

  abbrev rows : Bool
  rows = any a.rows.nrows (row_fault rule a)

  abbrev u_left : Bool
  u_left = not (eqb (accepted_in a a.rows.nrows) (u_whole a).nrows)

  abbrev l_left : Bool
  l_left = not (eqb (used_in rule a a.rows.nrows) (l_count a))

  parts : (state || rows ≡ false) × (u_left ≡ false)
  unfolding is_account account_fault
  parts = neither (state || rows) u_left (neither (state || rows || u_left) l_left (not-true (account_fault rule a) right)).0

  heads : Heads p n (u_whole a).nrows value (head_of (u_whole a))
  unfolding u_whole
  heads = whole_heads p n a.memory.u_cols a.memory.u_vals a.memory.u_ptrs a.memory.pivots given.table (neither state rows parts.0).0

  fine : (i : ℕ) → i < a.rows.nrows → row_fault rule a i ≡ false
  fine = any_false a.rows.nrows (row_fault rule a) (neither state rows parts.0).1

  -- a row under step 1 is answered None; another is judged with its L row
  spared : (i : ℕ) → i < a.rows.nrows → without rule a i ≡ true → answer_at a i ≡ none
  unfolding row_fault
  spared i h e = let f : not (eqb (answer_at a i) none) ≡ false = rw e at (fine i h) in eqb-true (answer_at a i) none (not-false (eqb (answer_at a i) none) f)

  judged : (i : ℕ) → i < a.rows.nrows → without rule a i ≡ false → judge_fault p (u_whole a) (accepted_in a i) (es i) (answer_at a i) (l_row a (used_in rule a i)) ≡ false
  unfolding row_fault
  judged i h e =
      let judgement : Bool = judge_fault p (u_whole a) (accepted_in a i) (es i) (answer_at a i) (l_row a (used_in rule a i)) in
      let f : leb (l_count a) (used_in rule a i) || judgement ≡ false = rw e at (fine i h) in
      (neither (leb (l_count a) (used_in rule a i)) judgement f).1

  accepts : (i : ℕ) → i < a.rows.nrows → (answer_at a i ≡ none → ⊥) → Accepts p (u_whole a) (accepted_in a i) (answer_at a i) (es i)
  accepts i h ne = ⊎_elim
      (λ e. absurd (ne (spared i h e)))
      (λ e. judged_accepts p (u_whole a) (accepted_in a i) (answer_at a i) (l_row a (used_in rule a i)) (es i) (judged i h e) ne)
      (told (without rule a i))

  -- the rows accepted so far span what as many rows of U do
  agrees : (i : ℕ) → i ≤ a.rows.nrows → Agree p n value (accepted_in a i) (accepted (told_in a i))
  unfolding accepted_in told_in table accepted keep u_whole
  agrees zero h = agree_none
  agrees (suc i) h = go (ℕ_discrete (answer_at a i) none) (agrees i (omega arith))
    where
      go : Dec (answer_at a i ≡ none) → Agree p n value (accepted_in a i) (accepted (told_in a i)) → Agree p n value (accepted_in a (suc i)) (accepted (told_in a (suc i)))
      go (yes e) agree = rw ((accepted_none a i e).0, (accepted_none a i e).1) agree
      go (no e) agree =
          let s : Accepts p (u_whole a) (accepted_in a i) (answer_at a i) (es i) = accepts i h e in
          rw ((accepted_next a i e).0, (accepted_next a i e).1) (agree_more prime agree (es i) s.spanned s.stored s.sums)

  -- they are no more than U's rows
  few : (i : ℕ) → i ≤ a.rows.nrows → accepted_in a i ≤ (u_whole a).nrows
  unfolding accepted_in
  few zero h = zero-le
  few (suc i) h = go (ℕ_discrete (answer_at a i) none) (few i (omega arith))
    where
      go : Dec (answer_at a i ≡ none) → accepted_in a i ≤ (u_whole a).nrows → accepted_in a (suc i) ≤ (u_whole a).nrows
      go (yes e) l = rw (accepted_none a i e).0 l
      go (no e) l = rw (accepted_next a i e).0 (accepts i h e).low

  module _ (i : ℕ) (h : i < a.rows.nrows) where
    abbrev k : ℕ
    k = accepted_in a i

    agree : Agree p n value k (accepted (told_in a i))
    agree = agrees i (omega arith)

    row : CleanRow p n (es i)
    row = subst (CleanRow p n) (row_here p a.rows given.rows i h) (row_offered p a.rows given.rows (counts Full p n 0 0 0 0) refl refl i h).clean

    -- None: a row of the span of U's first k rows
    none_spanned : answer_at a i ≡ none → Span p n k value (value_of (es i))
    unfolding without u_whole
    none_spanned e = ⊎_elim
        (λ t. spares.spans (omega (arith, prime.least)) (heads_first (λ j l. omega (arith, few i (omega arith))) heads) (es i) t)
        (λ t. judged_none p (u_whole a) k (answer_at a i) (l_row a (used_in rule a i)) (es i) (judged i h t) e)
        (told (without rule a i))

    -- accepted: not in that span
    accepted_apart : (answer_at a i ≡ none → ⊥) → Span p n k value (value_of (es i)) → ⊥
    unfolding u_whole
    accepted_apart ne s =
        let w : Accepts p (u_whole a) k (answer_at a i) (es i) = accepts i h ne in
        head_apart prime heads w.low (diagonal_span prime w.stored w.sums w.spanned s)

    -- None exactly if a combination of the rows accepted before
    pub sound : (answer_at a i ≡ none) ↔ Combination p n (length (accepted (told_in a i))) (values_in (accepted (told_in a i))) (value_of (row_at a.rows i))
    sound = subst (λ (m : ℕ). (answer_at a i ≡ none) ↔ Combination p n m (values_in (accepted (told_in a i))) (value_of (es i))) (sym agree.many) (combined, back)
      where
        pos : 0 < p
        pos = omega (arith, prime.least)

        combined : answer_at a i ≡ none → Combination p n k (values_in (accepted (told_in a i))) (value_of (es i))
        combined e = span_combination pos (λ j l. row_small pos row j) (span_trans agree.to (none_spanned e))

        back : Combination p n k (values_in (accepted (told_in a i))) (value_of (es i)) → answer_at a i ≡ none
        back c = elim (ℕ_discrete (answer_at a i) none) [
          | yes e ↦ e
          | no e ↦ absurd (accepted_apart e (span_trans agree.from (combination_span c)))
        ]
