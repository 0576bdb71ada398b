-- The ledger of the rows taken, over memory: each step adds its row to it.
-- Assumes nothing.
use Rattle.std.specs.Prelude.{None, Ok, Some}
use mathlib.Core.Path.{◌≡◌, refl, sym, ap, subst, ◌∙◌}
use mathlib.Core.Logic.{⊎_elim}
use mathlib.Core.Bool.{Bool, false, cond}
use mathlib.Core.List.{List, [], ◌∷◌, ◌++◌}
use Prim.Native.Nat.{ℕ, ◌+◌, ◌≤◌, ◌<◌}
use native.Mathlib.Nat.{add-zero}
use native.Mathlib.Omega.{arith}
use lib.ListN.{length, get_or}
use Rattle.lists.proofs.Find.{told as decided}
use Rattle.sparse.specs.Rows.{Entry}
use Rattle.state.specs.Fresh.{keeps}
use Rattle.state.specs.Memory.{Memory}
use Rattle.state.specs.Room.{room_test}
use Rattle.state.specs.declared.Counts.{Counts}
use Rattle.state.specs.declared.Mode.{Mode}
use Rattle.state.specs.declared.Mode.TheVariants.{Full}
use Rattle.walk.specs.Step.{is_none, Taken, Answer}
use Rattle.steps.specs.Added.{Added, NotAdded}
use Rattle.steps.specs.History.{at_once, Told, told}
use Rattle.steps.specs.Rows.{CleanRow}
use Rattle.steps.specs.Setting.{with_last, Grown}
use Rattle.steps.proofs.Lasts.{last_there, last_before}
use Rattle.steps.proofs.Steps.{step_none_times, step_times}
use Rattle.taking.specs.Stores.{with_u}
use Rattle.stepping.specs.Asks.{Stands}
use Rattle.stepping.specs.Take.{Lists, lists, lower_of, room_asked, step_of, counts_after, stored, took, row_step}
use Rattle.stepping.proofs.Room.{URoom, u_free}
use Rattle.stepping.proofs.Walks.{heads, stands_inverts, stands_echelon}
use Rattle.keeping.proofs.Accepts.{stored_grown}
use Rattle.keeping.proofs.Grows.{Fits, upright_grows}
use Rattle.keeping.proofs.Keeps.{took_added, took_not_added}
use Rattle.keeping.proofs.Settings.{rows_in, stands_upright}
use Rattle.keeping.proofs.Ways.{room_there}
use Rattle.ledgers.proofs.Ledgers.{Books, books, Spanned, Entered, Ledger, spared, spanned, entered, Alike, order_same, ledger_same}
use Rattle.ledgers.proofs.Lines.{line_of, line_kept, line_new}

-- the column of U's row r's first entry
abbrev pub head_in : Memory → ℕ → ℕ
head_in m r = get_or m.u_cols (get_or m.u_ptrs r 0) 0

-- U's rows, their heads, and L's rows in memory
abbrev pub books_in : Memory → Books
books_in m = books (rows_in m).value (head_in m) (line_of (lower_of m))

module _ (c : Counts) (m : Memory) (s : Stands c (lists m [])) where
  abbrev o : Lists
  o = lists m []

  heads_here : (r : ℕ) → r < c.rank → head_in m r ≡ heads c o s r
  heads_here r h = ((stands_upright c o s).rows r h).pivot.starts

  -- U's heads after an accepted row
  module _ (room : room_test c m ≡ Ok tt) {g : ℕ} {t : Taken} (a : Added c.modulus c.ncols c.rank (rows_in m) (heads c o s) g t) where
    free : URoom c.ncols c.rank c.u_fill m.u_cols m.u_vals m.u_ptrs
    free = u_free c m room (omega (arith, a.within))

    fits : Fits c.rank c.u_fill (length t.u) m.u_cols m.u_vals m.u_ptrs
    fits = record { columns = omega (arith, free.columns, a.u_room); numbers = omega (arith, free.numbers, a.u_room); pointer = free.pointers }

    head_at : (r : ℕ) → r < c.rank + 1 → head_in (stored c (Some g) t m) r ≡ with_last c.rank g (heads c o s) r
    unfolding stored with_u
    head_at r h = ((upright_grows (stands_upright c o s) t.u fits a.clean g a.beyond a.head).rows r h).pivot.starts

    head_kept : (r : ℕ) → r < c.rank → head_in (stored c (Some g) t m) r ≡ head_in m r
    head_kept r h = head_at r (omega arith) ∙ last_before c.rank g (heads c o s) r h ∙ sym (heads_here r h)

    head_new : head_in (stored c (Some g) t m) c.rank ≡ g
    head_new = head_at c.rank (omega arith) ∙ last_there c.rank g (heads c o s)

module _ (on : Bool) (c : Counts) (m : Memory) (s : Stands c (lists m [])) (full : c.mode ≡ Full) (es : List Entry) (row : CleanRow c.modulus c.ncols es) (ts : List Told) (past : Ledger c.modulus c.ncols (books_in m) ts c.rank c.l_rows) where
  abbrev p : ℕ
  p = c.modulus

  abbrev n : ℕ
  n = c.ncols

  abbrev k : ℕ
  k = c.rank

  abbrev t : Taken
  t = step_of on c es m

  one_more : c.l_rows + cond (keeps c.mode) 1 0 ≡ c.l_rows + 1
  unfolding keeps
  one_more = ap (λ (mode : Mode). c.l_rows + cond (keeps mode) 1 0) full

  module _ (room : room_test c m ≡ Ok tt) (walks : at_once n k es ≡ false) where
    -- the ledger after steps 3 and 4, by the answer
    abbrev Next : Answer → Type 0
    Next a = Ledger p n (books_in (stored c a t m)) (ts ++ (told es a ∷ [])) (counts_after c a t).rank (counts_after c a t).l_rows

    none_next : t.answer ≡ None → Next None
    unfolding stored counts_after is_none step_of
    none_next e =
        let a : NotAdded p n k (heads c (lists m []) s) t = took_not_added on c es (lists m []) s row e in
        let few : length t.l ≤ k + 1 = omega (arith, a.l_room) in
        let alike : Alike n k c.l_rows (books_in m) (books_in (stored c None t m)) = record { values = λ r l j b. refl; heads = λ r l. refl; lines = line_kept c m s full room t.l few } in
        let new : Spanned p n k (books_in (stored c None t m)) es t.l = record {
          order = order_same (heads_here c m s) a.order;
          product = step_none_times on p n k (rows_in m) (heads c (lists m []) s) (stands_inverts c (lists m []) s) (stands_echelon c (lists m []) s) es row e;
        } in
        rw (add-zero k, one_more)
        (spanned ts k c.l_rows (ledger_same alike past) es walks (subst (Spanned p n k (books_in (stored c None t m)) es) (sym (line_new c m s full room t.l few)) new))

    accepted_next : (g : ℕ) → t.answer ≡ Some g → Next (Some g)
    unfolding stored counts_after is_none step_of
    accepted_next g e =
        let a : Added p n k (rows_in m) (heads c (lists m []) s) g t = took_added on c es (lists m []) s row e in
        let after : Books = books_in (stored c (Some g) t m) in
        let grown : Grown n k g (rows_in m) t.u (rows_in (stored c (Some g) t m)) = stored_grown s room a in
        let alike : Alike n k c.l_rows (books_in m) after = record { values = grown.kept; heads = head_kept c m s room a; lines = line_kept c m s full room t.l a.l_room } in
        let new : Entered p n k g after es t.l = record {
          within = a.within;
          head = head_new c m s room a;
          before = a.l;
          order = order_same (λ r h. head_kept c m s room a r h ∙ heads_here c m s r h) a.order;
          diagonal = a.diagonal;
          value = a.value;
          last = a.last;
          product = step_times on p n k (rows_in m) (heads c (lists m []) s) (stands_inverts c (lists m []) s) (stands_echelon c (lists m []) s) es row e grown;
        } in
        rw one_more
        (entered ts k c.l_rows (ledger_same alike past) es g walks (subst (Entered p n k g after es) (sym (line_new c m s full room t.l a.l_room)) new))

    answer_next : (a : Answer) → t.answer ≡ a → Next a
    answer_next None e = none_next e
    answer_next (Some g) e = accepted_next g e

  -- each step adds its row
  pub ledger_more : room_asked c es m ≡ Ok tt → Ledger p n (books_in (row_step on c es m).memory) (ts ++ (told es (row_step on c es m).answer.answer ∷ [])) (row_step on c es m).answer.counts.rank (row_step on c es m).answer.counts.l_rows
  unfolding row_step took
  ledger_more room = ⊎_elim
      (λ e. rw e (spared ts k c.l_rows past es e))
      (λ e. rw e (answer_next (room_there c es m room e) e t.answer refl))
      (decided (at_once n k es))
