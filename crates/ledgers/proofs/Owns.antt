-- Our own account: its rows and answers are those taken, and its U and L are those in memory.
-- Assumes nothing.
use Rattle.std.specs.Prelude.{None}
use mathlib.Core.Path.{◌≡◌, refl, sym, ap, ap₂, ◌∙◌}
use mathlib.Core.Bool.{false}
use mathlib.Core.List.{List, [], ◌∷◌, map}
use Prim.Native.Nat.{ℕ, zero, suc, ◌+◌, ◌≤◌, ◌<◌}
use native.Mathlib.Nat.{not-suc-le-zero}
use native.Mathlib.Omega.{arith}
use lib.ListN.{length, get_or, take, length-map, get_or-map}
use lib.Seq.{get_or-take, length-take-le}
use Rattle.sparse.specs.Matrix.{matrix, row, value_in, value_at}
use Rattle.sparse.specs.Rows.{Entry, entries, row_at, compressed}
use Rattle.meaning.proofs.RowLists.{rows_compressed, part_entries}
use Rattle.state.specs.Memory.{Memory, places}
use Rattle.state.specs.State.{head_of, u_fault, u_rows}
use Rattle.state.specs.declared.Counts.{Counts}
use Rattle.state.specs.declared.Mode.TheVariants.{Full}
use Rattle.state.proofs.Faults.{Held, lost_none, held}
use Rattle.walk.specs.Step as S
use Rattle.steps.specs.History.{Told, told}
use Rattle.stepping.specs.Asks.{Stands}
use Rattle.stepping.specs.Take.{lists, lower_of}
use Rattle.stepping.proofs.Walks.{parts, heads}
use Rattle.keeping.proofs.Lowers.{Level, level_within}
use Rattle.keeping.proofs.Settings.{rows_in, stands_upright}
use Rattle.keeping.proofs.Uppers.{Upright, row_front}
use Rattle.telling.specs.Answers.{number}
use Rattle.accounts.specs.Account.{Account, u_whole, l_count, l_row, answer_at}
use Rattle.strides.specs.Strides.{rows_of_told}
use Rattle.ledgers.specs.Own.{account_of}
use Rattle.ledgers.proofs.Balances.{Tells}
use Rattle.ledgers.proofs.Judges.{books_of}
use Rattle.ledgers.proofs.Ledgers.{Alike}
use Rattle.ledgers.proofs.Lines.{line_of, l_level, l_long}
use Rattle.ledgers.proofs.Pages.{head_in, books_in}

-- what is made of each row taken
made_at : (f : Told → ℕ) (ts : List Told) (d : Told) (r : ℕ) → r < length ts → get_or (map f ts) r 0 ≡ f (get_or ts r d)
made_at f [] d r h = absurd (not-suc-le-zero h)
made_at f (t ∷ ts) d zero h = refl
made_at f (t ∷ ts) d (suc r) h = made_at f ts d r (omega arith)

pub own_many : (n : ℕ) (ts : List Told) → (compressed n (rows_of_told ts)).nrows ≡ length ts
unfolding compressed
own_many n ts = length-map ts (λ t. t.row)

pub own_tells : (p n : ℕ) (ts : List Told) (c : Counts) (m : Memory) → Tells (account_of p n ts c m) ts
unfolding account_of row_at answer_at
own_tells p n ts c m = record {
  row = λ r h. ap (λ (rs : List (List Entry)). get_or rs r []) (rows_compressed n (rows_of_told ts)) ∙ get_or-map (λ (t : Told). t.row) ts r (told [] None);
  answer = λ r h. made_at (λ (t : Told). number t.answer) ts (told [] None) r h;
}

-- entries cut into rows, or rows side by side
entries_row : (ptrs cols vals : List ℕ) (i : ℕ) → length cols ≡ length vals → get_or ptrs (i + 1) 0 ≤ length vals → row ptrs (entries cols vals) i ≡ entries (row ptrs cols i) (row ptrs vals i)
unfolding row
entries_row ptrs cols vals i same fits = sym (part_entries (get_or ptrs i 0) (get_or ptrs (i + 1) 0) cols vals same fits)

module _ (p n : ℕ) (ts : List Told) (c : Counts) (m : Memory) (s : Stands c (lists m [])) where
  abbrev a : Account
  a = account_of p n ts c m

  pub places_held : Held c.rank c.u_fill m.u_cols m.u_vals m.u_ptrs
  places_held = lost_none c.rank c.u_fill m.u_cols m.u_vals m.u_ptrs (parts c (lists m []) s).lost

  pub u_upright : Upright c.modulus c.ncols c.rank c.u_fill m.u_cols m.u_vals m.u_ptrs (heads c (lists m []) s)
  u_upright = stands_upright c (lists m []) s

  pub own_rank : (u_whole a).nrows ≡ c.rank
  unfolding u_whole account_of
  own_rank = omega (arith, length-take-le (c.rank + 1) m.u_ptrs places_held.pointers)

  -- U and pivots are a state
  pub own_sound : c.modulus ≡ p → c.ncols ≡ n → u_fault p (u_whole a) m.pivots ≡ false
  unfolding u_whole account_of u_rows compressed
  own_sound modulus columns =
      ap (λ (k : ℕ). u_fault p (matrix k n (take (c.rank + 1) m.u_ptrs) (take c.u_fill m.u_cols) (take c.u_fill m.u_vals)) m.pivots) own_rank
      ∙ rw (← modulus, ← columns) (parts c (lists m []) s).fault

  u_columns : (r : ℕ) → r < c.rank → row (take (c.rank + 1) m.u_ptrs) (take c.u_fill m.u_cols) r ≡ row m.u_ptrs m.u_cols r
  u_columns r h = row_front c.rank c.u_fill m.u_ptrs m.u_cols r h (u_upright.rows r h).fits places_held.columns

  u_values : (r : ℕ) → r < c.rank → row (take (c.rank + 1) m.u_ptrs) (take c.u_fill m.u_vals) r ≡ row m.u_ptrs m.u_vals r
  u_values r h = row_front c.rank c.u_fill m.u_ptrs m.u_vals r h (u_upright.rows r h).fits places_held.numbers

  own_value : (r : ℕ) → r < c.rank → (j : ℕ) → j < n → value_at (u_whole a) r j ≡ (rows_in m).value r j
  unfolding value_at u_whole account_of S.upper
  own_value r h j b = ap₂ (λ (cols vals : List ℕ). value_in cols vals j) (u_columns r h) (u_values r h)

  own_head : (r : ℕ) → r < c.rank → head_of (u_whole a) r ≡ head_in m r
  unfolding head_of u_whole account_of
  own_head r h =
      ap (λ (k : ℕ). get_or (take c.u_fill m.u_cols) k 0) (get_or-take (c.rank + 1) m.u_ptrs r 0 (omega arith))
      ∙ get_or-take c.u_fill m.u_cols (get_or m.u_ptrs r 0) 0 (omega (arith, (u_upright.rows r h).pivot.filled, (u_upright.rows r h).fits))

  module _ (full : c.mode ≡ Full) where
    level : Level c.rank c.l_rows c.l_fill m.l_cols m.l_ptrs
    level = l_level c m s full

    pub l_wide : c.l_fill ≤ length m.l_cols
    unfolding places
    l_wide = omega (arith, level.columns, held {n = length m.l_cols} refl)

    pub l_placed : c.l_rows + 1 ≤ length m.l_ptrs
    unfolding places
    l_placed = omega (arith, level.pointers, held {n = length m.l_ptrs} refl)

    pub own_rows : l_count a ≡ c.l_rows
    unfolding l_count account_of
    own_rows = omega (arith, length-take-le (c.l_rows + 1) m.l_ptrs l_placed)

    own_line : (i : ℕ) → i < c.l_rows → l_row a i ≡ line_of (lower_of m) i
    unfolding l_row account_of
    own_line i h =
        let within : get_or m.l_ptrs (i + 1) 0 ≤ c.l_fill = level_within level (i + 1) (omega arith) in
        let upto : get_or (take (c.l_rows + 1) m.l_ptrs) (i + 1) 0 ≡ get_or m.l_ptrs (i + 1) 0 = get_or-take (c.l_rows + 1) m.l_ptrs (i + 1) 0 (omega arith) in
        let cols : length (take c.l_fill m.l_cols) ≡ c.l_fill = length-take-le c.l_fill m.l_cols l_wide in
        let vals : length (take c.l_fill m.l_vals) ≡ c.l_fill = length-take-le c.l_fill m.l_vals (l_long c m s full) in
        entries_row (take (c.l_rows + 1) m.l_ptrs) (take c.l_fill m.l_cols) (take c.l_fill m.l_vals) i (cols ∙ sym vals) (omega (arith, within, upto, vals))
        ∙ ap₂ entries (row_front c.l_rows c.l_fill m.l_ptrs m.l_cols i h within l_wide) (row_front c.l_rows c.l_fill m.l_ptrs m.l_vals i h within (l_long c m s full))

    -- its books are those of memory
    pub own_alike : Alike n c.rank c.l_rows (books_in m) (books_of (u_whole a) (l_row a))
    own_alike = record { values = own_value; heads = own_head; lines = own_line }
