-- Loading: what reading the entries and building their matrix ask for, and what is left.
-- Assumes nothing.
use mathlib.Core.Path.{◌≡◌, sym, ap, ◌∙◌}
use mathlib.Core.List.{List, map, map-map}
use Prim.Native.Nat.{ℕ, ◌+◌, ◌≤◌}
use native.Mathlib.Omega.{arith}
use lib.ListN.{length, drop, take, length-map}
use Rattle.lists.specs.Onto.{◌onto◌}
use Rattle.lists.specs.Table.{table}
use Rattle.lists.proofs.Ontos.{length-onto, take-onto}
use Rattle.sparse.specs.Lent.{Lent, lent}
use Rattle.triplets.specs.Asks.{Parts, Writable}
use Rattle.triplets.specs.Triplets.{Triplet, triplets, start_of, written}
use Rattle.triplets.proofs.Orders.{rising}
use Rattle.triplets.proofs.Passed.{written_parts}
use Rattle.market.specs.Asks.{from_zero, rows_in, cols_in, values_in, Entries, Listed}
use Rattle.market.specs.declared.lines.Numbers.{Numbers}
use Rattle.market.proofs.Heads.{lines_length}
use Rattle.reporting.specs.Said.{entries_of, said_by, Loadable, Loaded}
use Rattle.reporting.proofs.Entries.{Small, small, parts, order}

-- the front of a list, where so many were written
pub front : (new old : List ℕ) (n : ℕ) → length new ≡ n → take n (new onto old) ≡ new
front new old n e = rw (← e) (take-onto new old)

-- entries counted from 0, by their rows, columns and values
pub mapped : (nrows : ℕ) (ts : List Triplet) (l : Lent) → written nrows (map from_zero ts) l ≡ lent (table (nrows + 1) (start_of (rows_in ts)) onto l.row_ptrs) (cols_in ts onto l.col_idcs) (values_in ts onto l.values)
unfolding written rows_in cols_in values_in from_zero
mapped nrows ts l = rw (map-map (λ (t : Triplet). t.row) from_zero ts, map-map (λ (t : Triplet). t.col) from_zero ts, map-map (λ (t : Triplet). t.value) from_zero ts)

module _ {text : List ℕ} {size : Numbers} {rows vals cols : List ℕ} {l : Lent} (ask : Loadable text size rows vals cols l) where
  abbrev ts : List Triplet
  ts = entries_of text size

  abbrev n : ℕ
  n = size.value

  count : length ts ≡ n
  count = lines_length n (drop size.next text) ask.passed.read

  pub within : Small size.row size.col ts
  within = small size.row size.col ts ask.passed.good

  pub row_count : length (rows_in ts) ≡ n
  unfolding rows_in
  row_count = length-map ts _ ∙ count

  pub col_count : length (cols_in ts) ≡ n
  unfolding cols_in
  col_count = length-map ts _ ∙ count

  pub value_count : length (values_in ts) ≡ n
  unfolding values_in
  value_count = length-map ts _ ∙ count

  pub load_asks : Entries text size.value size.next ts rows cols vals
  load_asks = record {
    nrows = size.row;
    ncols = size.col;
    good = ask.passed.good;
    read = ask.passed.read;
    row_room = omega (arith, ask.row_room, within.few, count);
    col_room = omega (arith, ask.col_room, within.few, count);
    value_room = omega (arith, ask.value_room, within.few, count);
  }

  module _ {rows' cols' vals' : List ℕ} (read : Listed ts rows cols vals rows' cols' vals') where
    pub rows_long : n ≤ length rows'
    rows_long = omega (arith, ask.row_room, within.few, count, ap length read.row, row_count, length-onto (rows_in ts) rows (omega (arith, ask.row_room, within.few, count, row_count)))

    pub cols_long : n ≤ length cols'
    cols_long = omega (arith, ask.col_room, within.few, count, ap length read.col, col_count, length-onto (cols_in ts) cols (omega (arith, ask.col_room, within.few, count, col_count)))

    pub vals_long : n ≤ length vals'
    vals_long = omega (arith, ask.value_room, within.few, count, ap length read.value, value_count, length-onto (values_in ts) vals (omega (arith, ask.value_room, within.few, count, value_count)))

    row_front : take n rows' ≡ rows_in ts
    row_front = ap (take n) read.row ∙ front (rows_in ts) rows n row_count

    col_front : take n cols' ≡ cols_in ts
    col_front = ap (take n) read.col ∙ front (cols_in ts) cols n col_count

    value_front : take n vals' ≡ values_in ts
    value_front = ap (take n) read.value ∙ front (values_in ts) vals n value_count

    apart : Parts (rows_in ts) (cols_in ts) (values_in ts)
    apart = parts size.row size.col ts ask.passed.good

    pub load_writes : Writable size.row (take n rows') (take n cols') (take n vals') l
    load_writes = rw (row_front, col_front, value_front) (record {
      parts = apart;
      rising = rising (rows_in ts) (cols_in ts) (values_in ts) (order size.row size.col ts ask.passed.good) apart;
      pointers = omega (arith, ask.pointers, within.high);
      columns = omega (arith, ask.columns, value_count, within.few, count);
      numbers = omega (arith, ask.numbers, value_count, within.few, count);
    })

    -- the matrix of the entries, by their parts and by themselves
    same : written size.row (triplets (rows_in ts) (cols_in ts) (values_in ts)) l ≡ written size.row (map from_zero ts) l
    same = written_parts size.row (rows_in ts) (cols_in ts) (values_in ts) l apart ∙ sym (mapped size.row ts l)

    pub load_done : {l' : Lent} → l' ≡ written size.row (triplets (take n rows') (take n cols') (take n vals')) l → Loaded (said_by text size) rows vals cols l rows' vals' cols' l'
    unfolding said_by
    load_done e = record {
      row = read.row;
      value = read.value;
      col = read.col;
      matrix = (rw (row_front, col_front, value_front) at e) ∙ same;
    }
