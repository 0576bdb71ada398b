-- The second U while it is built: its rows so far in memory are those of back substitution as values, and the next is cleared.
-- Assumes nothing.
use Rattle.std.specs.Prelude.{Some}
use mathlib.Core.Path.{◌≡◌, refl, sym, ap, subst, ◌∙◌}
use mathlib.Core.Bool.{true, true≢false}
use mathlib.Core.List.{List, [], ◌∷◌, ◌++◌, map}
use Prim.Native.Nat.{ℕ, zero, suc, ◌+◌, ◌≤◌, ◌<◌}
use native.Mathlib.Nat.{not-suc-le-zero}
use native.Mathlib.Numerals.{add-one}
use native.Mathlib.Omega.{arith}
use lib.ListN.{length, get_or, drop, set, length-set, get_or-append}
use lib.Seq.{set-append_left}
use Rattle.lists.specs.Onto.{◌onto◌}
use Rattle.lists.specs.Table.{table}
use Rattle.lists.proofs.Ontos.{length-onto, onto_kept}
use Rattle.lists.proofs.Tables.{length-table, get_or-table}
use Rattle.sparse.specs.Lent.{Lent, Outcome, outcome}
use Rattle.sparse.specs.Matrix.{row}
use Rattle.sparse.specs.Pivots.{mark}
use Rattle.meaning.proofs.Parts.{length_part}
use Rattle.sparse.specs.Rows.{Entry, entries, row_at, offset}
use Rattle.state.specs.Memory.{Memory}
use Rattle.state.specs.Fresh.{keeps}
use Rattle.state.specs.State.{u_of}
use Rattle.state.specs.declared.Counts.{Counts}
use Rattle.walk.specs.Asks.{PivotRow, Pivoted}
use Rattle.walk.specs.Step.{pivot_at, Taken, step}
use Rattle.walk.specs.Step as S
use Rattle.steps.specs.Added.{Added}
use Rattle.steps.specs.History.{answered, grows, placed, extended}
use Rattle.steps.specs.Rows.{value_of, CleanRow}
use Rattle.steps.specs.Setting.{with_last, Grown}
use Rattle.steps.proofs.Answers.{answered_step}
use Rattle.steps.proofs.Lasts.{up_to, last_there, last_before}
use Rattle.steps.proofs.Steps.{step_added}
use Rattle.taking.specs.Rows.{storing}
use Rattle.taking.specs.Stores.{Upper, upper, with_u}
use Rattle.writing.specs.Puts.{put, more}
use Rattle.writing.proofs.Writing.{Writing, writing_none, row_fits, writing_more, ptrs_keep}
use Rattle.keeping.proofs.Grows.{Fits, upright_grown, upright_grows}
use Rattle.keeping.proofs.Uppers.{Upright}
use Rattle.reduced.specs.Building.{Built, empty, more as built_more, finished, Finished}
use Rattle.reduced.specs.Order.{pivot_columns, column_down, row_down}
use Rattle.walk.proofs.Same.{Alike}
use Rattle.reduced.proofs.Alikes.{answered_alike}
use Rattle.reduced.proofs.Builds.{built_finished, built_accepted}
use Rattle.reduced.proofs.Orders.{down_within}
use Rattle.reduced.proofs.Taken.{last_same, finished_echelon}
use Rattle.backing.specs.Asks.{numbers_down, ordered, Clears, stored_row, Builds}
use Rattle.backing.specs.Back.{down_row, back_row, back_rows}
use Rattle.backing.proofs.Downs.{heads, echelon, modulus, here, stored, short, long as row_long, many_down}
use Rattle.backing.proofs.Fits.{begun, inv, falls, low_rank, numbers_many, was, rows_many, roomy, begun_long, room}

-- e rows with so many entries are there
pub record Filling (c : Counts) (m : Memory) (l : Lent) (e fill : ℕ) (ptrs cols vals pivots dense : List ℕ) : Type 0 where
  pub writing : Writing (back_rows c m) (begun c m l) e fill ptrs cols vals
  pub heads : pivots ≡ (finished c.modulus c.ncols (down_row c m) e).pivots onto m.pivots
  pub upright : Upright c.modulus c.ncols e fill cols vals ptrs (column_down m.pivots c.ncols)
  pub built : Built c.modulus c.ncols (down_row c m) e (S.upper cols vals ptrs pivots)
  pub values : (i : ℕ) → i < e → (j : ℕ) → j < c.ncols → (S.upper cols vals ptrs pivots).value i j ≡ (finished c.modulus c.ncols (down_row c m) e).value i j
  pub zero : dense ≡ table c.ncols (λ j. 0)

module _ {c : Counts} {m : Memory} {l : Lent} {dense₀ : List ℕ} (b : Builds c m l dense₀) where
  abbrev p : ℕ
  p = c.modulus

  abbrev n : ℕ
  n = c.ncols

  abbrev k : ℕ
  k = c.rank

  abbrev rows : ℕ → List Entry
  rows = down_row c m

  abbrev h : ℕ → ℕ
  h = column_down m.pivots n

  -- no rows
  filling_none : Filling c m l 0 0 (begun c m l).row_ptrs l.col_idcs l.values (table n (λ j. mark) onto m.pivots) dense₀
  unfolding finished S.upper pivot_at
  filling_none = record {
    writing = subst (λ (q : List ℕ). Writing (back_rows c m) (begun c m l) 0 0 q l.col_idcs l.values) first (writing_none (back_rows c m) (begun c m l) (omega (arith, begun_long b, (roomy b).pointers)));
    heads = refl;
    upright = record { starts = zeroth; ends = zeroth; rows = λ r q. absurd (not-suc-le-zero q) };
    built = empty (S.upper l.col_idcs l.values (begun c m l).row_ptrs (table n (λ j. mark) onto m.pivots)) (record { wide = b.opened.wide; long = long; marks = marks });
    values = λ i q. absurd (not-suc-le-zero q);
    zero = b.zero;
  }
    where
      first : set (begun c m l).row_ptrs 0 0 ≡ (begun c m l).row_ptrs
      first = unfold ◌onto◌ in refl

      zeroth : get_or (begun c m l).row_ptrs 0 0 ≡ 0
      zeroth = unfold ◌onto◌ in refl

      long : n ≤ length (table n (λ j. mark) onto m.pivots)
      long = omega (arith, length-onto (table n (λ j. mark)) m.pivots (omega (arith, length-table n (λ j. mark), b.opened.table)), b.opened.table)

      marks : (j : ℕ) → j < n → get_or (table n (λ i. mark) onto m.pivots) j 0 ≡ mark
      marks j q = unfold ◌onto◌ in get_or-append (table n (λ i. mark)) _ 0 j (omega (arith, length-table n (λ i. mark))) ∙ get_or-table n (λ i. mark) j 0 q

  pub filling_start : {ptrs pivots : List ℕ} → outcome ptrs pivots ≡ ordered n m.pivots l.row_ptrs → Filling c m l 0 0 ptrs l.col_idcs l.values pivots dense₀
  unfolding ordered
  filling_start o = subst (λ (x : Outcome (List ℕ) (List ℕ)). Filling c m l 0 0 x.answer l.col_idcs l.values x.memory dense₀) (sym o) filling_none

  -- the next row
  module _ {e fill : ℕ} {ptrs cols vals pivots dense : List ℕ} (f : Filling c m l e fill ptrs cols vals pivots dense) (low : e < k) where
    abbrev u : S.Upper
    u = S.upper cols vals ptrs pivots

    abbrev v : S.Upper
    v = finished p n rows e

    done : Finished p n e rows h u
    done = built_finished (inv b) (falls b) (omega arith) f.built

    was_done : Finished p n e rows h v
    was_done = built_finished (inv b) (falls b) (omega arith) (was b e)

    pivot_same : (j : ℕ) → j < n → pivot_at u.pivots j ≡ pivot_at v.pivots j
    unfolding S.upper pivot_at ◌onto◌
    pivot_same j q = ap (λ (xs : List ℕ). get_or xs j 0) f.heads ∙ get_or-append v.pivots _ 0 j (omega (arith, was_done.table.long))

    alike : Alike n u v
    alike = record {
      pivots = pivot_same;
      values = λ j q some i b. f.values (pivot_at u.pivots j) (done.table.row j q some) i b ∙ ap (λ (r : ℕ). v.value r i) (pivot_same j q);
    }

    -- it is accepted at the next pivot column
    accepted : (answered true p n e u (rows e)).answer ≡ Some (h e)
    accepted = built_accepted (inv b) (falls b) low f.built

    was_accepted : (answered true p n e v (rows e)).answer ≡ Some (h e)
    was_accepted = built_accepted (inv b) (falls b) low (was b e)

    stepped : answered true p n e u (rows e) ≡ step true p n e u (rows e)
    stepped = answered_step true p n e u (rows e) (h e) accepted

    -- and comes to the row of back substitution
    same : answered true p n e u (rows e) ≡ answered true p n e v (rows e)
    same = answered_alike true p n e u v alike (inv b) (rows e) ((falls b).clean e low) (h e) ((falls b).within e low) accepted

    abbrev es : List Entry
    es = (step true p n e u (rows e)).u

    es_here : es ≡ get_or (back_rows c m) e []
    unfolding back_rows back_row
    es_here = ap (λ (t : Taken). t.u) (sym stepped ∙ same) ∙ sym (get_or-table k (back_row c m) e [] low)

    step_accepted : (step true p n e u (rows e)).answer ≡ Some (h e)
    step_accepted = ap (λ (t : Taken). t.answer) (sym stepped) ∙ accepted

    added : Added p n e u h (h e) (step true p n e u (rows e))
    added = step_added true p n e u h (inv b) (finished_echelon done) (rows e) ((falls b).clean e low) step_accepted

    -- its number is read where its pointer will stand
    among : get_or (begun c m l).row_ptrs (suc e) 0 ≡ get_or (numbers_down m.pivots n) e 0
    unfolding ◌onto◌
    among = get_or-append (numbers_down m.pivots n) _ 0 e (omega (arith, numbers_many b))

    number : get_or ptrs (e + 1) 0 ≡ row_down m.pivots n e
    unfolding numbers_down
    number =
        ap (λ (xs : List ℕ). get_or xs (e + 1) 0) f.writing.pointers
        ∙ onto_kept (table (e + 1) (offset (back_rows c m))) (begun c m l).row_ptrs (e + 1) 0 (omega (arith, length-table (e + 1) (offset (back_rows c m)))) (omega (arith, length-table (e + 1) (offset (back_rows c m)), (room b).pointers, rows_many b))
        ∙ ap (λ (i : ℕ). get_or (begun c m l).row_ptrs i 0) (add-one e)
        ∙ among
        ∙ map-there (pivot_at m.pivots) (pivot_columns m.pivots n) e (omega (arith, many_down c m b.opened b.lost b.fault))
      where
        map-there : (g : ℕ → ℕ) (xs : List ℕ) (i : ℕ) → i < length xs → get_or (map g xs) i 0 ≡ g (get_or xs i 0)
        map-there g [] i q = absurd (not-suc-le-zero q)
        map-there g (x ∷ xs) zero q = refl
        map-there g (x ∷ xs) (suc i) q = map-there g xs i (omega arith)

    abbrev r : ℕ
    r = get_or ptrs (e + 1) 0

    pub number_low : r < k
    unfolding S.upper
    number_low = subst (λ (i : ℕ). i < k) (sym number) (down_within (echelon c m b.opened b.lost b.fault) low)

    pub row_here : PivotRow n (heads c m b.opened b.lost b.fault r) m.u_cols m.u_vals m.u_ptrs r
    row_here = here c m b.opened b.lost b.fault r number_low

    pub pointer_here : e + 1 < length ptrs
    pointer_here = omega (arith, ptrs_keep (back_rows c m) (begun c m l) (room b) e fill ptrs cols vals f.writing, (room b).pointers, rows_many b)

    pub row_short : get_or m.u_ptrs (r + 1) 0 ≤ 1048576
    row_short = short c m b.opened b.lost b.fault r number_low

    offers : entries (row m.u_ptrs m.u_cols r) (row m.u_ptrs m.u_vals r) ≡ rows e
    unfolding down_row
    offers = stored c m b.opened b.lost b.fault r number_low ∙ ap (row_at (u_of c m)) number

    -- the table names the rows so far
    pivots_here : Pivoted n cols vals ptrs pivots
    unfolding S.upper pivot_at
    pivots_here = record {
      table = done.table.long;
      rows = λ j q some. subst (λ (x : ℕ). PivotRow n x cols vals ptrs (get_or pivots j 0)) (done.table.head j q some) (f.upright.rows (get_or pivots j 0) (done.table.row j q some)).pivot;
    }

    fits : Fits e fill (length es) cols vals ptrs
    fits =
        let w = row_fits (back_rows c m) (begun c m l) (room b) e fill ptrs cols vals f.writing (omega (arith, rows_many b)) in
        record { columns = omega (arith, w.columns, ap length es_here); numbers = omega (arith, w.numbers, ap length es_here); pointer = pointer_here }

    long : length dense ≡ n
    long = ap length f.zero ∙ length-table n (λ j. 0)

    -- it may be cleared
    pub filling_clears : Clears p (length dense) e fill (row m.u_ptrs m.u_cols r) (row m.u_ptrs m.u_vals r) dense (upper cols vals ptrs pivots)
    unfolding keeps
    filling_clears = rw long (record {
      takes = record {
        modulus = modulus c m b.opened b.lost b.fault;
        narrow = b.opened.wide;
        zero = f.zero;
        same = row_long c m b.opened b.lost b.fault r number_low;
        some = some;
        clean = subst (CleanRow p n) (sym offers) ((falls b).clean e low);
        heads = h;
        echelon = finished_echelon done;
        pivoted = pivots_here;
        low = omega (arith, low_rank b, b.opened.wide);
        u_columns = rw offers fits.columns;
        u_numbers = rw offers fits.numbers;
        u_pointer = pointer_here;
        l_columns = λ q. absurd (true≢false (sym q));
        l_numbers = λ q. let z : ◌≡◌ {A = ℕ} 0 1 = cc in absurd (omega arith);
        l_pointer = λ q. absurd (true≢false (sym q));
      };
      head = h e;
      accepted = rw offers step_accepted;
    })
      where
        some : 0 < length (row m.u_ptrs m.u_cols r)
        some = unfold row in omega (arith, length_part (get_or m.u_ptrs r 0) (get_or m.u_ptrs (r + 1) 0) m.u_cols row_here.columns, row_here.filled)

    -- U as values, with it
    was_next : finished p n rows (suc e) ≡ record { value = with_last e (value_of (answered true p n e v (rows e)).u) v.value; pivots = set v.pivots (h e) e }
    unfolding finished extended placed
    was_next = rw was_accepted

    table_next : set pivots (h e) e ≡ (finished p n rows (suc e)).pivots onto m.pivots
    unfolding ◌onto◌
    table_next =
        ap (λ (xs : List ℕ). set xs (h e) e) f.heads
        ∙ set-append_left v.pivots _ (h e) e (omega (arith, was_done.table.long, (falls b).within e low))
        ∙ ap (λ (i : ℕ). set v.pivots (h e) e ++ drop i m.pivots) (sym (length-set v.pivots (h e) e))
        ∙ ap (λ (w : S.Upper). w.pivots ++ drop (length w.pivots) m.pivots) (sym was_next)

    abbrev after : Upper
    after = with_u e fill (h e) es (upper cols vals ptrs pivots)

    grown : Grown n e (h e) u es (S.upper after.cols after.vals after.ptrs after.pivots)
    unfolding with_u
    grown = upright_grown f.upright es fits pivots (h e)

    built_next : Built p n rows (suc e) (S.upper after.cols after.vals after.ptrs after.pivots)
    built_next =
        built_more e u f.built (Some (h e)) (S.upper after.cols after.vals after.ptrs after.pivots)
        (grows (h e) (S.upper after.cols after.vals after.ptrs after.pivots) accepted (rw stepped grown))

    values_next : (i : ℕ) → i < suc e → (j : ℕ) → j < n → (S.upper after.cols after.vals after.ptrs after.pivots).value i j ≡ (finished p n rows (suc e)).value i j
    values_next =
        up_to (λ i. (j : ℕ) → j < n → (S.upper after.cols after.vals after.ptrs after.pivots).value i j ≡ (finished p n rows (suc e)).value i j) e
        (λ j q. grown.added j q ∙ ap (λ (x : List Entry). value_of x j) (ap (λ (t : Taken). t.u) (sym stepped ∙ same)) ∙ sym (ap (λ (x : ℕ → ℕ). x j) (last_there e new v.value)) ∙ sym (ap (λ (w : S.Upper). w.value e j) was_next))
        (λ i q j t. grown.kept i q j t ∙ f.values i q j t ∙ sym (ap (λ (x : ℕ → ℕ). x j) (last_before e new v.value i q)) ∙ sym (ap (λ (w : S.Upper). w.value i j) was_next))
      where
        new : ℕ → ℕ
        new = value_of (answered true p n e v (rows e)).u

    upright_next : Upright p n (e + 1) (fill + length es) after.cols after.vals after.ptrs h
    unfolding with_u
    upright_next = subst (Upright p n (e + 1) (fill + length es) after.cols after.vals after.ptrs) (last_same e h) (upright_grows f.upright es fits added.clean (h e) added.beyond added.head)

    writing_next : Writing (back_rows c m) (begun c m l) (e + 1) (fill + length es) after.ptrs after.cols after.vals
    unfolding with_u more
    writing_next = writing_more (back_rows c m) (begun c m l) (room b) e fill ptrs cols vals f.writing (fill + length es) after.cols after.vals (omega (arith, rows_many b)) (ap (λ (x : List Entry). more x (put fill cols vals)) es_here)

    next : Filling c m l (e + 1) (fill + length es) after.ptrs after.cols after.vals after.pivots (table n (λ j. 0))
    unfolding with_u
    next = record {
      writing = writing_next;
      heads = table_next ∙ ap (λ (i : ℕ). (finished p n rows i).pivots onto m.pivots) (sym (add-one e));
      upright = upright_next;
      built = subst (λ (i : ℕ). Built p n rows i (S.upper after.cols after.vals after.ptrs after.pivots)) (sym (add-one e)) built_next;
      values = λ i q j t. values_next i (omega arith) j t ∙ ap (λ (d : ℕ). (finished p n rows d).value i j) (sym (add-one e));
      zero = refl;
    }

    -- once it is cleared
    pub filling_more : {len : ℕ} {w : Upper} {dense' : List ℕ} → let s = stored_row p (length dense) e fill (row m.u_ptrs m.u_cols r) (row m.u_ptrs m.u_vals r) (upper cols vals ptrs pivots) in
        outcome len (outcome w dense') ≡ outcome s.told.u_len (outcome s.u s.dense) → Filling c m l (e + 1) (fill + len) w.ptrs w.cols w.vals w.pivots dense'
    unfolding stored_row storing
    filling_more {len} {w} {dense'} told = subst (λ (o : Outcome ℕ (Outcome Upper (List ℕ))). Filling c m l (e + 1) (fill + o.answer) o.memory.answer.ptrs o.memory.answer.cols o.memory.answer.vals o.memory.answer.pivots o.memory.memory) (sym (told ∙ seen)) next
      where
        seen : let s = stored_row p (length dense) e fill (row m.u_ptrs m.u_cols r) (row m.u_ptrs m.u_vals r) (upper cols vals ptrs pivots) in outcome s.told.u_len (outcome s.u s.dense) ≡ outcome (length es) (outcome after (table n (λ j. 0)))
        seen = rw (long, offers, step_accepted)
