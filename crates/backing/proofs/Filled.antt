-- The second U once it is built: what is seen then, and that it comes to be.
-- Assumes nothing.
use mathlib.Core.Path.{◌≡◌, refl, sym, ap, subst, ◌∙◌}
use mathlib.Core.List.{List, [], ◌∷◌, ◌++◌, flatten}
use Prim.Native.Nat.{ℕ, zero, suc, ◌+◌, ◌≤◌}
use native.Mathlib.Numerals.{add-one}
use native.Mathlib.Omega.{arith}
use lib.ListN.{length, drop}
use lib.Seq.{take_all}
use Rattle.lists.specs.Onto.{◌onto◌}
use Rattle.lists.specs.Table.{table}
use Rattle.lists.proofs.Ontos.{length-onto, drop-onto}
use Rattle.lists.proofs.Tables.{length-table}
use Rattle.sparse.specs.Lent.{Lent, lent, Outcome, outcome}
use Rattle.sparse.specs.Put.{cols_of, values_of, put_rows}
use Rattle.sparse.specs.Rows.{Entry, offset}
use Rattle.state.specs.Memory.{Memory, memory}
use Rattle.state.specs.declared.Counts.{Counts}
use Rattle.writing.proofs.Writing.{writing_all, cols_keep, vals_keep, ptrs_keep}
use Rattle.stepping.specs.Take.{cleared}
use Rattle.stepping.proofs.Clears.{cleared_zero}
use Rattle.reduced.specs.Building.{finished}
use Rattle.reduced.proofs.Builds.{finished_long}
use Rattle.backing.specs.Asks.{numbers_down, ordered, Builds}
use Rattle.backing.specs.Back.{down_row, back_rows, back_pivots, Backing, backing, backed}
use Rattle.backing.proofs.Most.{entries_most}
use Rattle.backing.proofs.Fits.{begun, low_rank, numbers_many, rows_many, few, begun_long, room}
use Rattle.backing.proofs.Fillings.{Filling, filling_start, filling_more}

-- written over something as long
onto_over : (new mid old : List ℕ) → length new ≡ length mid → new onto mid onto old ≡ new onto old
onto_over new mid old e = unfold ◌onto◌ in ap (λ (xs : List ℕ). new ++ xs) rest
  where
    rest : drop (length new) (mid onto old) ≡ drop (length new) old
    rest = ap (λ (i : ℕ). drop i (mid onto old)) e ∙ drop-onto mid old ∙ ap (λ (i : ℕ). drop i old) (sym e)

module _ {c : Counts} {m : Memory} {l : Lent} {dense₀ : List ℕ} (b : Builds c m l dense₀) where
  abbrev p : ℕ
  p = c.modulus

  abbrev n : ℕ
  n = c.ncols

  abbrev k : ℕ
  k = c.rank

  abbrev rows : ℕ → List Entry
  rows = down_row c m

  -- nothing of the order is left once the pointers are written
  order_over : put_rows (back_rows c m) (begun c m l) ≡ put_rows (back_rows c m) l
  unfolding put_rows
  order_over = ap (λ (q : List ℕ). lent q (cols_of (flatten (back_rows c m)) onto l.col_idcs) (values_of (flatten (back_rows c m)) onto l.values)) (onto_over (table (length (back_rows c m) + 1) (offset (back_rows c m))) (0 ∷ numbers_down m.pivots n) l.row_ptrs (omega (arith, length-table (length (back_rows c m) + 1) (offset (back_rows c m)), rows_many b, numbers_many b)))

  -- all along
  module _ {e fill : ℕ} {ptrs cols vals pivots dense : List ℕ} (f : Filling c m l e fill ptrs cols vals pivots dense) where
    pub filling_few : fill ≤ 1048576
    filling_few = let low : e ≤ k = omega (arith, f.writing.within, rows_many b) in omega (arith, f.writing.place, few b e low, entries_most e k n low (low_rank b) b.opened.wide)

    -- lent memory keeps its length
    pub long_cols : length cols ≡ length l.col_idcs
    long_cols = cols_keep (back_rows c m) (begun c m l) (room b) e fill ptrs cols vals f.writing

    pub long_vals : length vals ≡ length l.values
    long_vals = vals_keep (back_rows c m) (begun c m l) (room b) e fill ptrs cols vals f.writing

    pub long_ptrs : length ptrs ≡ length l.row_ptrs
    long_ptrs = ptrs_keep (back_rows c m) (begun c m l) (room b) e fill ptrs cols vals f.writing ∙ begun_long b

    pub long_pivots : length pivots ≡ length m.pivots
    long_pivots = ap length f.heads ∙ length-onto (finished p n rows e).pivots m.pivots (omega (arith, finished_long p n rows e, b.opened.table))

    -- all rows
    pub filling_all : k ≤ e → outcome fill (backing pivots (lent ptrs cols vals) dense) ≡ outcome (length (flatten (back_rows c m))) (backed c m l dense₀)
    unfolding backed back_pivots offset
    filling_all all =
        let whole : e ≡ k = omega (arith, f.writing.within, rows_many b) in
        let entries_all : fill ≡ length (flatten (back_rows c m)) = f.writing.place ∙ ap (λ (rs : List (List Entry)). length (flatten rs)) (take_all e (back_rows c m) (omega (arith, rows_many b))) in
        let heads_all : pivots ≡ (finished p n rows k).pivots onto m.pivots = f.heads ∙ ap (λ (i : ℕ). (finished p n rows i).pivots onto m.pivots) whole in
        let dense_all : dense ≡ cleared n dense₀ = f.zero ∙ sym b.zero ∙ sym (cleared_zero n dense₀ b.zero) in
        together entries_all heads_all (writing_all (back_rows c m) (begun c m l) (room b) e fill ptrs cols vals f.writing (omega (arith, rows_many b)) ∙ order_over) dense_all
      where
        together : {a a' : ℕ} {q q' : List ℕ} {x x' : Lent} {d d' : List ℕ} → a ≡ a' → q ≡ q' → x ≡ x' → d ≡ d' → outcome a (backing q x d) ≡ outcome a' (backing q' x' d')
        together s t y z = rw (s, t, y, z)

-- its rows come to be there one after another, up to the last
module _ {c : Counts} {m : Memory} {l : Lent} {dense₀ : List ℕ} (b : Builds c m l dense₀) where
  record Reached (e : ℕ) : Type 0 where
    fill : ℕ
    ptrs : List ℕ
    cols : List ℕ
    vals : List ℕ
    pivots : List ℕ
    dense : List ℕ
    there : Filling c m l e fill ptrs cols vals pivots dense

  reach : {e fill : ℕ} {ptrs cols vals pivots dense : List ℕ} → Filling c m l e fill ptrs cols vals pivots dense → Reached e
  reach {e} {fill} {ptrs} {cols} {vals} {pivots} {dense} f = record { fill = fill; ptrs = ptrs; cols = cols; vals = vals; pivots = pivots; dense = dense; there = f }

  reached : (e : ℕ) → e ≤ c.rank → Reached e
  reached zero q = reach (filling_start b refl)
  reached (suc e) q =
      let r : Reached e = reached e (omega arith) in
      subst Reached (add-one e) (reach (filling_more b r.there q refl))

  -- the second U as it is in the end
  pub filling_last : Filling c m l c.rank (length (flatten (back_rows c m))) (put_rows (back_rows c m) l).row_ptrs (put_rows (back_rows c m) l).col_idcs (put_rows (back_rows c m) l).values (back_pivots c m onto m.pivots) (cleared c.ncols dense₀)
  unfolding backed
  filling_last =
      let r : Reached c.rank = reached c.rank (omega arith) in
      subst (λ (o : Outcome ℕ Backing). Filling c m l c.rank o.answer o.memory.second.row_ptrs o.memory.second.col_idcs o.memory.second.values o.memory.pivots o.memory.dense) (filling_all b r.there (omega arith)) r.there

-- a filling, for whatever table and pointers there were before the order was written
pub record Along (c : Counts) (u_cols u_vals u_ptrs ptrs₁ cols₁ vals₁ pivots₁ dense₁ : List ℕ) (e fill : ℕ) (ptrs cols vals pivots dense : List ℕ) : Type 0 where
  pub from : (old_pivots old_ptrs : List ℕ) → Builds c (memory u_cols u_vals u_ptrs [] [] [] old_pivots) (lent old_ptrs cols₁ vals₁) dense₁ → outcome ptrs₁ pivots₁ ≡ ordered c.ncols old_pivots old_ptrs
      → Filling c (memory u_cols u_vals u_ptrs [] [] [] old_pivots) (lent old_ptrs cols₁ vals₁) e fill ptrs cols vals pivots dense
