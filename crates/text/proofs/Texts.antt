-- Whole texts: what the writers write is the text of the matrix or the vector, and what a printing call comes to.
-- Assumes nothing.
use Rattle.std.specs.Prelude.{Err, Ok}
use mathlib.Core.Path.{◌≡◌, refl, sym, ap, ◌∙◌}
use mathlib.Core.List.{List, [], ◌∷◌, ◌++◌, map, flatten, append_assoc}
use Prim.Native.Nat.{ℕ, ◌≤◌}
use native.Mathlib.Nat.{sub-zero}
use native.Mathlib.Omega.{arith}
use lib.Dec.{ltb}
use lib.ListN.{length, take}
use lib.Seq.{take_all}
use borrow.Author.Tests.{ltb-false}
use Rattle.lists.proofs.Tables.{get_or-table, table_ext}
use Rattle.sparse.specs.Lent.{outcome, unless}
use Rattle.sparse.specs.Matrix.{Matrix, matrix, part, row}
use Rattle.sparse.specs.Refusals.{refuse, lowest, ◌else◌, Tested}
use Rattle.sparse.specs.Rows.{Entry, entries, rows_of, row_at}
use Rattle.sparse.specs.Tests.{well_formed, one_row, well_formed_vector}
use Rattle.sparse.specs.declared.Refusal.{Refusal}
use Rattle.sparse.specs.declared.Refusal.TheVariants.{Room}
use Rattle.sparse.proofs.Cuts.{small, Laid, formed_laid}
use Rattle.sparse.proofs.Firsts.{refuse_good, lowest_good}
use Rattle.text.specs.Asks.{LineAt, RowsAt}
use Rattle.text.specs.Mma.{piece, mma, matrix_text, vector_text, printing}
use Rattle.text.specs.Writers.{Wrote, placed, pieces, row_pieces, links, ending}
use Rattle.text.specs.declared.inside.Line.TheVariants.{Column}
use Rattle.meaning.proofs.RowLists.{length-entries}
use Rattle.text.proofs.Pieces.{commas_links}
use Rattle.text.proofs.Puts.{wrote_length, wrote_onto}

-- two braces, the pieces and the ending
mma_text : (rows cols : ℕ) (ps : List (List ℕ)) → (123 ∷ 123 ∷ []) ++ links 0 ps ++ ending rows cols ≡ mma rows cols ps
unfolding mma ending
mma_text rows cols ps = ap (λ (l : List ℕ). 123 ∷ 123 ∷ l ++ ending rows cols) (commas_links ps) ∙ simp append_assoc

-- a matrix, row by row
pub matrix_text_lem : (rows ncols : ℕ) (ptrs cols vals : List ℕ)
    → (123 ∷ 123 ∷ []) ++ links 0 (flatten (row_pieces rows ptrs (entries cols vals))) ++ ending rows ncols ≡ matrix_text (matrix rows ncols ptrs cols vals)
unfolding matrix_text row_pieces pieces placed row_at rows_of
matrix_text_lem rows ncols ptrs cols vals =
    mma_text rows ncols (flatten (row_pieces rows ptrs (entries cols vals)))
    ∙ ap (λ (ps : List (List (List ℕ))). mma rows ncols (flatten ps))
    (table_ext rows _ _ (λ i h. ap (map (λ (e : Entry). piece i e.col e.value)) (sym (get_or-table rows (row ptrs (entries cols vals)) i [] h))))

-- a vector, as one column
pub vector_text_lem : (len : ℕ) (idcs vals : List ℕ)
    → (123 ∷ 123 ∷ []) ++ links 0 (pieces (Column 0) (part 0 (length vals) (entries idcs vals))) ++ ending len 1 ≡ vector_text len idcs vals
unfolding vector_text pieces placed part
vector_text_lem len idcs vals =
    mma_text len 1 (pieces (Column 0) (part 0 (length vals) (entries idcs vals)))
    ∙ ap (λ (es : List Entry). mma len 1 (pieces (Column 0) es))
    (ap (λ (n : ℕ). take n (entries idcs vals)) (sub-zero (length vals)) ∙ take_all (length vals) (entries idcs vals) (rw length-entries (omega arith)))

-- what passes the tests has at most so many entries
few_entries : (limit p : ℕ) (m : Matrix) → well_formed limit p m ≡ Ok tt → length m.values ≤ limit
unfolding well_formed
few_entries limit p m e = (small limit m.nrows m.ncols (length m.values) (lowest_good _ _ (lowest_good _ _ e).1).0).few

-- so that it can be written
pub matrix_ask : (p : ℕ) (m : Matrix) → well_formed 65536 p m ≡ Ok tt → RowsAt m.nrows m.row_ptrs m.col_idcs m.values 48
matrix_ask p m e =
    let laid : Laid m = formed_laid 65536 p m e in
    record {
      cut = laid.rows;
      starts = laid.shape.starts;
      same = laid.shape.col_each;
      reach = record { fits = omega (arith, few_entries 65536 p m e) };
    }

pub vector_ask : (p len : ℕ) (idcs vals : List ℕ) → well_formed_vector 65536 p len idcs vals ≡ Ok tt → LineAt 0 (length vals) idcs vals 48
unfolding well_formed_vector one_row
vector_ask p len idcs vals e =
    let many : length vals ≤ 65536 = few_entries 65536 p (one_row len idcs vals) e in
    let same : length idcs ≡ length vals = (formed_laid 65536 p (one_row len idcs vals) e).shape.col_each in
    record {
      rises = omega arith;
      columns = omega arith;
      numbers = omega arith;
      reach = record { fits = omega arith };
    }

-- what is written to no memory is counted only
nowhere : {bytes none : List ℕ} {at many : ℕ} → Wrote bytes at [] many none → none ≡ []
nowhere {none = []} w = refl
nowhere {none = x ∷ xs} w = absurd (omega (arith, wrote_length w))

-- a call that prints, as its code goes: it is refused by its tests,
pub refused_tests : {s t : Tested} {r : Refusal} (bytes : List ℕ) {out : List ℕ} → s ≡ t → s ≡ Err r → outcome (Err r) out ≡ printing t bytes out
unfolding printing unless lowest ◌else◌
refused_tests bytes q e = rw (← q, e)

-- or, with the bytes counted, by 14,
module _ {s t u : Tested} {bytes none : List ℕ} {many : ℕ} (out : List ℕ) (q : s ≡ t) (good : s ≡ Ok tt) (counted : Wrote bytes 0 [] many none) (asked : u ≡ refuse (ltb (length (none ++ out)) many) Room) where
  room_is : u ≡ refuse (ltb (length out) (length bytes)) Room
  room_is =
      let n : many ≡ length bytes = omega (arith, counted.next) in
      asked ∙ (λ i. refuse (ltb (length (nowhere counted i ++ out)) (n i)) Room)

  pub refused_room : {r : Refusal} → u ≡ Err r → outcome (Err r) (none ++ out) ≡ printing t bytes out
  unfolding printing unless lowest ◌else◌
  refused_room {r} e = rw (nowhere counted, ← q, good, ← room_is, e)

  -- or they are written
  pub printed : {next : ℕ} {left : List ℕ} → u ≡ Ok tt → Wrote bytes 0 (none ++ out) next left → outcome (Ok many) left ≡ printing t bytes out
  unfolding printing unless lowest ◌else◌
  printed e w =
      let n : many ≡ length bytes = omega (arith, counted.next) in
      let fits : length bytes ≤ length out = ltb-false (length out) (length bytes) (refuse_good _ _ (sym room_is ∙ e)) in
      rw (← q, good, ← room_is, e) (λ i. outcome (Ok (n i)) (wrote_onto (rw (nowhere counted) at w) fits i))
