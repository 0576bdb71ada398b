-- Entries that have passed the tests, written one by one.
-- Assumes nothing.
use Rattle.std.specs.Prelude.{None, Ok, Some, Option}
use mathlib.Core.Path.{◌≡◌, refl, sym, ap, ◌∙◌}
use mathlib.Core.Bool.{false}
use mathlib.Core.List.{List, [], ◌∷◌, ◌++◌, map, map-append, append-nil}
use Prim.Native.Nat.{ℕ, suc, ◌+◌, ◌-◌, ◌≤◌, ◌<◌}
use native.Mathlib.Omega.{arith}
use lib.Dec.{leb}
use lib.ListN.{length, drop, set, length-append, length-map}
use lib.Seq.{append_snoc}
use borrow.Author.Tests.{ltb-false, leb-false, eqb-false}
use Rattle.lists.specs.Onto.{◌onto◌}
use Rattle.lists.proofs.Ontos.{onto_nil, onto_more, length-onto}
use Rattle.sparse.proofs.Firsts.{refuse_good, lowest_good, neither}
use Rattle.triplets.specs.Triplets.{Triplet, triplet}
use Rattle.market.specs.Asks.{rows_in, cols_in, values_in, Entries, Listed}
use Rattle.market.specs.Parse.{got, line, lines}
use Rattle.market.specs.Places.{line_read, listed}
use Rattle.market.specs.Tests.{modulus, some, outside, entries_test}
use Rattle.market.specs.declared.lines.Numbers.{Numbers}
use Rattle.market.proofs.Heads.{Tail, lines_tail, lines_first, lines_length}
use Rattle.market.proofs.Passes.{one_more}

-- numbers of 32 bits, the place from 1 on
pub record Fit (t : Triplet) : Type 0 where
  pub row_from : 1 ≤ t.row
  pub row_to : t.row ≤ 64
  pub col_from : 1 ≤ t.col
  pub col_to : t.col ≤ 64
  pub small : t.value < 2147483647

pub data Fitting : List Triplet → Type 0 where
  none : Fitting []
  one : {t : Triplet} {ts : List Triplet} → Fit t → Fitting ts → Fitting (t ∷ ts)

fitted : (nrows ncols : ℕ) → nrows ≤ 64 → ncols ≤ 64 → (t : Triplet) → leb modulus t.value ≡ false → outside nrows ncols t ≡ false → Fit t
unfolding modulus outside
fitted nrows ncols rs cs t v o =
    let places = neither _ _ o in
    let three = neither _ _ places.0 in
    let two = neither _ _ three.0 in
    let r0 = eqb-false t.row 0 two.0 in
    let c0 = eqb-false t.col 0 three.1 in
    record {
      row_from = omega arith;
      row_to = omega (arith, ltb-false nrows t.row two.1);
      col_from = omega arith;
      col_to = omega (arith, ltb-false ncols t.col places.1);
      small = leb-false 2147483647 t.value v;
    }

fits : (nrows ncols : ℕ) → nrows ≤ 64 → ncols ≤ 64 → (ts : List Triplet) → some (λ t. leb modulus t.value) ts ≡ false → some (outside nrows ncols) ts ≡ false → Fitting ts
unfolding some
fits nrows ncols rs cs [] v o = none
fits nrows ncols rs cs (t ∷ ts) v o =
    let vs = neither _ _ v in
    let os = neither _ _ o in
    one (fitted nrows ncols rs cs t vs.0 os.0) (fits nrows ncols rs cs ts vs.1 os.1)

-- entries that have passed fit
pub passed_fits : (nrows ncols : ℕ) (ts : List Triplet) → entries_test nrows ncols ts ≡ Ok tt → Fitting ts
unfolding entries_test
passed_fits nrows ncols ts e =
    let sizes = lowest_good _ _ e in
    let larges = lowest_good _ _ sizes.1 in
    let zeros = lowest_good _ _ larges.1 in
    let outsides = lowest_good _ _ zeros.1 in
    let sides = neither _ _ (neither _ _ (refuse_good _ _ sizes.0)).0 in
    fits nrows ncols (ltb-false 64 nrows sides.0) (ltb-false 64 ncols sides.1) ts (refuse_good _ _ larges.0) (refuse_good _ _ outsides.0)

-- what the loop knows at its head: the entries of `front` are written, and `rest` is still to be read
pub record Reading (text : List ℕ) (ts : List Triplet) (rows₀ cols₀ vals₀ rows cols vals : List ℕ) (next left k : ℕ) : Type 0 where
  pub front : List Triplet
  pub rest : List Triplet
  pub all : ts ≡ front ++ rest
  pub many : length front ≡ k
  pub read : lines left (drop next text) ≡ got rest []
  pub fit : Fitting rest
  pub row : rows ≡ rows_in front onto rows₀
  pub col : cols ≡ cols_in front onto cols₀
  pub value : vals ≡ values_in front onto vals₀
  pub row_room : k + left ≤ length rows₀
  pub col_room : k + left ≤ length cols₀
  pub value_room : k + left ≤ length vals₀

pub reading_none : (text : List ℕ) (count at : ℕ) (rows cols vals : List ℕ) → Entries text count at (listed (lines count (drop at text))) rows cols vals
    → Reading text (listed (lines count (drop at text))) rows cols vals rows cols vals at count 0
unfolding rows_in cols_in values_in
reading_none text count at rows cols vals h = record {
  front = [];
  rest = listed (lines count (drop at text));
  all = refl;
  many = refl;
  read = h.read;
  fit = passed_fits h.nrows h.ncols _ h.good;
  row = sym (onto_nil rows);
  col = sym (onto_nil cols);
  value = sym (onto_nil vals);
  row_room = omega (arith, h.row_room);
  col_room = omega (arith, h.col_room);
  value_room = omega (arith, h.value_room);
}

-- one number more of each entry at the front of a list
more : (f : Triplet → ℕ) (front : List Triplet) (old : List ℕ) (k : ℕ) (t : Triplet) → length front ≡ k → k < length old → set (map f front onto old) k (f t) ≡ map f (front ++ (t ∷ [])) onto old
more f front old k t e h =
    onto_more (map f front) old k (f t) (length-map front f ∙ e) h ∙ ap (λ (l : List ℕ). l onto old) (sym (map-append f front (t ∷ [])))

-- and its length
kept : (f : Triplet → ℕ) (front : List Triplet) (old : List ℕ) (k : ℕ) → length front ≡ k → k ≤ length old → length (map f front onto old) ≡ length old
kept f front old k e h = length-onto (map f front) old (rw (length-map front f) (omega arith))

module _ (text : List ℕ) (ts : List Triplet) (rows₀ cols₀ vals₀ : List ℕ) {rows cols vals : List ℕ} {next left k : ℕ} (h : Reading text ts rows₀ cols₀ vals₀ rows cols vals next left k) where
  pub reading_rows : length rows ≡ length rows₀
  unfolding rows_in
  reading_rows = ap length h.row ∙ kept (λ t. t.row - 1) h.front rows₀ k h.many (omega (arith, h.row_room))

  pub reading_cols : length cols ≡ length cols₀
  unfolding cols_in
  reading_cols = ap length h.col ∙ kept (λ t. t.col - 1) h.front cols₀ k h.many (omega (arith, h.col_room))

  pub reading_vals : length vals ≡ length vals₀
  unfolding values_in
  reading_vals = ap length h.value ∙ kept (λ t. t.value) h.front vals₀ k h.many (omega (arith, h.value_room))

  -- no line is left
  pub reading_all : left ≤ 0 → Listed ts rows₀ cols₀ vals₀ rows cols vals
  reading_all l =
      let z : left ≡ 0 = omega arith in
      let r : lines 0 (drop next text) ≡ got h.rest [] = rw z at h.read in
      let n : h.rest ≡ [] = empty h.rest (lines_length 0 (drop next text) r) in
      let e : h.front ≡ ts = sym (append-nil h.front) ∙ ap (λ (l : List Triplet). h.front ++ l) (sym n) ∙ sym h.all in
      record {
        row = h.row ∙ ap (λ (l : List Triplet). rows_in l onto rows₀) e;
        col = h.col ∙ ap (λ (l : List Triplet). cols_in l onto cols₀) e;
        value = h.value ∙ ap (λ (l : List Triplet). values_in l onto vals₀) e;
      }
    where
      empty : (us : List Triplet) → length us ≡ 0 → us ≡ []
      empty [] q = refl
      empty (u ∷ us) q = absurd (omega arith)

  reading : 0 < left → lines (suc (left - 1)) (drop next text) ≡ got h.rest []
  reading l = rw (one_more left l) at h.read

  module _ (l : 0 < left) {r : Option Numbers} (found : line_read text r ≡ line (drop next text)) where
    -- each of them is a line,
    pub reading_line : r ≡ None → ⊥
    unfolding line_read
    reading_line e = lines_first (left - 1) (drop next text) (reading l) (sym found ∙ rw e)

    module _ {n : Numbers} (e : r ≡ Some n) where
      tail : Tail (triplet n.row n.col n.value) (left - 1) (drop n.next text) h.rest []
      unfolding line_read
      tail = lines_tail (left - 1) (drop next text) (sym found ∙ rw e) (reading l)

      both : Fitting (triplet n.row n.col n.value ∷ tail.others)
      both = rw tail.all at h.fit

      -- which fits,
      pub reading_fit : Fit (triplet n.row n.col n.value)
      reading_fit = first both
        where
          first : {t : Triplet} {us : List Triplet} → Fitting (t ∷ us) → Fit t
          first (one f g) = f

      -- and then one entry more is written
      pub reading_more : Reading text ts rows₀ cols₀ vals₀ (set rows k (n.row - 1)) (set cols k (n.col - 1)) (set vals k n.value) n.next (left - 1) (k + 1)
      unfolding rows_in cols_in values_in
      reading_more =
          let t : Triplet = triplet n.row n.col n.value in
          record {
            front = h.front ++ (t ∷ []);
            rest = tail.others;
            all = h.all ∙ ap (λ (l : List Triplet). h.front ++ l) tail.all ∙ sym (append_snoc h.front t tail.others);
            many = length-append h.front (t ∷ []) ∙ ap (λ (m : ℕ). m + 1) h.many;
            read = tail.read;
            fit = others both;
            row = ap (λ (l : List ℕ). set l k (n.row - 1)) h.row ∙ more (λ t. t.row - 1) h.front rows₀ k t h.many (omega (arith, h.row_room));
            col = ap (λ (l : List ℕ). set l k (n.col - 1)) h.col ∙ more (λ t. t.col - 1) h.front cols₀ k t h.many (omega (arith, h.col_room));
            value = ap (λ (l : List ℕ). set l k n.value) h.value ∙ more (λ t. t.value) h.front vals₀ k t h.many (omega (arith, h.value_room));
            row_room = omega (arith, h.row_room);
            col_room = omega (arith, h.col_room);
            value_room = omega (arith, h.value_room);
          }
        where
          others : {t : Triplet} {us : List Triplet} → Fitting (t ∷ us) → Fitting us
          others (one f g) = g
