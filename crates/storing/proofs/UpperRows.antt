-- The new row of U: what is gathered and scaled is what is left of the row, divided by its head, without zeros.
-- Assumes nothing.
use mathlib.Core.Path.{◌≡◌, refl, sym, ap, ap₂, ◌∙◌}
use mathlib.Core.Logic.{⊎_elim}
use mathlib.Core.Bool.{Bool, true, false, not, ◌&&◌, cond, true≢false}
use mathlib.Core.List.{List, [], ◌∷◌, ◌++◌, map}
use Prim.Native.Nat.{ℕ, zero, suc, ◌+◌, ◌*◌, ◌%◌, ◌≤◌, ◌<◌}
use native.Mathlib.Nat.{zero-mul, zero-mod, not-suc-le-zero}
use native.Mathlib.Decide.{dec_lt, ℕ_discrete}
use native.Mathlib.Omega.{arith}
use borrow.Author.Tests.{eq-eqb, ne_eqb}
use lib.Dec.{eqb}
use lib.ListN.{length, get_or, take, length-map, length-append, get_or-append}
use lib.Seq.{get_or_at}
use Rattle.lists.specs.Find.{keep}
use Rattle.lists.specs.Gather.{gather}
use Rattle.lists.specs.Onto.{◌onto◌}
use Rattle.lists.specs.Table.{table}
use Rattle.lists.proofs.Gathers.{gather_ext, keep_table, map-gather}
use Rattle.lists.proofs.Ontos.{length-onto, take-onto}
use Rattle.field.specs.Inverse.{inverse, Invertible}
use Rattle.field.proofs.Inverses.{inverse_in, prime_invertible}
use Rattle.field.proofs.Laws.{prime_product}
use Rattle.field.proofs.Primes.{modulus_iff}
use Rattle.sparse.specs.Put.{cols_of, values_of}
use Rattle.sparse.specs.Rows.{Entry, entry}
use Rattle.walk.specs.Left.{over, rest_of}
use Rattle.walk.specs.Step.{divided}
use Rattle.storing.specs.Asks.{Gathers, Scales, Heads}
use Rattle.storing.specs.Counted.{Counted, counted, stored, stored_row}
use Rattle.storing.specs.Gathers.{stands, gathered, scaled}
use Rattle.storing.specs.Gathers as G
use Rattle.storing.specs.declared.Part.TheVariants.{Column}

-- what is gathered are columns below n
pub gathered_below : (k : ℕ → Bool) (n i : ℕ) → i < length (gather k (λ j. j) n) → get_or (gather k (λ j. j) n) i 0 < n
unfolding gather
gathered_below k zero i h = absurd (not-suc-le-zero h)
gathered_below k (suc n) i h = go (k n) (dec_lt i (length (gather k (λ j. j) n))) (rw length-append at h) (gathered_below k n i)
  where
    go : (b : Bool) → Dec (i < length (gather k (λ j. j) n)) → i < length (gather k (λ j. j) n) + length (cond b (n ∷ []) []) → (i < length (gather k (λ j. j) n) → get_or (gather k (λ j. j) n) i 0 < n)
        → get_or (gather k (λ j. j) n ++ cond b (n ∷ []) []) i 0 < suc n
    go b (yes l) q ih = rw (get_or-append (gather k (λ j. j) n) (cond b (n ∷ []) []) 0 i l) (omega (arith, ih l))
    go true (no l) q ih = rw (get_or_at (gather k (λ j. j) n) n [] 0 i (omega arith)) (omega arith)
    go false (no l) q ih = absurd (omega arith)

module _ {p : ℕ} {pivots dense : List ℕ} {limit head : ℕ} {cols vals : List ℕ} (h : Heads p pivots dense limit head cols vals) where
  abbrev n : ℕ
  n = length dense

  abbrev x : ℕ → ℕ
  x = rest_of pivots limit dense

  pub head_invertible : Invertible p (get_or dense head 0)
  head_invertible =
      let pos : 0 < get_or dense head 0 = go (dec_lt 0 (get_or dense head 0)) in
      prime_invertible ((modulus_iff p).0 h.modulus).0 pos (h.small head h.within)
    where
      go : Dec (0 < get_or dense head 0) → 0 < get_or dense head 0
      go (yes l) = l
      go (no l) = absurd (h.nonzero (omega arith))

  rest_head : x head ≡ get_or dense head 0
  unfolding rest_of
  rest_head = rw h.free

  abbrev f : ℕ
  f = inverse p (get_or dense head 0)

  -- dividing makes no zero
  divides : (a : ℕ) → a < p → a * f % p ≡ 0 → a ≡ 0
  divides a l e =
      ⊎_elim (λ (q : a ≡ 0). q) (λ (q : f ≡ 0). let pos : 0 < f = (inverse_in head_invertible).0 in absurd (omega arith))
      (prime_product ((modulus_iff p).0 h.modulus).0 l (inverse_in head_invertible).1 e)

  kept : (j : ℕ) → j < n → not (eqb (x j * f % p) 0) ≡ stands Column pivots dense limit j
  unfolding stands rest_of
  kept j l = go (over pivots limit j) (ℕ_discrete (get_or dense j 0) 0)
    where
      go : (b : Bool) → Dec (get_or dense j 0 ≡ 0) → not (eqb (cond b 0 (get_or dense j 0) * f % p) 0) ≡ not b && not (eqb (get_or dense j 0) 0)
      go true d = rw (eq-eqb (0 * f % p) 0 (ap (λ (y : ℕ). y % p) (zero-mul f) ∙ zero-mod p))
      go false (yes e) = rw (eq-eqb (get_or dense j 0) 0 e, eq-eqb (get_or dense j 0 * f % p) 0 (ap (λ (y : ℕ). y * f % p) e ∙ ap (λ (y : ℕ). y % p) (zero-mul f) ∙ zero-mod p))
      go false (no ne) = rw (ne_eqb (get_or dense j 0) 0 ne, ne_eqb (get_or dense j 0 * f % p) 0 (λ e. ne (divides (get_or dense j 0) (h.small j l) e)))

  -- where something stands, it is what is left
  same : (j : ℕ) → not (eqb (x j * f % p) 0) ≡ true → x j * f % p ≡ get_or dense j 0 * f % p
  unfolding rest_of
  same j e = go (over pivots limit j) e
    where
      go : (b : Bool) → not (eqb (cond b 0 (get_or dense j 0) * f % p) 0) ≡ true → cond b 0 (get_or dense j 0) * f % p ≡ get_or dense j 0 * f % p
      go false q = refl
      go true q = absurd (true≢false (sym q ∙ rw (eq-eqb (0 * f % p) 0 (ap (λ (y : ℕ). y % p) (zero-mul f) ∙ zero-mod p))))

  abbrev row : List Entry
  row = divided p n x head

  rows : row ≡ gather (λ j. not (eqb (x j * f % p) 0)) (λ j. entry j (x j * f % p)) n
  unfolding divided
  rows =
      ap (λ (y : ℕ). keep (λ (e : Entry). not (eqb e.value 0)) (table n (λ j. entry j (x j * inverse p y % p)))) rest_head
      ∙ keep_table (λ (e : Entry). not (eqb e.value 0)) (λ j. entry j (x j * f % p)) n

  columns : cols_of row ≡ gathered Column pivots dense limit n
  unfolding cols_of gathered G.told
  columns =
      ap (map (λ (e : Entry). e.col)) rows
      ∙ map-gather (λ (e : Entry). e.col) (λ j. not (eqb (x j * f % p) 0)) (λ j. entry j (x j * f % p)) n
      ∙ gather_ext (λ j. not (eqb (x j * f % p) 0)) (stands Column pivots dense limit) (λ j. j) (λ j. j) n kept (λ j l e. refl)

  numbers : values_of row ≡ scaled p f dense (gathered Column pivots dense limit n)
  unfolding values_of gathered G.told scaled
  numbers =
      ap (map (λ (e : Entry). e.value)) rows
      ∙ map-gather (λ (e : Entry). e.value) (λ j. not (eqb (x j * f % p) 0)) (λ j. entry j (x j * f % p)) n
      ∙ gather_ext (λ j. not (eqb (x j * f % p) 0)) (stands Column pivots dense limit) (λ j. x j * f % p) (λ j. get_or dense j 0 * f % p) n kept (λ j l e. same j e)
      ∙ sym (map-gather (λ j. get_or dense j 0 * f % p) (stands Column pivots dense limit) (λ j. j) n)

  long : length row ≡ length (gathered Column pivots dense limit n)
  unfolding cols_of
  long = sym (length-map row (λ (e : Entry). e.col)) ∙ ap length columns

  -- what gathering asks for
  pub heads_gathers : Gathers Column pivots dense limit head n cols
  heads_gathers = record {
    rises = omega (arith, h.within);
    narrow = h.narrow;
    columns = omega arith;
    table = h.table;
    before = λ j l. sym (kept j (omega (arith, h.within))) ∙ rw (eq-eqb (x j * f % p) 0 (ap (λ (y : ℕ). y * f % p) (h.before j l) ∙ ap (λ (y : ℕ). y % p) (zero-mul f) ∙ zero-mod p));
    room = omega (arith, long, h.columns);
  }

  -- what scaling asks for
  module _ {len : ℕ} {new : List ℕ} (made : counted len new ≡ counted (length (gathered Column pivots dense limit n)) (gathered Column pivots dense limit n onto cols)) where
    wrote : new ≡ gathered Column pivots dense limit n onto cols
    wrote = ap (λ (c : Counted). c.list) made

    many : len ≡ length (gathered Column pivots dense limit n)
    many = ap (λ (c : Counted). c.len) made

    front : take len new ≡ gathered Column pivots dense limit n
    front = ap₂ take many wrote ∙ take-onto (gathered Column pivots dense limit n) cols

    pub heads_fits : len ≤ length new
    heads_fits = omega (arith, many, ap length wrote ∙ length-onto (gathered Column pivots dense limit n) cols (omega (arith, long, h.columns)), long, h.columns)

    pub heads_scales : {g : ℕ} → g ≡ f → Scales p g dense (take len new) vals
    unfolding gathered G.told
    heads_scales {g} e = rw front (record {
      factor = rw e (inverse_in head_invertible).1;
      below = gathered_below (stands Column pivots dense limit) n;
      small = h.small;
      room = omega (arith, long, h.numbers);
    })

    -- and the row that is then stored
    pub heads_stored : {g : ℕ} → g ≡ f → {nums : List ℕ} → nums ≡ scaled p g dense (take len new) onto vals → stored len new nums ≡ stored_row row cols vals
    unfolding stored_row
    heads_stored {g} e {nums} v =
        let m : len ≡ length row = many ∙ sym long in
        let c : new ≡ cols_of row onto cols = wrote ∙ ap (λ (l : List ℕ). l onto cols) (sym columns) in
        let w : nums ≡ values_of row onto vals = v ∙ ap₂ (λ (y : ℕ) (l : List ℕ). scaled p y dense l onto vals) e front ∙ ap (λ (l : List ℕ). l onto vals) (sym numbers) in
        rw (m, c, w)
