-- The kernels' loops over dense memory: what they have at each turn.
-- Assumes nothing.
use mathlib.Core.Path.{◌≡◌, refl, sym, ap, ◌∙◌}
use mathlib.Core.Bool.{true, false, not, cond}
use mathlib.Core.List.{List, ◌++◌}
use Prim.Native.Nat.{ℕ, ◌+◌, ◌-◌, ◌*◌, ◌%◌, ◌^◌, ◌≤◌, ◌<◌, min}
use native.Mathlib.Nat.{mod-eq_of_lt, mod-add-mod, add-zero, mul-zero, zero-add, mul-le-mul_left}
use native.Mathlib.Decide.{dec_lt}
use native.Mathlib.Numerals.{add-one}
use native.Mathlib.Omega.{arith}
use borrow.Author.Tests.{eq-eqb, ne_eqb, lt-ltb, le-ltb}
use lib.Dec.{eqb, ltb}
use lib.ListN.{length, get_or, set, take, replicate, length-append, get_or-append}
use lib.Seq.{length-take-le, get_or-append_right}
use Rattle.std.proofs.lemmas.List.{length-replicate, get_or-replicate, get_or-take}
use Rattle.lists.specs.Sum.{Σ}
use Rattle.lists.specs.Table.{table}
use Rattle.lists.proofs.Find.{least_first, least_none}
use Rattle.lists.proofs.Sums.{sum-zero}
use Rattle.lists.proofs.Tables.{get_or-table, table_get_or, table_ext, set-table}
use Rattle.sparse.specs.Matrix.{value_in}
use Rattle.meaning.proofs.Values.{Climbs}
use Rattle.walk.specs.Dense.{next_from, plus_multiple, spread, wiped}

-- a product and one number more fit 64 bits
pub product_room : {a f b : ℕ} → a < 2 ^ 32 → f < 2 ^ 32 → b < 2 ^ 32 → a + f * b < 2 ^ 64
product_room {a} {f} {b} ha hf hb =
    let room : f * b ≤ f * 4294967295 = mul-le-mul_left f (let h : b ≤ 4294967295 = omega arith in h) in
    omega arith

-- `next`: nothing but zeros from c up to `at`
pub record Searched (dense : List ℕ) (c at : ℕ) : Type 0 where
  pub from : c ≤ at
  pub zeros : (j : ℕ) → c ≤ j → j < at → get_or dense j 0 ≡ 0

pub searched_none : (dense : List ℕ) (c : ℕ) → Searched dense c c
searched_none dense c = record { from = omega arith; zeros = λ j a b. absurd (omega arith) }

module _ {dense : List ℕ} {c at : ℕ} (s : Searched dense c at) where
  -- the test of `next_from` fails up to `at`
  passed : (i : ℕ) → i < at - c → not (eqb (get_or dense (c + i) 0) 0) ≡ false
  passed i h = rw (eq-eqb (get_or dense (c + i) 0) 0 (s.zeros (c + i) (omega arith) (omega arith)))

  pub searched_more : get_or dense at 0 ≡ 0 → Searched dense c (at + 1)
  searched_more e = record { from = omega (arith, s.from); zeros = λ j a b. go j a (dec_lt j at) b }
    where
      go : (j : ℕ) → c ≤ j → Dec (j < at) → j < at + 1 → get_or dense j 0 ≡ 0
      go j a (yes l) b = s.zeros j a l
      go j a (no l) b = let q : j ≡ at = omega arith in rw q e

  pub searched_found : at < length dense → (get_or dense at 0 ≡ 0 → ⊥) → at ≡ next_from dense c
  unfolding next_from
  searched_found h ne =
      let back : c + (at - c) ≡ at = omega (arith, s.from) in
      let here : not (eqb (get_or dense (c + (at - c)) 0) 0) ≡ true = rw (back, ne_eqb (get_or dense at 0) 0 ne) in
      let low : at - c < length dense - c = omega (arith, s.from) in
      sym (ap (λ (k : ℕ). c + k) (least_first (length dense - c) (λ i. not (eqb (get_or dense (c + i) 0) 0)) (at - c) low here passed) ∙ back)

  pub searched_all : c ≤ length dense → length dense ≤ at → length dense ≡ next_from dense c
  unfolding next_from
  searched_all within h =
      let back : c + (length dense - c) ≡ length dense = omega arith in
      sym (ap (λ (k : ℕ). c + k) (least_none (length dense - c) (λ i. not (eqb (get_or dense (c + i) 0) 0)) (λ i l. passed i (omega arith))) ∙ back)

-- the first k entries of a row
pub partly : ℕ → List ℕ → List ℕ → ℕ → ℕ
partly k cols vals j = Σ k (λ i. cond (eqb (get_or cols i 0) j) (get_or vals i 0) 0)

module _ (n : ℕ) (cols vals : List ℕ) (climbs : Climbs n cols) (k : ℕ) (low : k < length cols) where
  -- entry k adds to its own column alone, and is the first there
  partly_here : partly k cols vals (get_or cols k 0) ≡ 0
  unfolding partly
  partly_here = sum-zero k (λ i. cond (eqb (get_or cols i 0) (get_or cols k 0)) (get_or vals i 0) 0) (λ i l. rw (ne_eqb (get_or cols i 0) (get_or cols k 0) (λ e. omega (arith, climbs.rises i k l low))))

  partly_own : partly (k + 1) cols vals (get_or cols k 0) ≡ get_or vals k 0
  unfolding partly Σ
  partly_own = rw (add-one, eq-eqb (get_or cols k 0) (get_or cols k 0) refl) (ap (λ (x : ℕ). x + get_or vals k 0) partly_here ∙ zero-add (get_or vals k 0))

  partly_other : (j : ℕ) → (j ≡ get_or cols k 0 → ⊥) → partly (k + 1) cols vals j ≡ partly k cols vals j
  unfolding partly Σ
  partly_other j ne = rw (add-one, ne_eqb (get_or cols k 0) j (λ e. ne (sym e))) (add-zero (partly k cols vals j))

  -- `load`, one entry more
  pub load_more : set (table n (partly k cols vals)) (get_or cols k 0) (get_or vals k 0) ≡ table n (partly (k + 1) cols vals)
  load_more = set-table n (partly k cols vals) (partly (k + 1) cols vals) (get_or cols k 0) (get_or vals k 0) (climbs.below k low) partly_own (λ j l ne. partly_other j ne)

  -- `add_multiple`, one entry more
  pub add_more : (p f : ℕ) (d : ℕ → ℕ)
      → set (table n (λ j. (d j + f * partly k cols vals j) % p)) (get_or cols k 0) ((get_or (table n (λ j. (d j + f * partly k cols vals j) % p)) (get_or cols k 0) 0 + f * get_or vals k 0) % p)
      ≡ table n (λ j. (d j + f * partly (k + 1) cols vals j) % p)
  add_more p f d =
      set-table n (λ j. (d j + f * partly k cols vals j) % p) (λ j. (d j + f * partly (k + 1) cols vals j) % p) (get_or cols k 0) _ (climbs.below k low)
      here
      (λ j l ne. ap (λ (x : ℕ). (d j + f * x) % p) (partly_other j ne))
    where
      c : ℕ
      c = get_or cols k 0

      before : get_or (table n (λ j. (d j + f * partly k cols vals j) % p)) c 0 ≡ d c % p
      before = get_or-table n (λ j. (d j + f * partly k cols vals j) % p) c 0 (climbs.below k low) ∙ ap (λ (x : ℕ). (d c + f * x) % p) partly_here ∙ ap (λ (x : ℕ). (d c + x) % p) (mul-zero f) ∙ ap (λ (x : ℕ). x % p) (add-zero (d c))

      here : (d c + f * partly (k + 1) cols vals c) % p ≡ (get_or (table n (λ j. (d j + f * partly k cols vals j) % p)) c 0 + f * get_or vals k 0) % p
      here = ap (λ (x : ℕ). (d c + f * x) % p) partly_own ∙ sym (ap (λ (x : ℕ). (x + f * get_or vals k 0) % p) before ∙ mod-add-mod (d c) p (f * get_or vals k 0))

-- at the start, and at the end
pub partly_none : (cols vals : List ℕ) (j : ℕ) → partly 0 cols vals j ≡ 0
unfolding partly Σ
partly_none cols vals j = refl

pub load_none : (n : ℕ) (cols vals dense : List ℕ) → dense ≡ table n (λ j. 0) → dense ≡ table n (partly 0 cols vals)
load_none n cols vals dense e = e ∙ table_ext n (λ j. 0) (partly 0 cols vals) (λ j l. sym (partly_none cols vals j))

pub load_all : (n : ℕ) (cols vals : List ℕ) (k : ℕ) → k ≡ length cols → table n (partly k cols vals) ≡ spread n cols vals
unfolding spread value_in partly
load_all n cols vals k e = rw e

pub add_none : (p f : ℕ) (cols vals dense : List ℕ) → ((j : ℕ) → j < length dense → get_or dense j 0 < p) → dense ≡ table (length dense) (λ j. (get_or dense j 0 + f * partly 0 cols vals j) % p)
add_none p f cols vals dense small =
    sym (table_get_or dense 0)
    ∙ table_ext (length dense) (λ j. get_or dense j 0) (λ j. (get_or dense j 0 + f * partly 0 cols vals j) % p)
    (λ j l. sym (ap (λ (x : ℕ). (get_or dense j 0 + f * x) % p) (partly_none cols vals j) ∙ ap (λ (x : ℕ). (get_or dense j 0 + x) % p) (mul-zero f) ∙ ap (λ (x : ℕ). x % p) (add-zero (get_or dense j 0)) ∙ mod-eq_of_lt (small j l)))

pub add_all : (p f : ℕ) (cols vals dense : List ℕ) (k : ℕ) → k ≡ length cols → table (length dense) (λ j. (get_or dense j 0 + f * partly k cols vals j) % p) ≡ plus_multiple p f cols vals dense
unfolding plus_multiple value_in partly
add_all p f cols vals dense k e = rw e

-- `wipe`: the front as it came, then zeros
pub wipe_all : (from m : ℕ) (dense : List ℕ) → m ≡ min from (length dense) → take m dense ++ replicate (length dense - m) 0 ≡ wiped from dense
unfolding wiped
wipe_all from m dense e =
    sym (table_get_or front 0)
    ∙ ap (λ (n : ℕ). table n (λ j. get_or front j 0)) (simp (length-append, length-replicate) (omega (arith, long)))
    ∙ table_ext (length dense) (λ j. get_or front j 0) (λ j. cond (ltb j from) (get_or dense j 0) 0) (λ j l. go j l (dec_lt j from))
  where
    front : List ℕ
    front = take m dense ++ replicate (length dense - m) 0

    long : length (take m dense) ≡ m
    long = length-take-le m dense (omega arith)

    go : (j : ℕ) → j < length dense → Dec (j < from) → get_or front j 0 ≡ cond (ltb j from) (get_or dense j 0) 0
    go j l (yes h) = rw (lt-ltb j from h) (get_or-append (take m dense) _ 0 j (omega (arith, long)) ∙ get_or-take m dense j 0 (omega arith))
    go j l (no h) = rw (le-ltb j from (omega arith)) (get_or-append_right (take m dense) _ j 0 (omega (arith, long)) ∙ get_or-replicate (length dense - m) (j - length (take m dense)) 0 0 (omega (arith, long)))
