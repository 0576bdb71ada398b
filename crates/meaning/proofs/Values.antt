-- What lies at each place of a row, and that clean rows of equal meaning are equal.
-- Assumes nothing.
use Rattle.std.specs.Prelude.{Ok}
use mathlib.Core.Path.{◌≡◌, refl, sym, ap, ap₂, ◌∙◌}
use mathlib.Core.Logic.{inl, inr}
use mathlib.Core.Bool.{cond}
use mathlib.Core.List.{List, [], ◌∷◌}
use Prim.Native.Nat.{ℕ, zero, suc, ◌+◌, ◌-◌, ◌≤◌, ◌<◌}
use native.Mathlib.Nat.{add_left_cancel, not-suc-le-zero}
use native.Mathlib.Decide.{dec_lt}
use native.Mathlib.Omega.{arith}
use borrow.Author.Tests.{eq-eqb, ne_eqb}
use lib.Dec.{eqb}
use lib.ListN.{length, get_or}
use Rattle.lists.proofs.Sums.{sum_one, sum-zero, sum_first}
use Rattle.sparse.specs.Matrix.{value_in}
use Rattle.sparse.specs.Tests.{columns_test}
use Rattle.meaning.specs.Clauses.{BadColumn}
use Rattle.meaning.proofs.Numbers.{columns_good}

-- the columns of a good row: below n, each above all before it
pub record Climbs (n : ℕ) (cols : List ℕ) : Type 0 where
  pub below : (k : ℕ) → k < length cols → get_or cols k 0 < n
  pub rises : (i k : ℕ) → i < k → k < length cols → get_or cols i 0 < get_or cols k 0

pub no_bad_climbs : (n : ℕ) (cols : List ℕ) → (BadColumn n cols → ⊥) → Climbs n cols
no_bad_climbs n cols e = record { below = low; rises = up }
  where
    low : (k : ℕ) → k < length cols → get_or cols k 0 < n
    low k h = go (dec_lt (get_or cols k 0) n)
      where
        go : Dec (get_or cols k 0 < n) → get_or cols k 0 < n
        go (yes l) = l
        go (no l) = let g : n ≤ get_or cols k 0 = omega arith in absurd (e (record { place = k; within = h; such = inl g }))

    step : (k : ℕ) → suc k < length cols → get_or cols k 0 < get_or cols (suc k) 0
    step k h = go (dec_lt (get_or cols k 0) (get_or cols (suc k) 0))
      where
        go : Dec (get_or cols k 0 < get_or cols (suc k) 0) → get_or cols k 0 < get_or cols (suc k) 0
        go (yes l) = l
        go (no l) =
            let one_back : suc k - 1 ≡ k = omega arith in
            let g : get_or cols (suc k) 0 ≤ get_or cols (suc k - 1) 0 = rw one_back (let f : get_or cols (suc k) 0 ≤ get_or cols k 0 = omega arith in f) in
            let pos : 0 < suc k = omega arith in
            absurd (e (record { place = suc k; within = h; such = inr (pos, g) }))

    up : (i k : ℕ) → i < k → k < length cols → get_or cols i 0 < get_or cols k 0
    up i zero l h = absurd (not-suc-le-zero l)
    up i (suc k) l h = go (dec_lt i k) (up i k)
      where
        go : Dec (i < k) → (i < k → k < length cols → get_or cols i 0 < get_or cols k 0) → get_or cols i 0 < get_or cols (suc k) 0
        go (yes b) ih = let a : get_or cols i 0 < get_or cols k 0 = ih b (omega arith) in omega (arith, step k h)
        go (no b) ih = let same : i ≡ k = omega arith in rw same (step k h)

-- so 5 that finds nothing says
pub columns_climb : (n : ℕ) (cols : List ℕ) → columns_test n cols ≡ Ok tt → Climbs n cols
columns_climb n cols e = no_bad_climbs n cols (columns_good n cols e)

-- an entry's value lies at its column
pub value_there : (n : ℕ) (cols vals : List ℕ) → Climbs n cols → (k : ℕ) → k < length cols → value_in cols vals (get_or cols k 0) ≡ get_or vals k 0
unfolding value_in
value_there n cols vals c k h =
    sum_one (length cols) k (λ i. cond (eqb (get_or cols i 0) (get_or cols k 0)) (get_or vals i 0) 0) h (λ i l ne. rw (ne_eqb (get_or cols i 0) (get_or cols k 0) (other i l ne)))
    ∙ rw (eq-eqb (get_or cols k 0) (get_or cols k 0) refl)
  where
    other : (i : ℕ) → i < length cols → (i ≡ k → ⊥) → get_or cols i 0 ≡ get_or cols k 0 → ⊥
    other i l ne e = go (dec_lt i k)
      where
        go : Dec (i < k) → ⊥
        go (yes b) = omega (arith, c.rises i k b h)
        go (no b) = omega (arith, c.rises k i (omega arith) l)

-- and 0 elsewhere
pub value_elsewhere : (cols vals : List ℕ) (j : ℕ) → ((k : ℕ) → k < length cols → get_or cols k 0 ≡ j → ⊥) → value_in cols vals j ≡ 0
unfolding value_in
value_elsewhere cols vals j h = sum-zero (length cols) (λ k. cond (eqb (get_or cols k 0) j) (get_or vals k 0) 0) (λ k l. rw (ne_eqb (get_or cols k 0) j (h k l)))

-- the first entry apart
pub value_first : (c : ℕ) (cols : List ℕ) (v : ℕ) (vals : List ℕ) (j : ℕ) → value_in (c ∷ cols) (v ∷ vals) j ≡ cond (eqb c j) v 0 + value_in cols vals j
unfolding value_in
value_first c cols v vals j = sum_first (length cols) (λ k. cond (eqb (get_or (c ∷ cols) k 0) j) (get_or (v ∷ vals) k 0) 0)

-- a row with its stored values, none of them 0
pub record Clean (n : ℕ) (cols vals : List ℕ) : Type 0 where
  pub climbs : Climbs n cols
  pub many : length cols ≡ length vals
  pub stored : (k : ℕ) → k < length vals → get_or vals k 0 ≡ 0 → ⊥

tail : {n c v : ℕ} {cols vals : List ℕ} → Clean n (c ∷ cols) (v ∷ vals) → Clean n cols vals
tail {n} {c} {v} {cols} {vals} r = record {
  climbs = record { below = λ k h. r.climbs.below (suc k) (omega arith); rises = λ i k l h. r.climbs.rises (suc i) (suc k) (omega arith) (omega arith) };
  many = omega (arith, r.many);
  stored = λ k h. r.stored (suc k) (omega arith);
}

-- below the head there is nothing
pub before_head : {n c v : ℕ} {cols vals : List ℕ} → Clean n (c ∷ cols) (v ∷ vals) → (j : ℕ) → j < c → value_in (c ∷ cols) (v ∷ vals) j ≡ 0
before_head {n} {c} {v} {cols} {vals} r j h = value_elsewhere (c ∷ cols) (v ∷ vals) j at
  where
    at : (k : ℕ) → k < length (c ∷ cols) → get_or (c ∷ cols) k 0 ≡ j → ⊥
    at zero l e = omega arith
    at (suc k) l e = omega (arith, r.climbs.rises 0 (suc k) (omega arith) l)

pub at_head : {n c v : ℕ} {cols vals : List ℕ} → Clean n (c ∷ cols) (v ∷ vals) → value_in (c ∷ cols) (v ∷ vals) c ≡ v
at_head {n} {c} {v} {cols} {vals} r = value_there n (c ∷ cols) (v ∷ vals) r.climbs 0 (omega arith)

head_stored : {n c v : ℕ} {cols vals : List ℕ} → Clean n (c ∷ cols) (v ∷ vals) → v ≡ 0 → ⊥
head_stored r = r.stored 0 (omega arith)

head_below : {n c v : ℕ} {cols vals : List ℕ} → Clean n (c ∷ cols) (v ∷ vals) → c < n
head_below r = r.climbs.below 0 (omega arith)

-- two clean rows of equal meaning: neither head lies before the other
heads_meet : {n c v d w : ℕ} {cs vs ds ws : List ℕ} → Clean n (c ∷ cs) (v ∷ vs) → Clean n (d ∷ ds) (w ∷ ws) → ((j : ℕ) → j < n → value_in (c ∷ cs) (v ∷ vs) j ≡ value_in (d ∷ ds) (w ∷ ws) j) → c < d → ⊥
heads_meet {c = c} r s same h = head_stored r (sym (at_head r) ∙ same c (head_below r) ∙ before_head s c h)

-- clean rows of equal meaning are equal
pub clean_unique : (n : ℕ) (cs vs ds ws : List ℕ) → Clean n cs vs → Clean n ds ws → ((j : ℕ) → j < n → value_in cs vs j ≡ value_in ds ws j) → (cs ≡ ds) × (vs ≡ ws)
clean_unique n [] [] [] [] r s same = (refl, refl)
clean_unique n [] [] [] (w ∷ ws) r s same = absurd (omega (arith, s.many))
clean_unique n [] [] (d ∷ ds) [] r s same = absurd (omega (arith, s.many))
clean_unique n [] [] (d ∷ ds) (w ∷ ws) r s same = absurd (head_stored s (sym (at_head s) ∙ sym (same d (head_below s)) ∙ value_elsewhere [] [] d (λ k h. absurd (not-suc-le-zero h))))
clean_unique n [] (v ∷ vs) ds ws r s same = absurd (omega (arith, r.many))
clean_unique n (c ∷ cs) [] ds ws r s same = absurd (omega (arith, r.many))
clean_unique n (c ∷ cs) (v ∷ vs) [] [] r s same = absurd (head_stored r (sym (at_head r) ∙ same c (head_below r) ∙ value_elsewhere [] [] c (λ k h. absurd (not-suc-le-zero h))))
clean_unique n (c ∷ cs) (v ∷ vs) [] (w ∷ ws) r s same = absurd (omega (arith, s.many))
clean_unique n (c ∷ cs) (v ∷ vs) (d ∷ ds) [] r s same = absurd (omega (arith, s.many))
clean_unique n (c ∷ cs) (v ∷ vs) (d ∷ ds) (w ∷ ws) r s same =
    let head : c ≡ d = met (dec_lt c d) (dec_lt d c) in
    let value : v ≡ w = sym (at_head r) ∙ same c (head_below r) ∙ ap (value_in (d ∷ ds) (w ∷ ws)) head ∙ at_head s in
    let rest = clean_unique n cs vs ds ws (tail r) (tail s) (λ j l. less j l head value) in
    ((λ i. head i ∷ rest.0 i), (λ i. value i ∷ rest.1 i))
  where
    met : Dec (c < d) → Dec (d < c) → c ≡ d
    met (yes l) q = absurd (heads_meet r s same l)
    met (no l) (yes g) = absurd (heads_meet s r (λ j h. sym (same j h)) g)
    met (no l) (no g) = omega arith

    less : (j : ℕ) → j < n → c ≡ d → v ≡ w → value_in cs vs j ≡ value_in ds ws j
    less j l e f =
        add_left_cancel (cond (eqb c j) v 0)
        (sym (value_first c cs v vs j) ∙ same j l ∙ value_first d ds w ws j ∙ ap₂ (λ (a b : ℕ). cond (eqb a j) b 0 + value_in ds ws j) (sym e) (sym f))
