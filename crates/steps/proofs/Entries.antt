-- Entries one after another: what holds of each, columns that climb, values, and rows times rows.
-- Assumes nothing.
use mathlib.Core.Path.{◌≡◌, refl, sym, ap, ◌∙◌}
use mathlib.Core.Bool.{cond}
use mathlib.Core.List.{List, [], ◌∷◌, ◌++◌, map}
use Prim.Native.Nat.{ℕ, zero, suc, ◌+◌, ◌*◌, ◌≤◌, ◌<◌}
use native.Mathlib.Nat.{add_assoc, zero-add, not-suc-le-zero}
use native.Mathlib.Decide.{dec_lt}
use native.Mathlib.Numerals.{add-one}
use native.Mathlib.Omega.{arith}
use lib.Dec.{eqb}
use lib.ListN.{length, get_or, length-append, get_or-append}
use lib.Seq.{get_or_at}
use Rattle.lists.specs.Sum.{Σ}
use Rattle.lists.proofs.Pigeons.{distinct_most}
use Rattle.lists.proofs.Sums.{sum-ext}
use Rattle.linear.proofs.Span.{Span, span_row, span_sum}
use Rattle.meaning.proofs.Values.{Climbs, value_first, value_elsewhere}
use Rattle.sparse.specs.Put.{cols_of, values_of}
use Rattle.sparse.specs.Rows.{Entry, entry}
use Rattle.steps.specs.Rows.{value_of, entry_at, Each, times}

-- one entry more
pub each_none : {P : Entry → Type 0} → Each P []
each_none = record { at = λ i h. absurd (not-suc-le-zero h) }

pub each_more : {P : Entry → Type 0} {l : List Entry} {e : Entry} → Each P l → P e → Each P (l ++ (e ∷ []))
each_more {P} {l} {e} each here = record { at = λ i h. go i h (dec_lt i (length l)) }
  where
    go : (i : ℕ) → i < length (l ++ (e ∷ [])) → Dec (i < length l) → P (entry_at (l ++ (e ∷ [])) i)
    go i h (yes b) = rw (get_or-append l (e ∷ []) (entry 0 0) i b) (each.at i b)
    go i h (no b) = let s : length l ≡ i = omega (arith, length-append l (e ∷ [])) in rw (get_or_at l e [] (entry 0 0) i s) here

-- what is made of each entry
pub map_at : (f : Entry → ℕ) (l : List Entry) (i : ℕ) → i < length l → get_or (map f l) i 0 ≡ f (entry_at l i)
map_at f [] i h = absurd (not-suc-le-zero h)
map_at f (e ∷ l) zero h = refl
map_at f (e ∷ l) (suc i) h = map_at f l i (omega arith)

-- at most n columns climb
pub climbs_few : {n : ℕ} {cs : List ℕ} → Climbs n cs → length cs ≤ n
climbs_few {n} {cs} climbs = distinct_most (length cs) n (λ k. get_or cs k 0) (record { same = λ i k l q e. go i k l q e (dec_lt i k) (dec_lt k i) }) climbs.below
  where
    go : (i k : ℕ) → i < length cs → k < length cs → get_or cs i 0 ≡ get_or cs k 0 → Dec (i < k) → Dec (k < i) → i ≡ k
    go i k l q e (yes a) b = absurd (omega (arith, climbs.rises i k a q))
    go i k l q e (no a) (yes b) = absurd (omega (arith, climbs.rises k i b l))
    go i k l q e (no a) (no b) = omega arith

-- an empty row
pub value_none : (j : ℕ) → value_of [] j ≡ 0
unfolding cols_of values_of
value_none j = value_elsewhere [] [] j (λ k h. absurd (not-suc-le-zero h))

-- values of entries joined
pub value_append : (es ds : List Entry) (j : ℕ) → value_of (es ++ ds) j ≡ value_of es j + value_of ds j
unfolding cols_of values_of
value_append [] ds j = sym (ap (λ (z : ℕ). z + value_of ds j) (value_none j) ∙ zero-add (value_of ds j))
value_append (e ∷ es) ds j =
    value_first e.col (cols_of (es ++ ds)) e.value (values_of (es ++ ds)) j
    ∙ ap (λ (z : ℕ). cond (eqb e.col j) e.value 0 + z) (value_append es ds j)
    ∙ sym (add_assoc (cond (eqb e.col j) e.value 0) (value_of es j) (value_of ds j))
    ∙ ap (λ (z : ℕ). z + value_of ds j) (sym (value_first e.col (cols_of es) e.value (values_of es) j))

-- one entry more times rows
pub times_more : (l : List Entry) (e : Entry) (r : ℕ → ℕ → ℕ) (j : ℕ) → times (l ++ (e ∷ [])) r j ≡ times l r j + e.value * r e.col j
unfolding times Σ
times_more l e r j =
    ap (λ (n : ℕ). Σ n (term (l ++ (e ∷ [])))) (length-append l (e ∷ []) ∙ add-one (length l))
    ∙ ap (λ (z : ℕ). z + term (l ++ (e ∷ [])) (length l)) (sum-ext (length l) (term (l ++ (e ∷ []))) (term l) (λ i h. ap (λ (d : Entry). d.value * r d.col j) (get_or-append l (e ∷ []) (entry 0 0) i h)))
    ∙ ap (λ (d : Entry). times l r j + d.value * r d.col j) (get_or_at l e [] (entry 0 0) (length l) refl)
  where
    term : List Entry → ℕ → ℕ
    term m i = (entry_at m i).value * r (entry_at m i).col j

-- rows that agree where the entries name them
pub times_same : (l : List Entry) (r q : ℕ → ℕ → ℕ) (j : ℕ) → Each (λ e. r e.col j ≡ q e.col j) l → times l r j ≡ times l q j
unfolding times
times_same l r q j each = sum-ext (length l) _ _ (λ i h. ap (λ (z : ℕ). (entry_at l i).value * z) (each.at i h))

-- such a row is a sum of multiples of the rows
pub times_span : {p n k : ℕ} (l : List Entry) (r : ℕ → ℕ → ℕ) → Each (λ e. e.col < k) l → Span p n k r (times l r)
unfolding times
times_span l r each = span_sum (length l) (λ i. r (entry_at l i).col) (λ i. (entry_at l i).value) (λ i h. span_row (entry_at l i).col (each.at i h))
