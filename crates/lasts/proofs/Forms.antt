-- Entries gathered index by index, at most one for each: their indices climb, and the value at an index is its entry's.
-- Assumes nothing.
use Rattle.std.specs.Prelude.{None, Ok, Some}
use mathlib.Core.Path.{◌≡◌, refl, sym, ap, ap₂, ◌∙◌}
use mathlib.Core.Bool.{Bool, true, false, cond, not}
use mathlib.Core.List.{List, [], ◌∷◌, ◌++◌, map, map-append, flatten, append-nil}
use Prim.Native.Nat.{ℕ, zero, suc, ◌+◌, ◌≤◌, ◌<◌}
use native.Mathlib.Nat.{not-suc-le-zero}
use native.Mathlib.Decide.{dec_lt}
use native.Mathlib.Omega.{arith}
use lib.Dec.{eqb}
use lib.ListN.{length, get_or, length-append, length-map}
use borrow.Author.Tests.{eq-eqb, ne_eqb, le-ltb, lt-leb}
use Rattle.lists.specs.Sum.{Σ}
use Rattle.lists.specs.Table.{table}
use Rattle.sparse.specs.Matrix.{value_in}
use Rattle.sparse.specs.Put.{cols_of, values_of}
use Rattle.sparse.specs.Refusals.{refuse}
use Rattle.sparse.specs.Rows.{Entry, entry}
use Rattle.sparse.specs.Tests.{modulus_test, size_test, value_test, values_test, well_formed_vector}
use Rattle.sparse.specs.declared.Refusal.TheVariants.{Shape}
use Rattle.sparse.specs.declared.inside.Clause.TheVariants.{Residue}
use Rattle.sparse.proofs.Firsts.{refuse_false, all_good, lowest_next, lowest_last}
use Rattle.sparse.proofs.Vectors.{vector_tests}
use Rattle.meaning.proofs.Climbing.{each_append, each_one, climbs_none, climbs_wider, climbs_more}
use Rattle.meaning.proofs.RowColumns.{climbs_good}
use Rattle.meaning.proofs.RowLists.{flatten_snoc}
use Rattle.meaning.proofs.Values.{Climbs}
use Rattle.writing.proofs.Written.{value_of, value_more, value_single}
use Rattle.lasts.specs.Gathers.{held, Last}
use Rattle.lasts.proofs.Ends.{worth}

-- at most one entry, at index k, with a value below p
pub record Single (p k : ℕ) (es : List Entry) : Type 0 where
  pub what : Last
  pub here : es ≡ held what k
  pub small : (v : ℕ) → what ≡ Some v → v < p

value_held : (r : Last) (k j : ℕ) → value_of (held r k) j ≡ cond (eqb k j) (worth r) 0
unfolding held worth value_in Σ
value_held None k j = go (eqb k j)
  where
    go : (b : Bool) → ◌≡◌ {A = ℕ} 0 (cond b 0 0)
    go true = refl
    go false = refl
value_held (Some v) k j = value_single k v j

-- the value at its index, and 0 elsewhere
pub value_on : {p k : ℕ} {es : List Entry} (s : Single p k es) → value_of es k ≡ worth s.what
value_on {k = k} s = ap (λ (es : List Entry). value_of es k) s.here ∙ value_held s.what k k ∙ rw (eq-eqb k k refl)

value_off : {p k : ℕ} {es : List Entry} (j : ℕ) → Single p k es → (k ≡ j → ⊥) → value_of es j ≡ 0
value_off {k = k} j s ne = ap (λ (es : List Entry). value_of es j) s.here ∙ value_held s.what k j ∙ rw (ne_eqb k j ne)

-- a good vector of length n
pub record Formed (p n : ℕ) (es : List Entry) : Type 0 where
  pub few : length es ≤ n
  pub climbs : Climbs n (cols_of es)
  pub small : (i : ℕ) → i < length (values_of es) → get_or (values_of es) i 0 < p

formed_more : (p n : ℕ) (es : List Entry) → Formed p n es → (r : Last) → ((v : ℕ) → r ≡ Some v → v < p) → Formed p (suc n) (es ++ held r n)
unfolding held cols_of values_of
formed_more p n es f None small = rw (append-nil es) (record {
  few = omega (arith, f.few);
  climbs = climbs_wider (omega arith) f.climbs;
  small = f.small;
})
formed_more p n es f (Some v) small = record {
  few = omega (arith, f.few, length-append es (entry n v ∷ []));
  climbs = rw (map-append (λ (e : Entry). e.col) es (entry n v ∷ [])) (climbs_more f.climbs (omega arith) (omega arith));
  small = rw (map-append (λ (e : Entry). e.value) es (entry n v ∷ [])) (each_append (λ i x. x < p) (map (λ (e : Entry). e.value) es) (v ∷ []) f.small (each_one (λ x. x < p) v (small v refl)));
}

module _ (p : ℕ) (f : ℕ → List Entry) where
  pub singles_formed : (n : ℕ) → ((k : ℕ) → k < n → Single p k (f k)) → Formed p n (flatten (table n f))
  unfolding table flatten cols_of values_of
  singles_formed zero each = record {
    few = omega arith;
    climbs = climbs_none 0;
    small = λ i h. absurd (not-suc-le-zero h);
  }
  singles_formed (suc n) each =
      let last : Single p n (f n) = each n (omega arith) in
      rw (flatten_snoc (table n f) (f n), last.here) (formed_more p n (flatten (table n f)) (singles_formed n (λ k h. each k (omega arith))) last.what last.small)

  -- past the indices there is nothing
  value_beyond : (n : ℕ) → ((k : ℕ) → k < n → Single p k (f k)) → (j : ℕ) → n ≤ j → value_of (flatten (table n f)) j ≡ 0
  unfolding table flatten value_in Σ
  value_beyond zero each j h = refl
  value_beyond (suc n) each j h =
      ap (λ (es : List Entry). value_of es j) (flatten_snoc (table n f) (f n))
      ∙ value_more (flatten (table n f)) (f n) j
      ∙ ap₂ (λ (a b : ℕ). a + b) (value_beyond n (λ k l. each k (omega arith)) j (omega arith)) (value_off j (each n (omega arith)) (λ e. omega arith))

  -- at each index its entry's value
  pub value_at_lem : (n : ℕ) → ((k : ℕ) → k < n → Single p k (f k)) → (j : ℕ) → j < n → value_of (flatten (table n f)) j ≡ value_of (f j) j
  unfolding table
  value_at_lem zero each j h = absurd (not-suc-le-zero h)
  value_at_lem (suc n) each j h =
      ap (λ (es : List Entry). value_of es j) (flatten_snoc (table n f) (f n))
      ∙ value_more (flatten (table n f)) (f n) j
      ∙ go (dec_lt j n) (value_at_lem n (λ k l. each k (omega arith)) j)
    where
      go : Dec (j < n) → (j < n → value_of (flatten (table n f)) j ≡ value_of (f j) j) → value_of (flatten (table n f)) j + value_of (f n) j ≡ value_of (f j) j
      go (yes l) ih = omega (arith, ih l, value_off j (each n (omega arith)) (λ e. omega arith))
      go (no l) ih =
          let e : n ≡ j = omega arith in
          ap (λ (x : ℕ). x + value_of (f n) j) (value_beyond n (λ k b. each k (omega arith)) j (omega arith)) ∙ omega (arith, ap (λ (i : ℕ). value_of (f i) j) e)

-- 1, 2, 3, 5 and 6 find nothing in it
pub vector_formed : (p n : ℕ) (es : List Entry) → modulus_test p ≡ Ok tt → n ≤ 1024 → Formed p n es → well_formed_vector 65536 p n (cols_of es) (values_of es) ≡ Ok tt
unfolding size_test values_test value_test cols_of values_of
vector_formed p n es modulus low f =
    vector_tests 65536 p n (cols_of es) (values_of es)
    ∙ sym (lowest_next _ refl modulus (lowest_next _ refl sized (lowest_next _ refl alike (lowest_next _ refl (climbs_good n (cols_of es) f.climbs) (lowest_last (sym residues))))))
  where
    cols_long : length (map (λ (e : Entry). e.col) es) ≡ length es
    cols_long = length-map es (λ (e : Entry). e.col)

    vals_long : length (map (λ (e : Entry). e.value) es) ≡ length es
    vals_long = length-map es (λ (e : Entry). e.value)

    sized : size_test 65536 1 n (length (map (λ (e : Entry). e.value) es)) ≡ Ok tt
    sized = refuse_false _ _ (rw (le-ltb 1024 1 (omega arith), le-ltb 1024 n low, le-ltb 65536 (length (map (λ (e : Entry). e.value) es)) (omega (arith, vals_long, f.few))))

    alike : refuse (not (eqb (length (map (λ (e : Entry). e.col) es)) (length (map (λ (e : Entry). e.value) es)))) Shape ≡ Ok tt
    alike = refuse_false _ _ (rw (eq-eqb _ _ (cols_long ∙ sym vals_long)))

    residues : values_test Residue p (map (λ (e : Entry). e.value) es) ≡ Ok tt
    residues = all_good (length (map (λ (e : Entry). e.value) es)) _ (λ i h. refuse_false _ _ (lt-leb p _ (f.small i h)))
