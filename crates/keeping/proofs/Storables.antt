-- Values in 1..p-1 are those that the tests 6 and 7 let pass.
-- Assumes nothing.
use Rattle.std.specs.Prelude.{Ok}
use mathlib.Core.Path.{◌≡◌, subst}
use mathlib.Core.List.{List, ◌++◌}
use Prim.Native.Nat.{ℕ, ◌+◌, ◌-◌, ◌<◌}
use native.Mathlib.Decide.{dec_lt}
use native.Mathlib.Omega.{arith}
use borrow.Author.Tests.{lt-leb, ne_eqb}
use lib.ListN.{length, get_or, length-append, length-map, get_or-append}
use lib.Seq.{get_or-append-add}
use Rattle.sparse.specs.Put.{values_of}
use Rattle.sparse.specs.Rows.{Entry}
use Rattle.sparse.specs.Tests.{value_test, values_test}
use Rattle.sparse.specs.declared.Refusal.TheVariants.{Value, Zero}
use Rattle.sparse.specs.declared.inside.Clause.{Clause}
use Rattle.sparse.specs.declared.inside.Clause.TheVariants.{Residue, Nonzero}
use Rattle.sparse.proofs.Firsts.{refuse_false, all_good}
use Rattle.meaning.proofs.BuiltForm.{below_p}
use Rattle.stepping.proofs.Offers.{above_zero}
use Rattle.steps.specs.Rows.{Each, Storable}
use Rattle.steps.proofs.Entries.{map_at}

-- each value is in 1..p-1
pub record Storables (p : ℕ) (vals : List ℕ) : Type 0 where
  pub at : (k : ℕ) → k < length vals → Storable p (get_or vals k 0)

pub storables_pass : {p : ℕ} {vals : List ℕ} → Storables p vals → (c : Clause) → values_test c p vals ≡ Ok tt
unfolding values_test value_test
storables_pass {p} {vals} s Residue = all_good (length vals) (λ k. value_test Residue p (get_or vals k 0)) (λ k h. refuse_false _ Value (lt-leb p (get_or vals k 0) (s.at k h).below))
storables_pass {p} {vals} s Nonzero = all_good (length vals) (λ k. value_test Nonzero p (get_or vals k 0)) (λ k h. refuse_false _ Zero (ne_eqb (get_or vals k 0) 0 (λ z. omega (arith, (s.at k h).pos))))

pub pass_storables : {p : ℕ} {vals : List ℕ} → ((c : Clause) → values_test c p vals ≡ Ok tt) → Storables p vals
pass_storables {p} {vals} good = record { at = λ k h. record { pos = above_zero p vals (good Nonzero) k h; below = below_p p vals (good Residue) k h } }

pub storables_append : {p : ℕ} {xs ys : List ℕ} → Storables p xs → Storables p ys → Storables p (xs ++ ys)
storables_append {p} {xs} {ys} s t = record { at = λ k h. go k h (dec_lt k (length xs)) }
  where
    go : (k : ℕ) → k < length (xs ++ ys) → Dec (k < length xs) → Storable p (get_or (xs ++ ys) k 0)
    go k h (yes l) = rw (get_or-append xs ys 0 k l) (s.at k l)
    go k h (no l) =
        let here : length xs + (k - length xs) ≡ k = omega arith in
        subst (λ (i : ℕ). Storable p (get_or (xs ++ ys) i 0)) here (rw (get_or-append-add xs ys (k - length xs) 0) (t.at (k - length xs) (omega (arith, length-append xs ys))))

-- the values of entries
pub each_storables : {p : ℕ} {es : List Entry} → Each (λ e. Storable p e.value) es → Storables p (values_of es)
unfolding values_of
each_storables {p} {es} each = record { at = λ k h. let l : k < length es = omega (arith, length-map es (λ (e : Entry). e.value)) in rw (map_at (λ (e : Entry). e.value) es k l) (each.at k l) }
