-- Where all rows taken were accepted, L has a row for each, its last entry is in 1..p-1, and the product of these isn't 0 modulo p.
-- Assumes nothing.
use Rattle.std.specs.Prelude.{None, Some}
use mathlib.Core.Path.{◌≡◌, refl, sym, ap, subst, ◌∙◌}
use mathlib.Core.List.{List, [], ◌∷◌, ◌++◌, map, map-append}
use Prim.Native.Nat.{ℕ, zero, suc, ◌+◌, ◌-◌, ◌*◌, ◌%◌, ◌≤◌, ◌<◌}
use native.Mathlib.Nat.{mod-eq_of_lt, mul_comm, mul-zero, zero-mod, not-suc-le-zero}
use native.Mathlib.Omega.{arith}
use lib.ListN.{length, length-append}
use lib.Seq.{get_or_at}
use Rattle.field.specs.Inverse.{inverse}
use Rattle.field.specs.Prime.{Prime}
use Rattle.field.proofs.Inverses.{undo, inverse_undoes, prime_invertible}
use Rattle.sparse.specs.Matrix.{row}
use Rattle.sparse.specs.Rows.{Entry, entry, entries}
use Rattle.meaning.proofs.RowLists.{entry_values}
use Rattle.state.specs.Memory.{Memory}
use Rattle.state.specs.declared.Counts.{Counts}
use Rattle.state.specs.declared.Mode.TheVariants.{Full}
use Rattle.steps.specs.History.{Told, told, accepted}
use Rattle.steps.specs.Rows.{Storable}
use Rattle.steps.proofs.Lasts.{up_to}
use Rattle.stepping.specs.Take.{lower_of}
use Rattle.signs.specs.Value.{last_of, product}
use Rattle.signs.proofs.Sums.{product_small}
use Rattle.ledgers.specs.Taken.{Took}
use Rattle.ledgers.proofs.Completes.{took_ledger}
use Rattle.ledgers.proofs.Ledgers.{Books, Ledger, empty, spared, spanned, entered}
use Rattle.ledgers.proofs.Lines.{line_of}
use Rattle.ledgers.proofs.Takens.{took_stood, took_prime}

-- an L row that ends in a value in 1..p-1
record Closed (p : ℕ) (l : List Entry) : Type 0 where
  before : List Entry
  number : ℕ
  diagonal : ℕ
  value : Storable p diagonal
  last : l ≡ before ++ (entry number diagonal ∷ [])

module _ {p n : ℕ} {b : Books} where
  -- no more rows accepted than L has, and no more of those than were taken
  ledger_few : {ts : List Told} {k i : ℕ} → Ledger p n b ts k i → (k ≤ i) × (i ≤ length ts)
  ledger_few empty = (omega arith, omega arith)
  ledger_few (spared ts k i past es once) =
      let f = ledger_few past in
      (f.0, omega (arith, f.1, length-append ts (told es None ∷ [])))
  ledger_few (spanned ts k i past es walks s) =
      let f = ledger_few past in
      (omega (arith, f.0), omega (arith, f.1, length-append ts (told es None ∷ [])))
  ledger_few (entered ts k i past es g walks s) =
      let f = ledger_few past in
      (omega (arith, f.0), omega (arith, f.1, length-append ts (told es (Some g) ∷ [])))

  ledger_closed : {ts : List Told} {k i : ℕ} → Ledger p n b ts k i → k ≡ length ts → (i ≡ k) × ((r : ℕ) → r < i → Closed p (b.line r))
  ledger_closed empty e = (refl, λ r h. absurd (not-suc-le-zero h))
  ledger_closed (spared ts k i past es once) e = absurd (omega (arith, (ledger_few past).0, (ledger_few past).1, length-append ts (told es None ∷ [])))
  ledger_closed (spanned ts k i past es walks s) e = absurd (omega (arith, (ledger_few past).0, (ledger_few past).1, length-append ts (told es None ∷ [])))
  ledger_closed (entered ts k i past es g walks s) e =
      let f = ledger_closed past (omega (arith, length-append ts (told es (Some g) ∷ []))) in
      let here : Closed p (b.line i) = record { before = s.before; number = k; diagonal = s.diagonal; value = s.value; last = s.last } in
      (ap (λ (x : ℕ). x + 1) f.0, λ r h. up_to (λ x. Closed p (b.line x)) i here f.1 r (omega arith))

-- the last of its values
closed_last : (p : ℕ) (cols vals : List ℕ) → Closed p (entries cols vals) → Storable p (last_of vals)
unfolding last_of
closed_last p cols vals s = subst (λ (v : ℕ). Storable p v) (sym here) s.value
  where
    front : List ℕ
    front = map (λ (e : Entry). e.value) s.before

    parts : vals ≡ front ++ (s.diagonal ∷ [])
    parts = sym (entry_values cols vals) ∙ ap (map (λ (e : Entry). e.value)) s.last ∙ map-append (λ (e : Entry). e.value) s.before (entry s.number s.diagonal ∷ [])

    here : last_of vals ≡ s.diagonal
    here = ap last_of parts ∙ get_or_at front s.diagonal [] 0 (length (front ++ (s.diagonal ∷ [])) - 1) (omega (arith, length-append front (s.diagonal ∷ [])))

-- a product of values in 1..p-1 isn't 0 modulo a prime
pub product_some : {p : ℕ} → Prime p → (ptrs vals : List ℕ) (k : ℕ) → ((r : ℕ) → r < k → Storable p (last_of (row ptrs vals r))) → product p ptrs vals k ≡ 0 → ⊥
unfolding product
product_some prime ptrs vals zero each e = omega (arith, e)
product_some {p} prime ptrs vals (suc k) each e =
    let v : ℕ = last_of (row ptrs vals k) in
    let a : ℕ = product p ptrs vals k in
    let stored : Storable p v = each k (omega arith) in
    let swapped : v * a % p ≡ 0 = ap (λ (x : ℕ). x % p) (mul_comm v a) ∙ e in
    let gone : a % p ≡ 0 =
    sym (undo a (inverse_undoes (prime_invertible prime stored.pos stored.below)))
    ∙ ap (λ (x : ℕ). inverse p v * x % p) swapped
    ∙ ap (λ (x : ℕ). x % p) (mul-zero (inverse p v))
    ∙ zero-mod p in
    product_some prime ptrs vals k (λ r h. each r (omega arith)) (sym (mod-eq_of_lt (product_small p ptrs vals k prime.least)) ∙ gone)

-- all rows taken were accepted
module _ {p n : ℕ} {ts : List Told} {c : Counts} {m : Memory} (took : Took Full p n ts c m) (all : length (accepted ts) ≡ length ts) where
  pub all_rank : c.rank ≡ length ts
  all_rank = sym (took_stood took).kept.past.rank ∙ all

  closed : (c.l_rows ≡ c.rank) × ((r : ℕ) → r < c.l_rows → Closed p (line_of (lower_of m) r))
  closed = ledger_closed (took_ledger took) all_rank

  pub all_rows : c.l_rows ≡ length ts
  all_rows = closed.0 ∙ all_rank

  -- the last entry of each L row is in 1..p-1
  pub all_stored : (r : ℕ) → r < c.l_rows → Storable p (last_of (row m.l_ptrs m.l_vals r))
  all_stored r h = closed_last p (row m.l_ptrs m.l_cols r) (row m.l_ptrs m.l_vals r) (closed.1 r h)

  -- so their product isn't 0
  pub all_product : product p m.l_ptrs m.l_vals c.l_rows ≡ 0 → ⊥
  all_product = product_some (took_prime took) m.l_ptrs m.l_vals c.l_rows all_stored
