-- One row cleared: what each call on the way asks for, and what is seen at the end.
-- Assumes nothing.
use Rattle.std.specs.Prelude.{None}
use mathlib.Core.Path.{◌≡◌, refl, ap, ◌∙◌}
use mathlib.Core.Bool.{true}
use mathlib.Core.List.{List, []}
use Prim.Native.Nat.{ℕ, ◌<◌}
use native.Mathlib.Decide.{dec_lt}
use native.Mathlib.Omega.{arith}
use lib.ListN.{length, get_or}
use Rattle.field.proofs.Primes.{modulus_iff}
use Rattle.sparse.specs.Lent.{outcome}
use Rattle.sparse.specs.Rows.{Entry, entries}
use Rattle.state.specs.declared.Mode.TheVariants.{None as NoL}
use Rattle.walk.specs.Dense.{spread, wiped}
use Rattle.walk.specs.Left.{rest_of, limit_of, LeftFrom}
use Rattle.walk.specs.Step.{way, climb, divided}
use Rattle.walk.specs.Step as S
use Rattle.steps.proofs.Steps.{prime_inverts, step_added}
use Rattle.taking.specs.Asks.{StoresU}
use Rattle.taking.specs.Rows.{Shown, shown, walked_to, storing}
use Rattle.taking.specs.Stores.{Upper, with_u, lower, with_l, kept_entries}
use Rattle.taking.proofs.Takings.{takes_stores_u, takes_none, takes_accepted}
use Rattle.backing.specs.Asks.{came_to, Clears, stored_row}

-- an L that isn't kept stays empty
no_l : (es : List Entry) → outcome 0 (lower [] [] []) ≡ outcome (kept_entries NoL es) (with_l NoL 0 0 es (lower [] [] []))
unfolding kept_entries with_l
no_l es = refl

module _ {p rank fill : ℕ} {cols vals dense : List ℕ} {u : Upper} (s : Clears p (length dense) rank fill cols vals dense u) where
  abbrev above : S.Upper
  above = S.upper u.cols u.vals u.ptrs u.pivots

  head_low : s.head < length dense
  head_low = (step_added true p (length dense) rank above s.takes.heads (prime_inverts ((modulus_iff p).0 s.takes.modulus).0) s.takes.echelon (entries cols vals) s.takes.clean s.accepted).within

  module _ {loaded walkd : List ℕ} {head : ℕ} (load : loaded ≡ spread (length dense) cols vals)
      (walk : LeftFrom p (length loaded) (limit_of true (length loaded) head) above (climb true p above (length loaded) (way (λ j. get_or loaded j 0) [] None)) (get_or cols 0 0) walkd head) where
    limited : length dense ≡ limit_of true (length dense) head
    unfolding limit_of
    limited = refl

    -- the walk finds a head, for the row is accepted
    found : head < length dense
    unfolding storing
    found = go (dec_lt head (length dense))
      where
        go : Dec (head < length dense) → head < length dense
        go (yes h) = h
        go (no h) =
            let none : shown (walked_to (length dense) 0 0) u (lower [] [] []) (wiped (get_or cols 0 0) walkd) ≡ storing NoL (length dense) rank fill 0 0 (came_to p (length dense) rank cols vals u).answer (came_to p (length dense) rank cols vals u) u (lower [] [] []) = takes_none s.takes load walk limited refl (omega arith) (no_l _) in
            let same : length dense ≡ s.head = ap (λ (x : Shown). x.told.head) (none ∙ ap (λ a. storing NoL (length dense) rank fill 0 0 a (came_to p (length dense) rank cols vals u) u (lower [] [] [])) s.accepted) in
            absurd (omega (arith, same, head_low))

    pub clears_stores : StoresU p rank fill walkd (length dense) head u
    clears_stores = takes_stores_u s.takes load walk limited found

    pub clears_returns : {clear : List ℕ} {len : ℕ} {v : Upper} → clear ≡ wiped (get_or cols 0 0) walkd
        → outcome len v ≡ outcome (length (divided p (length walkd) (rest_of u.pivots (length dense) walkd) head)) (with_u rank fill head (divided p (length walkd) (rest_of u.pivots (length dense) walkd) head) u)
        → outcome len (outcome v clear) ≡ outcome (stored_row p (length dense) rank fill cols vals u).told.u_len (outcome (stored_row p (length dense) rank fill cols vals u).u (stored_row p (length dense) rank fill cols vals u).dense)
    unfolding stored_row
    clears_returns wipe grown = ap (λ (x : Shown). outcome x.told.u_len (outcome x.u x.dense)) (takes_accepted s.takes load walk limited wipe found (no_l _) grown)
