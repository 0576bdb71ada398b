-- A test decides a statement: true where it holds, false where it doesn't.
-- Assumes nothing.
use mathlib.Core.Path.{◌≡◌, refl}
use mathlib.Core.Logic.{◌⊎◌, inl, inr}
use mathlib.Core.Bool.{Bool, true, false, not, ◌&&◌, ◌||◌, true≢false, false≢true}
use Prim.Native.Nat.{ℕ, ◌≤◌, ◌<◌}
use native.Mathlib.Omega.{arith}
use lib.Dec.{leb, ltb, eqb}
use borrow.Author.Tests.{ltb-true, ltb-false, leb-true, leb-false, eqb-true, eqb-false}

pub record Decides (b : Bool) (P : Type 0) : Type 0 where
  pub yes : b ≡ true → P
  pub no : b ≡ false → P → ⊥

-- the test is true where the statement holds
pub holds : {b : Bool} {P : Type 0} → Decides b P → P → b ≡ true
holds {b = true} d p = refl
holds {b = false} d p = absurd (d.no refl p)

pub fails : {b : Bool} {P : Type 0} → Decides b P → (P → ⊥) → b ≡ false
fails {b = true} d p = absurd (p (d.yes refl))
fails {b = false} d p = refl

-- the same statement in other words
pub decides_as : {b : Bool} {P Q : Type 0} → (P → Q) → (Q → P) → Decides b P → Decides b Q
decides_as f g d = record { yes = λ e. f (d.yes e); no = λ e q. d.no e (g q) }

pub decides_not : {b : Bool} {P : Type 0} → Decides b P → Decides (not b) (P → ⊥)
decides_not {b = true} d = record { yes = λ e. absurd (false≢true e); no = λ e f. f (d.yes refl) }
decides_not {b = false} d = record { yes = λ e. d.no refl; no = λ e. absurd (true≢false e) }

pub decides_or : {a b : Bool} {P Q : Type 0} → Decides a P → Decides b Q → Decides (a || b) (P ⊎ Q)
decides_or {a = true} d e = record { yes = λ t. inl (d.yes refl); no = λ t. absurd (true≢false t) }
decides_or {a = false} d e = record { yes = λ t. inr (e.yes t); no = λ t. elim [ inl p ↦ d.no refl p | inr q ↦ e.no t q ] }

pub decides_and : {a b : Bool} {P Q : Type 0} → Decides a P → Decides b Q → Decides (a && b) (P × Q)
decides_and {a = true} d e = record { yes = λ t. (d.yes refl, e.yes t); no = λ t w. e.no t w.1 }
decides_and {a = false} d e = record { yes = λ t. absurd (false≢true t); no = λ t w. d.no refl w.0 }

pub decides_lt : (a b : ℕ) → Decides (ltb a b) (a < b)
decides_lt a b = record { yes = ltb-true a b; no = λ e l. let g : b ≤ a = ltb-false a b e in omega arith }

pub decides_le : (a b : ℕ) → Decides (leb a b) (a ≤ b)
decides_le a b = record { yes = leb-true a b; no = λ e l. let g : b < a = leb-false a b e in omega arith }

pub decides_eq : (a b : ℕ) → Decides (eqb a b) (a ≡ b)
decides_eq a b = record { yes = eqb-true a b; no = eqb-false a b }
