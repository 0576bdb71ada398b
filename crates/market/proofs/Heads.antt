-- Lines one by one: the first of them, and those after it.
-- Assumes nothing.
use mathlib.Core.Path.{◌≡◌, refl, ap, ◌∙◌}
use mathlib.Core.List.{List, [], ◌∷◌}
use Prim.Native.Nat.{ℕ, zero, suc}
use native.Mathlib.Omega.{arith}
use lib.ListN.{length}
use Rattle.triplets.specs.Triplets.{Triplet}
use Rattle.market.specs.Parse.{Read, nothing, got, ◌then◌, line, lines}

-- what was read after something else: first that, and then the rest
pub record Led {A B : Type 0} (r : Read A) (more : A → List ℕ → Read B) (y : B) (end : List ℕ) : Type 0 where
  pub front : A
  pub later : List ℕ
  pub first : r ≡ got front later
  pub rest : more front later ≡ got y end

pub then_got : {A B : Type 0} (r : Read A) (more : A → List ℕ → Read B) {y : B} {end : List ℕ} → r then more ≡ got y end → Led r more y end
unfolding ◌then◌
then_got nothing more e = let z : ◌≡◌ {A = ℕ} 0 1 = cc in absurd (omega arith)
then_got (got x later) more e = record { front = x; later = later; first = refl; rest = e }

-- the lines after the first
pub record Tail (t : Triplet) (k : ℕ) (later : List ℕ) (ts : List Triplet) (end : List ℕ) : Type 0 where
  pub others : List Triplet
  pub all : ts ≡ t ∷ others
  pub read : lines k later ≡ got others end

pub lines_tail : (k : ℕ) (bs : List ℕ) {t : Triplet} {later : List ℕ} {ts : List Triplet} {end : List ℕ} → line bs ≡ got t later → lines (suc k) bs ≡ got ts end → Tail t k later ts end
unfolding lines ◌then◌
lines_tail k bs {t} {later} {ts} {end} e h = go (lines k later) refl (rw e at h)
  where
    go : (r : Read (List Triplet)) → lines k later ≡ r → r then (λ ts end. got (t ∷ ts) end) ≡ got ts end → Tail t k later ts end
    go nothing q w = let z : ◌≡◌ {A = ℕ} 0 1 = cc in absurd (omega arith)
    go (got us rest) q w = record { others = us; all = cc; read = cc }

-- a line is there
pub lines_first : (k : ℕ) (bs : List ℕ) {ts : List Triplet} {end : List ℕ} → lines (suc k) bs ≡ got ts end → line bs ≡ nothing → ⊥
unfolding lines ◌then◌
lines_first k bs h e = let z : ◌≡◌ {A = ℕ} 0 1 = cc (rw e at h) in absurd (omega arith)

-- as many as were asked for
pub lines_length : (k : ℕ) (bs : List ℕ) {ts : List Triplet} {end : List ℕ} → lines k bs ≡ got ts end → length ts ≡ k
unfolding lines
lines_length zero bs {ts} h = let e : ts ≡ [] = cc in ap length e
lines_length (suc k) bs {ts} {end} h = go (line bs) refl (λ later us u. lines_length k later {ts = us} {end = end} u)
  where
    go : (r : Read Triplet) → line bs ≡ r → ((later : List ℕ) (us : List Triplet) → lines k later ≡ got us end → length us ≡ k) → length ts ≡ suc k
    go nothing e ih = absurd (lines_first k bs h e)
    go (got t later) e ih = let w = lines_tail k bs e h in ap length w.all ∙ ap suc (ih later w.others w.read)
