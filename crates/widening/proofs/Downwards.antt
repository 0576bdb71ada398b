-- Lent memory written in place from its right end: what stands from place t on is new, what stands before it as it came.
-- Assumes nothing.
use mathlib.Core.Path.{◌≡◌, refl, sym, ◌∙◌}
use mathlib.Core.List.{List}
use Prim.Native.Nat.{ℕ, suc, ◌≤◌, ◌<◌}
use native.Mathlib.Decide.{ℕ_discrete, dec_lt}
use native.Mathlib.Omega.{arith}
use lib.ListN.{length, get_or, set, length-set}
use lib.Seq.{get_or-set_same, get_or-set_other, ext_get_or}

pub record Downwards (old new now : List ℕ) (t : ℕ) : Type 0 where
  pub same : length now ≡ length old
  pub kept : (j : ℕ) → j < t → get_or now j 0 ≡ get_or old j 0
  pub done : (j : ℕ) → t ≤ j → j < length old → get_or now j 0 ≡ get_or new j 0

-- nothing is written where the new is as it came
pub down_none : {old new : List ℕ} {t : ℕ} → ((j : ℕ) → t ≤ j → get_or new j 0 ≡ get_or old j 0) → Downwards old new old t
down_none past = record { same = refl; kept = λ j l. refl; done = λ j h l. sym (past j h) }

-- the place before t is written
pub down_more : {old new now : List ℕ} {t s a : ℕ} → Downwards old new now s → suc t ≡ s → t < length old → a ≡ get_or new t 0 → Downwards old new (set now t a) t
down_more {old} {new} {now} {t} {s} {a} d e h right = record {
  same = length-set now t a ∙ d.same;
  kept = λ j l. get_or-set_other now t j a 0 (λ q. omega arith) ∙ d.kept j (omega arith);
  done = λ j g l. at j g l (ℕ_discrete j t);
}
  where
    at : (j : ℕ) → t ≤ j → j < length old → Dec (j ≡ t) → get_or (set now t a) j 0 ≡ get_or new j 0
    at j g l (yes q) = rw q (get_or-set_same now t a 0 (omega (arith, d.same)) ∙ right)
    at j g l (no q) = get_or-set_other now t j a 0 q ∙ d.done j (omega arith) l

-- all is written where the rest is as it came
pub down_all : {old new now : List ℕ} {t : ℕ} → Downwards old new now t → length new ≡ length old → ((j : ℕ) → j < t → get_or new j 0 ≡ get_or old j 0) → now ≡ new
down_all {old} {new} {now} {t} d long front = ext_get_or 0 now new (d.same ∙ sym long) (λ j l. at j (omega (arith, d.same)) (dec_lt j t))
  where
    at : (j : ℕ) → j < length old → Dec (j < t) → get_or now j 0 ≡ get_or new j 0
    at j l (yes b) = d.kept j b ∙ sym (front j b)
    at j l (no b) = d.done j (omega arith) l
