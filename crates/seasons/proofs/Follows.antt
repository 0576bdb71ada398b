-- Rows followed by accepted ones: none more leaves them, and one more is the last.
-- Assumes nothing.
use Rattle.std.specs.Prelude.{None, Some}
use mathlib.Core.Path.{◌≡◌, sym, ap, fun_ext, ◌∙◌}
use mathlib.Core.Bool.{cond}
use mathlib.Core.List.{List, [], ◌∷◌, ◌++◌}
use Prim.Native.Nat.{ℕ, suc, ◌+◌, ◌-◌, ◌≤◌, ◌<◌}
use native.Mathlib.Decide.{dec_lt}
use native.Mathlib.Omega.{arith}
use borrow.Author.Tests.{lt-ltb, le-ltb}
use lib.ListN.{length, length-append, get_or-append}
use lib.Seq.{get_or_at}
use Rattle.sparse.specs.Rows.{Entry}
use Rattle.walk.specs.Step.{is_none, Answer}
use Rattle.steps.specs.History.{Told, told, accepted, values_in}
use Rattle.steps.specs.Rows.{value_of}
use Rattle.steps.specs.Setting.{with_last}
use Rattle.steps.proofs.Histories.{accepted_same, accepted_more}
use Rattle.steps.proofs.Lasts.{last_before, last_all}
use Rattle.seasons.specs.Reached.{followed}

module _ (k : ℕ) (r : ℕ → ℕ → ℕ) where
  pub followed_first : (rs : List (List Entry)) (i : ℕ) → i < k → followed k r rs i ≡ r i
  unfolding followed
  followed_first rs i h = rw (lt-ltb i k h)

  followed_then : (rs : List (List Entry)) (i : ℕ) → k ≤ i → followed k r rs i ≡ values_in rs (i - k)
  unfolding followed
  followed_then rs i h = rw (le-ltb i k h)

  -- one row more stands in the last place
  followed_last : (rs : List (List Entry)) (es : List Entry) (i : ℕ) → i < suc (k + length rs) → followed k r (rs ++ (es ∷ [])) i ≡ with_last (k + length rs) (value_of es) (followed k r rs) i
  followed_last rs es = last_all (k + length rs) (value_of es) (followed k r rs) (λ i y. followed k r (rs ++ (es ∷ [])) i ≡ y) there (λ i h. before i h (dec_lt i k))
    where
      there : followed k r (rs ++ (es ∷ [])) (k + length rs) ≡ value_of es
      there = followed_then (rs ++ (es ∷ [])) (k + length rs) (omega arith) ∙ ap value_of (get_or_at rs es [] [] (k + length rs - k) (omega arith))

      before : (i : ℕ) → i < k + length rs → Dec (i < k) → followed k r (rs ++ (es ∷ [])) i ≡ followed k r rs i
      before i h (yes l) = followed_first (rs ++ (es ∷ [])) i l ∙ sym (followed_first rs i l)
      before i h (no l) =
          let low : i - k < length rs = omega arith in
          followed_then (rs ++ (es ∷ [])) i (omega arith) ∙ ap value_of (get_or-append rs (es ∷ []) [] (i - k) low) ∙ sym (followed_then rs i (omega arith))

  -- no row first: the rows rs
  pub followed_all : k ≡ 0 → (rs : List (List Entry)) → followed k r rs ≡ values_in rs
  followed_all e rs = fun_ext (λ i. let same : i - k ≡ i = omega arith in followed_then rs i (omega arith) ∙ ap (values_in rs) same)

  -- after one row taken, by its answer: so many, and these
  module _ (ts : List Told) (es : List Entry) where
    pub taken_many : (a : Answer) → k + length (accepted ts) + cond (is_none a) 0 1 ≡ k + length (accepted (ts ++ (told es a ∷ [])))
    unfolding is_none
    taken_many None = omega (arith, ap length (accepted_same ts es))
    taken_many (Some g) = omega (arith, ap length (accepted_more ts es g), length-append (accepted ts) (es ∷ []))

    pub taken_last : (a : Answer) (i : ℕ) → i < k + length (accepted ts) + cond (is_none a) 0 1 → followed k r (accepted (ts ++ (told es a ∷ []))) i ≡ with_last (k + length (accepted ts)) (value_of es) (followed k r (accepted ts)) i
    unfolding is_none
    taken_last None i h =
        ap (λ (rs : List (List Entry)). followed k r rs i) (accepted_same ts es)
        ∙ sym (last_before (k + length (accepted ts)) (value_of es) (followed k r (accepted ts)) i (omega arith))
    taken_last (Some g) i h = ap (λ (rs : List (List Entry)). followed k r rs i) (accepted_more ts es g) ∙ followed_last (accepted ts) es i (omega arith)
