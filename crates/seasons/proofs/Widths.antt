-- Spans with inserted columns as zeros.
-- Assumes nothing.
use mathlib.Core.Path.{sym, ap, ◌∙◌}
use mathlib.Core.List.{List}
use Prim.Native.Nat.{ℕ, ◌+◌, ◌%◌, ◌≤◌, ◌<◌}
use native.Mathlib.Nat.{mod-lt, mod-mod, zero-mod}
use lib.ListN.{length, get_or}
use Rattle.linear.proofs.Span.{Span, combination_span, span_combination, span_same}
use Rattle.columns.specs.Asks.{NotFalling}
use Rattle.widening.specs.Inserted.{Inserted}
use Rattle.widening.proofs.Combinations.{combination_new}

inserted_mod : (p : ℕ) {n : ℕ} {ps : List ℕ} {x y : ℕ → ℕ} → Inserted n ps x y → Inserted n ps (λ j. x j % p) (λ j. y j % p)
inserted_mod p i = record { old = λ c h. ap (λ (z : ℕ). z % p) (i.old c h); new = λ k h. ap (λ (z : ℕ). z % p) (i.new k h) ∙ zero-mod p }

pub span_new : {p n k : ℕ} {ps : List ℕ} {r s : ℕ → ℕ → ℕ} {x y : ℕ → ℕ} → 0 < p → NotFalling ps → ((i : ℕ) → i < length ps → get_or ps i 0 ≤ n)
    → ((i : ℕ) → i < k → Inserted n ps (r i) (s i)) → Inserted n ps x y → Span p n k r x → Span p (n + length ps) k s y
span_new {p} pos sorted low rows row span =
    span_same (λ j h. sym (mod-mod _ p))
    (combination_span (combination_new p rows (inserted_mod p row) sorted low (span_combination pos (λ j h. mod-lt _ pos) (span_same (λ j h. mod-mod _ p) span))))
