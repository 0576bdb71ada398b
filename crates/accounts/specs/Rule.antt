-- What a rule for rows without an L row must keep for the account check to be sound.
use Rattle.std.specs.Prelude.{◌≡◌, true, List, ℕ, ◌<◌}
use Rattle.linear.proofs.Heads.{Heads}
use Rattle.linear.proofs.Span.{Span}
use Rattle.sparse.specs.Rows.{Entry}
use Rattle.steps.specs.Rows.{value_of}
use Rattle.accounts.specs.Account.{Rule}

-- the rule takes out only rows that are, modulo p, sums of multiples of any k rows with distinct heads
pub record Spares (rule : Rule) : Type 0 where
  pub spans : {p n k : ℕ} {u : ℕ → ℕ → ℕ} {h : ℕ → ℕ} → 0 < p → Heads p n k u h → (es : List Entry) → rule n k es ≡ true → Span p n k u (value_of es)
