-- A promise of the form "outcome ≡ definition" is met by one outcome alone. Each public call cites this.
-- Assumes nothing.
use mathlib.Core.Path.{◌≡◌, sym, ◌∙◌}

pub only {ℓ} : {A : Type ℓ} {r s promised : A} → r ≡ promised → s ≡ promised → r ≡ s
only p q = p ∙ sym q
