-- `last_of` meets its contract.
-- Assumes nothing.
use mathlib.Core.Path.{ap, ◌∙◌}
use Prim.Native.Nat.{◌-◌}
use lib.ListN.{length}
use Rattle.std.specs.Option.{unwrap_or}
use Rattle.std.proofs.lemmas.Option.{unwrap_or-slice_get}
use Rattle.signs.specs.Value.{last_of}
use Rattle.signs.proofs.lasts.last_of.Goals as goal

pub returns : goal.returns
unfolding last_of
returns c =
    let xs = c.args.numbers.now in
    c.unwrap_or.ensures ∙ ap (λ o. unwrap_or o 0) (c.copied.ensures ∙ c.last.ensures.value) ∙ unwrap_or-slice_get xs (length xs - 1) 0
