-- `write_triplets` meets its contract: each call writes one of the three parts.
-- Assumes nothing.
use mathlib.Core.Path.{sym}
use Rattle.triplets.proofs.Passed.{written_parts}
use Rattle.triplets.proofs.inside.write_triplets.Goals as goal

pub returns : goal.returns
returns c = rw (c.write_pointers.ensures, c.copy.ensures, c.copy-2.ensures) (sym (written_parts _ _ _ _ _ c.requires.parts))
