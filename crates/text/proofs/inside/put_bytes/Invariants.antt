-- `inside::put_bytes` meets its contract. The loop's invariant: the first i bytes are written.
use lib.ListN.{take}
use Rattle.text.specs.Writers.{Wrote}
use Rattle.text.proofs.inside.put_bytes.Given as goal

abbrev pub invariant-loop-byte : goal.invariant-loop-byte
invariant-loop-byte l = Wrote (take l.byte-index l.bytes) l.at l.initial.text l.next l.text
