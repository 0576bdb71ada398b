-- `lines::read_entries` meets its contract. The loop's invariant: the entries before place k are written, and the rest is still to be read.
use Prim.Native.Nat.{◌-◌}
use lib.ListN.{drop}
use Rattle.market.specs.Parse.{lines}
use Rattle.market.specs.Places.{listed}
use Rattle.market.proofs.Readings.{Reading}
use Rattle.market.proofs.lines.read_entries.Given as goal

abbrev pub invariant-loop-k : goal.invariant-loop-k
invariant-loop-k l = Reading l.text (listed (lines l.count (drop l.at l.text))) l.initial.rows l.initial.cols l.initial.vals l.rows l.cols l.vals l.next (l.count - l.k) l.k
