-- `holds_other`'s loop: the entries so far hold 0 or stand at the column.
use lib.ListN.{length}
use Rattle.lists.proofs.Scans.{Clear}
use Rattle.readers.proofs.Identities.{other}
use Rattle.readers.proofs.identity.holds_other.Given as goal

abbrev pub invariant-loop-here : goal.invariant-loop-here
invariant-loop-here l = Clear (length l.cols) (other l.cols l.vals l.col) (length l.yielded)
