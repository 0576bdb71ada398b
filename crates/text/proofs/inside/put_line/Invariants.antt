-- `inside::put_line` meets its contract. The loop's invariant: the pieces of the entries before k are written.
use Rattle.text.proofs.Pieces.{OnLine}
use Rattle.text.proofs.inside.put_line.Given as goal

abbrev pub invariant-loop-k : goal.invariant-loop-k
invariant-loop-k l = OnLine l.line l.start l.stop l.idcs l.values l.at l.initial.text l.k l.next l.text
