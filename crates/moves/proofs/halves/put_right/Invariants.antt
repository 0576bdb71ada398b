-- `put_right`'s loop: of the first k entries those from column h on are written.
use Rattle.writing.specs.Puts.{put}
use Rattle.moves.proofs.Rights.{Righting}
use Rattle.moves.proofs.halves.put_right.Given as goal

abbrev pub invariant-loop-k : goal.invariant-loop-k
invariant-loop-k l = Righting l.h l.cols l.vals (put l.at l.initial.out_cols l.initial.out_vals) l.k l.next l.out_cols l.out_vals
