-- `not_above` meets its contract: the seam that std finds is where the count ends.
-- Assumes nothing.
use native.Mathlib.Omega.{arith}
use borrow.Author.Rules.{rules}
use borrow.Author.Tests.{tests, leb-true, leb-false}
use lib.Dec.{leb}
use Rattle.std.specs.List.Sorted.{IsNonDecreasing}
use Rattle.std.proofs.lemmas.Grind.{get_or_default_zero}
use Rattle.std.proofs.lemmas.List.Sorted.{IsPartitionPoint-from_clause, IsPartitionedBy-leb}
use Rattle.columns.proofs.Above.{Between, between_met}
use Rattle.columns.proofs.positions.not_above.Goals as goal

pub returns : goal.returns
returns c =
    let ps = c.args.positions.now in
    let seam = c.partition_point.result in
    let rises : IsNonDecreasing ps = λ i j d h l. omega (arith, c.requires.order i j h l, get_or_default_zero ps i d (omega arith), get_or_default_zero ps j d l) in
    let parted = IsPartitionPoint-from_clause (λ q. leb q c.args.col) ps seam c.partition_point.ensures.partitioned (IsPartitionedBy-leb (λ x. x) ps c.args.col rises) (λ a r f k. search (rules, tests)) in
    let between : Between ps c.args.col seam seam = record {
      rises = omega arith;
      within = c.partition_point.ensures.bound;
      front = λ k h. leb-true _ _ (parted.0 k 0 (omega arith) h);
      back = λ k h l. leb-false _ _ (parted.1 k 0 h l);
    } in
    between_met between (omega arith)
