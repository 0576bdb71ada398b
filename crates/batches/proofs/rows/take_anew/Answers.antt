-- `take_anew` meets its contract: a fresh start, then all rows.
-- Assumes nothing.
use borrow.Author.Rules.{rules}
use Rattle.batches.proofs.Batches.{anew_startable, anew_goes, anew_taken}
use Rattle.batches.proofs.rows.take_anew.Goals as goal

pub start-requires : goal.start-requires
start-requires c = anew_startable c.requires

pub take_all-requires : goal.take_all-requires
take_all-requires c = anew_goes c.requires c.fresh_counts.ensures c.start.ensures

pub shape_of-u_ptrs : goal.shape_of-u_ptrs
shape_of-u_ptrs c = search (rules, c.u_ptrs-2-1.given, c.u_ptrs-1.given)

pub returns : goal.returns
returns c = anew_taken c.requires c.fresh_counts.ensures c.start.ensures _ _ c.take_all.ensures
