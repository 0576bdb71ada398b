-- `store_u` meets its contract: the free parts of U are lent to the row's writer.
-- Assumes nothing.
use borrow.Author.Rules.{rules}
use Rattle.taking.proofs.Storing.{part_heads, part_stored, fill_fits}
use Rattle.taking.proofs.stores.store_u.Goals as goal

pub write_u-len-requires : goal.write_u-len-requires
write_u-len-requires c = part_heads c.requires

pub overflow_add-u_ptrs : goal.overflow_add-u_ptrs
overflow_add-u_ptrs c = search (rules, fill_fits c.requires c.write_u-len.ensures)

pub returns : goal.returns
returns c = part_stored c.requires _ c.write_u-len.ensures
