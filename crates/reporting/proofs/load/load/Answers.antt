-- `load` meets its contract: the entries are read, and their matrix is built of them.
-- Assumes nothing.
use mathlib.Core.Path.{sym}
use native.Mathlib.Omega.{arith}
use lib.Seq.{length-take-le}
use Rattle.reporting.specs.Said.{entries_of}
use Rattle.reporting.proofs.Loads.{within, load_asks, rows_long, cols_long, vals_long, load_writes, load_done}
use Rattle.reporting.proofs.load.load.Goals as goal

pub read_entries-requires : goal.read_entries-requires
unfolding entries_of
read_entries-requires c = load_asks c.requires

pub overflow_cast-size : goal.overflow_cast-size
overflow_cast-size c = omega (arith, (within c.requires).high)

pub slice_bounds-write_triplets-end : goal.slice_bounds-write_triplets-end
unfolding entries_of
slice_bounds-write_triplets-end c = rows_long c.requires c.read_entries.ensures

pub slice_bounds-write_triplets-end-2 : goal.slice_bounds-write_triplets-end-2
unfolding entries_of
slice_bounds-write_triplets-end-2 c = sym (length-take-le _ _ (rows_long c.requires c.read_entries.ensures))

pub slice_bounds-write_triplets-end-3 : goal.slice_bounds-write_triplets-end-3
unfolding entries_of
slice_bounds-write_triplets-end-3 c = cols_long c.requires c.read_entries.ensures

pub slice_bounds-write_triplets-end-4 : goal.slice_bounds-write_triplets-end-4
unfolding entries_of
slice_bounds-write_triplets-end-4 c = sym (length-take-le _ _ (cols_long c.requires c.read_entries.ensures))

pub slice_bounds-write_triplets-end-5 : goal.slice_bounds-write_triplets-end-5
unfolding entries_of
slice_bounds-write_triplets-end-5 c = vals_long c.requires c.read_entries.ensures

pub slice_bounds-write_triplets-end-6 : goal.slice_bounds-write_triplets-end-6
unfolding entries_of
slice_bounds-write_triplets-end-6 c = sym (length-take-le _ _ (vals_long c.requires c.read_entries.ensures))

pub write_triplets-requires : goal.write_triplets-requires
unfolding entries_of
write_triplets-requires c = load_writes c.requires c.read_entries.ensures

pub returns : goal.returns
unfolding entries_of
returns c = load_done c.requires c.read_entries.ensures c.write_triplets.ensures
