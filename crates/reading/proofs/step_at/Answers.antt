-- `step_at` meets its contract: each test decides its clause.
-- Assumes nothing.
use borrow.Author.Tests.{eq-eqb, ne_eqb, lt-ltb, le-ltb}
use Rattle.sparse.specs.Refusals.{refuse, ◌else◌, lowest}
use Rattle.reading.specs.Read.{lengths_test, entry_at, unless_refused, step_at}
use Rattle.reading.proofs.step_at.Goals as goal

pub returns-then-entries : goal.returns-then-entries
unfolding step_at unless_refused lengths_test lowest refuse ◌else◌
returns-then-entries c = rw (lt-ltb _ _ c.if-entries.true)

pub returns-then-cols-entries : goal.returns-then-cols-entries
unfolding step_at unless_refused lengths_test lowest refuse ◌else◌
returns-then-cols-entries c = rw (le-ltb _ _ c.if-entries.false, ne_eqb _ _ c.if-cols-entries.true)

pub returns-then-place-entries : goal.returns-then-place-entries
unfolding step_at unless_refused lengths_test lowest refuse ◌else◌ entry_at
returns-then-place-entries c = rw (le-ltb _ _ c.if-entries.false, eq-eqb _ _ c.if-cols-entries.false, le-ltb _ _ c.if-place-entries.true)

pub returns : goal.returns
unfolding step_at unless_refused lengths_test lowest refuse ◌else◌ entry_at
returns c = rw (le-ltb _ _ c.if-entries.false, eq-eqb _ _ c.if-cols-entries.false, lt-ltb _ _ c.if-place-entries.false)
