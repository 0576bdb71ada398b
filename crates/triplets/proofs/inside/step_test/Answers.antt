-- `step_test` meets its contract: each branch decides one test of the clause, by the parts.
-- Assumes nothing.
use Prim.Native.Nat.{◌-◌}
use native.Mathlib.Omega.{arith}
use lib.ListN.{get_or}
use borrow.Author.Tests.{lt-ltb, le-ltb, eq-eqb, ne_eqb}
use Rattle.sparse.specs.Refusals.{refuse}
use Rattle.triplets.proofs.Orders.{step_parts}
use Rattle.triplets.proofs.inside.step_test.Goals as goal

pub returns-then-k-eq0 : goal.returns-then-k-eq0
unfolding refuse
returns-then-k-eq0 c = let h = c.requires.within in let k = c.args.k in rw (step_parts, le-ltb 0 k (omega arith))

pub returns-then-rows-last : goal.returns-then-rows-last
unfolding refuse
returns-then-rows-last c = let h = c.requires.within in let k = c.args.k in rw (step_parts, lt-ltb 0 k (omega arith), lt-ltb (get_or c.args.rows.now (k - 1) 0) (get_or c.args.rows.now k 0) (omega arith))

pub returns-then-rows-last-2 : goal.returns-then-rows-last-2
unfolding refuse
returns-then-rows-last-2 c = let h = c.requires.within in let k = c.args.k in rw (step_parts, lt-ltb 0 k (omega arith), le-ltb (get_or c.args.rows.now (k - 1) 0) (get_or c.args.rows.now k 0) (omega arith), ne_eqb (get_or c.args.rows.now (k - 1) 0) (get_or c.args.rows.now k 0) (λ e. omega arith))

pub returns-then-cols-last : goal.returns-then-cols-last
unfolding refuse
returns-then-cols-last c = let h = c.requires.within in let k = c.args.k in rw (step_parts, lt-ltb 0 k (omega arith), le-ltb (get_or c.args.rows.now (k - 1) 0) (get_or c.args.rows.now k 0) (omega arith), eq-eqb (get_or c.args.rows.now (k - 1) 0) (get_or c.args.rows.now k 0) (omega arith), lt-ltb (get_or c.args.cols.now (k - 1) 0) (get_or c.args.cols.now k 0) (omega arith))

pub returns : goal.returns
unfolding refuse
returns c = let h = c.requires.within in let k = c.args.k in rw (step_parts, lt-ltb 0 k (omega arith), le-ltb (get_or c.args.rows.now (k - 1) 0) (get_or c.args.rows.now k 0) (omega arith), eq-eqb (get_or c.args.rows.now (k - 1) 0) (get_or c.args.rows.now k 0) (omega arith), le-ltb (get_or c.args.cols.now (k - 1) 0) (get_or c.args.cols.now k 0) (omega arith))
