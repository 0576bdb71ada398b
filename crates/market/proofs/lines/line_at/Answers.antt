-- `lines::line_at` meets its contract.
-- Assumes nothing.
use Rattle.market.specs.Places.{line_read}
use Rattle.market.proofs.Threes.{line_rowless, line_colless, line_valueless, line_three}
use Rattle.market.proofs.lines.line_at.Goals as goal

pub returns-in_err-row : goal.returns-in_err-row
unfolding line_read
returns-in_err-row c = rw c.from_residual.ensures (line_rowless _ c.args.at c.decimal_at.ensures c.in_err-row.was)

pub returns-in_err-col : goal.returns-in_err-col
unfolding line_read
returns-in_err-col c = rw c.from_residual-in_err-col.ensures (line_colless _ c.args.at c.decimal_at.ensures c.in_ok-row.was c.decimal_at-2.ensures c.in_err-col.was)

pub returns-in_err-value : goal.returns-in_err-value
unfolding line_read
returns-in_err-value c = rw c.from_residual-in_err-value.ensures (line_valueless _ c.args.at c.decimal_at.ensures c.in_ok-row.was c.decimal_at-2.ensures c.in_ok-col.was c.decimal_at-3.ensures c.in_err-value.was)

pub returns : goal.returns
unfolding line_read
returns c = line_three _ c.args.at c.decimal_at.ensures c.in_ok-row.was c.decimal_at-2.ensures c.in_ok-col.was c.decimal_at-3.ensures c.in_ok-value.was
