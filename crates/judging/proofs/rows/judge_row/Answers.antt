-- `judge_row` meets its contract: the entries, then the product.
-- Assumes nothing.
use mathlib.Core.Path.{sym, ◌∙◌}
use Rattle.judging.proofs.Judged.{judged_entries, judged_compares, judged_product}
use Rattle.judging.proofs.rows.judge_row.Goals as goal

pub entries_fault-requires : goal.entries_fault-requires
entries_fault-requires c = c.requires.named

pub returns-then-entries_fault : goal.returns-then-entries_fault
returns-then-entries_fault c = judged_entries _ _ _ _ _ _ (sym c.entries_fault.ensures ∙ c.if-entries_fault.true)

pub product_fault-requires : goal.product_fault-requires
product_fault-requires c = judged_compares c.requires _ (sym c.entries_fault.ensures ∙ c.if-entries_fault.false)

pub returns : goal.returns
returns c = judged_product _ _ _ _ _ _ (sym c.entries_fault.ensures ∙ c.if-entries_fault.false) c.product_fault.ensures
