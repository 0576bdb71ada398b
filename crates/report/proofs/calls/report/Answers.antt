-- `report` meets its contract: refused by the text or by the memory, or told.
-- Assumes nothing.
use Rattle.std.proofs.Common.{arith, ◌≡◌}
use Rattle.std.specs.Prelude.{Some, None}
use mathlib.Core.Path.{sym, ◌∙◌}
use Rattle.sparse.proofs.Firsts.{handed}
use Rattle.report.proofs.Reports.{by_text, by_room, by_both}
use Rattle.report.proofs.Texts.{size_there, size_said, size_passed}
use Rattle.report.proofs.calls.report.Goals as goal
use Rattle.report.proofs.calls.report.Goals.{In_ok-size}

sized : (c : In_ok-size) → c.size_line.result ≡ Some c.in_ok-size.size
sized c = grind arith

pub returns-in_err-market_test : goal.returns-in_err-market_test
returns-in_err-market_test c = rw (handed c.from_residual.ensures.1) (by_text _ _ c.market_test.ensures c.in_err-market_test.was)

pub returns-in_err-work_test : goal.returns-in_err-work_test
returns-in_err-work_test c = rw (handed c.from_residual-in_err-work_test.ensures.1) (by_room _ _ c.market_test.ensures c.in_ok-market_test.was c.work_test.ensures c.in_err-work_test.was)

pub returns-in_err-size : goal.returns-in_err-size
returns-in_err-size c =
    let none : c.size_line.result ≡ None = grind arith in
    absurd (size_there _ (sym c.market_test.ensures ∙ c.in_ok-market_test.was) _ c.size_line.ensures none)

pub told-requires : goal.told-requires
told-requires c = record {
  passed = size_passed _ (sym c.market_test.ensures ∙ c.in_ok-market_test.was) _ c.size_line.ensures (sized (goal.at.told-requires c).In_ok-size);
  room = sym c.work_test.ensures ∙ c.in_ok-work_test.was;
}

pub returns : goal.returns
returns c = by_both _ _ c.market_test.ensures c.in_ok-market_test.was c.work_test.ensures c.in_ok-work_test.was
    (size_said _ (sym c.market_test.ensures ∙ c.in_ok-market_test.was) _ c.size_line.ensures (sized (goal.at.returns c).In_ok-size)) c.told.ensures
