-- `tests::market_test` meets its contract.
-- Assumes nothing.
use Rattle.std.proofs.Common.{arith, ◌≡◌}
use Rattle.std.specs.Prelude.{Some, None}
use mathlib.Core.Path.{◌∙◌}
use Rattle.sparse.proofs.Firsts.{handed}
use Rattle.sparse.specs.declared.Refusal.TheVariants.{Text}
use Rattle.market.proofs.Passes.{test_long, test_sizeless, test_broken, test_whole}
use Rattle.market.proofs.tests.market_test.Goals as goal
use Rattle.market.proofs.tests.market_test.Goals.{In_ok-size}

sized : (c : In_ok-size) → c.size_line.result ≡ Some c.in_ok-size.size
sized c = grind arith

pub returns-then-text-gt-MAX_TEXT : goal.returns-then-text-gt-MAX_TEXT
returns-then-text-gt-MAX_TEXT c = test_long _ c.if-text-gt-MAX_TEXT.true

pub returns-in_err-size : goal.returns-in_err-size
returns-in_err-size c =
    let none : c.size_line.result ≡ None = grind arith in
    let text : c.in_err-size.field-0.0 ≡ Text = grind arith in
    rw (handed c.from_residual.ensures.1, text) (test_sizeless _ c.if-text-gt-MAX_TEXT.false _ c.size_line.ensures none)

pub returns-in_err-faults : goal.returns-in_err-faults
returns-in_err-faults c =
    let none : c.walk.result ≡ None = grind arith in
    let text : c.in_err-faults.field-0.0 ≡ Text = grind arith in
    rw (handed c.from_residual-in_err-faults.ensures.1, text)
    (test_broken _ c.if-text-gt-MAX_TEXT.false _ c.size_line.ensures (sized (goal.at.returns-in_err-faults c).In_ok-size) _ c.walk.ensures none)

pub returns : goal.returns
returns c =
    let whole : c.walk.result ≡ Some c.in_ok-faults.faults = grind arith in
    c.verdict.ensures ∙ test_whole _ c.if-text-gt-MAX_TEXT.false _ c.size_line.ensures (sized (goal.at.returns c).In_ok-size) _ c.walk.ensures whole
