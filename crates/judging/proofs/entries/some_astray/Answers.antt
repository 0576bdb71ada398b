-- `some_astray` meets its contract. The loop's invariant: no entry before `at` is astray.
use mathlib.Core.Path.{sym, ◌∙◌}
use native.Mathlib.Omega.{arith}
use Rattle.lists.proofs.Scans.{clear_none, clear_next, clear_stop, clear_all}
use Rattle.judging.proofs.Names.{named_before}
use Rattle.judging.proofs.entries.some_astray.Goals as goal

pub loop-at-init : goal.loop-at-init
loop-at-init c = clear_none _ _

pub is_astray-requires : goal.is_astray-requires
is_astray-requires c = record { all = c.requires.all; within = omega (arith, c.loop-at-test.true, c.requires.within); before = named_before c.requires.all _ c.requires.within c.loop-at.invariant }

pub returns-then-is_astray : goal.returns-then-is_astray
returns-then-is_astray c = clear_stop c.loop-at.invariant c.loop-at-test.true (sym c.is_astray.ensures ∙ c.if-is_astray.true)

pub loop-at-preserved : goal.loop-at-preserved
loop-at-preserved c = clear_next c.loop-at.invariant c.loop-at-test.true (sym c.is_astray.ensures ∙ c.if-is_astray.false)

pub returns : goal.returns
returns c = clear_all c.loop-at.invariant c.loop-at-test.false
