-- `wipe` meets its contract: the rest is filled with zeros.
-- Assumes nothing.
use mathlib.Core.Path.{◌≡◌, ap, ◌∙◌}
use mathlib.Core.List.{[]}
use Prim.Native.Nat.{ℕ, ◌-◌}
use native.Mathlib.Omega.{arith}
use lib.ListN.{length, drop, replicate, length-drop}
use lib.Seq.{length-take-le}
use borrow.Rule.Slice.PartMut.{post_of}
use Rattle.std.proofs.lemmas.List.{drop_all, append-nil}
use Rattle.walk.proofs.DenseLaws.{wipe_all}
use Rattle.walk.proofs.kernels.wipe.Goals as goal

pub returns : goal.returns
returns c =
    let old = c.args.dense.now in
    let from = c.min-from.result in
    let left : ℕ = length old - from in
    let long : length (drop from old) ≡ left = length-drop from old in
    let nothing : post_of from left old ≡ [] = drop_all left (drop from old) (omega arith) in
    let zeros : c.fill.new.self ≡ replicate left 0 = c.fill.ensures.after (λ y e. e) ∙ ap (λ (n : ℕ). replicate n 0) (length-take-le left (drop from old) (omega arith)) in
    rw (zeros, nothing, append-nil) (wipe_all c.args.from from old c.min-from.ensures)
