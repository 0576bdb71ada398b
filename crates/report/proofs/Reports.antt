-- The call's outcomes: refused by the text, by the memory, or reported.
-- Assumes nothing.
use Rattle.std.specs.Prelude.{Err, Ok}
use mathlib.Core.Path.{◌≡◌, sym, ap, ◌∙◌}
use mathlib.Core.List.{List, [], ◌∷◌}
use Prim.Native.Nat.{ℕ}
use Rattle.text.specs.Mma.{Printed}
use Rattle.sparse.specs.Lent.{Outcome, outcome, unless}
use Rattle.sparse.specs.Refusals.{lowest, Tested}
use Rattle.sparse.specs.declared.Refusal.{Refusal}
use Rattle.sparse.proofs.Firsts.{lowest_stop, lowest_next, lowest_last}
use Rattle.market.specs.Parse.{Market, market}
use Rattle.market.specs.Tests.{market_test}
use Rattle.report.specs.Report.{reported, said, report}
use Rattle.report.specs.Work.{Work, work_test}

module _ (text : List ℕ) (w : Work) {s : Tested} (tested : s ≡ market_test text) where
  refused : {why : Refusal} → Err why ≡ lowest (market_test text ∷ work_test w ∷ []) → outcome (Err why) w ≡ report text w
  unfolding report unless
  refused e = rw (← e)

  pub by_text : {why : Refusal} → s ≡ Err why → outcome (Err why) w ≡ report text w
  by_text e = refused (lowest_stop _ tested e)

  module _ (good : s ≡ Ok tt) {r : Tested} (roomed : r ≡ work_test w) where
    pub by_room : {why : Refusal} → r ≡ Err why → outcome (Err why) w ≡ report text w
    by_room e = refused (lowest_next _ tested good (lowest_stop _ roomed e))

    pub by_both : r ≡ Ok tt → {m : Market} → said (market text) ≡ m → {x : Outcome Printed Work} → x ≡ reported m w → x ≡ report text w
    unfolding report unless
    by_both e says told =
        let both : Ok tt ≡ lowest (market_test text ∷ work_test w ∷ []) = lowest_next _ tested good (sym e ∙ lowest_last roomed) in
        rw (← both) (told ∙ ap (λ (y : Market). reported y w) (sym says))
