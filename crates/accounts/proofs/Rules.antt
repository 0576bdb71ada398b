-- Edition 1 of step 1 spares only combinations.
-- Assumes nothing.
use Rattle.steps.specs.History.{at_once}
use Rattle.steps.proofs.Answers.{once_span}
use Rattle.accounts.specs.Rule.{Spares}

pub once_spares : Spares at_once
once_spares = record { spans = once_span }
