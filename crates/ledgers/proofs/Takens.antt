-- Rows taken since a fresh start leave a state, in the mode, modulus and column count of that start.
-- Assumes nothing.
use mathlib.Core.Path.{refl, sym, subst}
use mathlib.Core.List.{List, []}
use Prim.Native.Nat.{ℕ}
use Rattle.lists.proofs.Ontos.{onto_nil}
use Rattle.field.specs.Prime.{Prime}
use Rattle.field.proofs.Primes.{modulus_iff}
use Rattle.state.specs.Fresh.{counts}
use Rattle.state.specs.Memory.{Memory}
use Rattle.state.specs.declared.Counts.{Counts}
use Rattle.state.specs.declared.Mode.{Mode}
use Rattle.steps.specs.History.{Told}
use Rattle.stepping.specs.Asks.{Stands}
use Rattle.stepping.specs.Take.{lists}
use Rattle.stepping.proofs.Walks.{stands_modulus}
use Rattle.keeping.proofs.Pasts.{empty_past}
use Rattle.telling.specs.Runs.{run}
use Rattle.running.specs.Rows.{written}
use Rattle.nights.specs.Meant.{nothing}
use Rattle.nights.proofs.Rows.{Kept, kept_more}
use Rattle.strides.specs.Strides.{Begun, Strides, still, stride}
use Rattle.strides.proofs.Runs.{begun_stands}
use Rattle.ledgers.specs.Taken.{Took}

-- whatever answers were written, and however many rows the last call counts
pub record Stood (mode : Mode) (p n : ℕ) (ts : List Told) (c : Counts) (m : Memory) : Type 0 where
  pub counted : ℕ
  pub answers : List ℕ
  pub kept : Kept (counts mode p n 0 0 0 0) [] ts (run counted c) (written m answers)

pub strides_stood : {mode : Mode} {p n : ℕ} {from : Memory} → Begun mode p n from → {ts : List Told} {c : Counts} {m : Memory} → Strides p n (counts mode p n 0 0 0 0) from ts c m → Stood mode p n ts c m
strides_stood {mode} {p} {n} {from} start still =
    let s : Stands (counts mode p n 0 0 0 0) (lists from []) = begun_stands start in
    record {
      counted = 0;
      answers = [];
      kept = record {
        stands = s;
        past = empty_past (counts mode p n 0 0 0 0) (lists from []) s refl;
        meant = nothing;
        mode = refl;
        modulus = refl;
        ncols = refl;
        taken = refl;
        numbers = λ h. sym (onto_nil []);
      };
    }
strides_stood start (stride ts c m before on es row room) = record { counted = _; answers = _; kept = kept_more on (strides_stood start before).kept es row room }

pub took_stood : {mode : Mode} {p n : ℕ} {ts : List Told} {c : Counts} {m : Memory} → Took mode p n ts c m → Stood mode p n ts c m
took_stood took = strides_stood took.start took.strides

-- the modulus is a prime
pub took_prime : {mode : Mode} {p n : ℕ} {ts : List Told} {c : Counts} {m : Memory} → Took mode p n ts c m → Prime p
took_prime {c = c} {m = m} took = let k = (took_stood took).kept in subst Prime k.modulus ((modulus_iff c.modulus).0 (stands_modulus c (lists m []) k.stands)).0
