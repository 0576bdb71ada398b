-- For each public call: two outcomes that meet its promise are equal.
-- Assumes nothing.
use mathlib.Core.Path.{◌≡◌}
use Prim.Native.Nat.{ℕ}
use mathlib.Core.List.{List}
use denote.Ref.{Bor}
use Rattle.lists.proofs.Only.{only}
use Rattle.sparse.specs.Lent.{Outcome}
use Rattle.reading.specs.Read.{Read, step_at, reader_at, next_of}
use Rattle.reading.specs.declared.Reader.{Reader}
use Rattle.reading.specs.declared.Step.{Step}

pub reader_at_only : (cols vals : Bor (List ℕ)) (i : ℕ) {r s : Reader} → r ≡ reader_at cols vals i → s ≡ reader_at cols vals i → r ≡ s
reader_at_only cols vals i = only

pub next_only : (r : Reader) {o u : Outcome Read Reader} → o ≡ next_of r → u ≡ next_of r → o ≡ u
next_only r = only

pub peek_only : (r : Reader) {s t : Step} → s ≡ step_at r.cols.now r.vals.now r.place → t ≡ step_at r.cols.now r.vals.now r.place → s ≡ t
peek_only r = only

pub entry_at_only : (cols vals : List ℕ) (i : ℕ) {s t : Step} → s ≡ step_at cols vals i → t ≡ step_at cols vals i → s ≡ t
entry_at_only cols vals i = only
