-- What a reader over one lent row yields.
use Rattle.std.specs.Prelude.{ℕ, ◌+◌, cond, not, List, [], ◌∷◌, eqb, ltb, length, get_or, Err, Ok, None, Some, Option, Result}
use Rattle.std.specs.Borrow.{Bor}
use Rattle.sparse.specs.Lent.{Outcome, outcome}
use Rattle.sparse.specs.Refusals.{refuse, lowest, Tested}
use Rattle.sparse.specs.declared.Refusal.TheVariants.{Size, Shape}
use Rattle.sparse.specs.declared.Refusal.{Refusal}
use Rattle.reading.specs.declared.Entry.{Entry}
use Rattle.reading.specs.declared.Reader.{Reader}
use Rattle.reading.specs.declared.Step.{Step}

-- 2: over 1,024 entries; 3: columns and values differ in number
unfoldable pub lengths_test : List ℕ → List ℕ → Tested
lengths_test cols vals = lowest (refuse (ltb 1024 (length vals)) Size ∷ refuse (not (eqb (length cols) (length vals))) Shape ∷ [])

-- what was read: an entry, nothing past the last one, or a refusal
abbrev pub Read : Type 0
Read = Result (Option Entry) Refusal

abbrev pub entry : ℕ → ℕ → Entry
entry col value = record { col = col; value = value }

-- what was read, and the place to read next
abbrev pub step : Read → ℕ → Step
step r i = record { read = r; place = i }

-- the entry at place i, after which the next one is read; past the last entry the row is done
unfoldable pub entry_at : List ℕ → List ℕ → ℕ → Step
entry_at cols vals i = cond (ltb i (length vals)) (step (Ok (Some (entry (get_or cols i 0) (get_or vals i 0)))) (i + 1)) (step (Ok None) i)

-- a refusal leaves the place as it is
unfoldable pub unless_refused : Tested → ℕ → Step → Step
unless_refused (Err r) i s = step (Err r) i
unless_refused (Ok _) i s = s

-- `peek` and `entry_at`: what stands at place i, or the lower of 2 and 3 that applies
unfoldable pub step_at : List ℕ → List ℕ → ℕ → Step
step_at cols vals i = unless_refused (lengths_test cols vals) i (entry_at cols vals i)

-- `reader_at`: a reader holds the row that it was given
abbrev pub reader_at : Bor (List ℕ) → Bor (List ℕ) → ℕ → Reader
reader_at cols vals i = record { cols = cols; vals = vals; place = i }

-- `next`: what stands at the reader's place, and the reader at the place to read next
unfoldable pub next_of : Reader → Outcome Read Reader
next_of r = let s = step_at r.cols.now r.vals.now r.place in outcome s.read (reader_at r.cols r.vals s.place)
