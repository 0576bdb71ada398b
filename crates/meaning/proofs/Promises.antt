-- For each public call: two outcomes that meet its promise are equal.
-- Assumes nothing.
use mathlib.Core.Path.{◌≡◌}
use mathlib.Core.List.{List}
use Prim.Native.Nat.{ℕ}
use Rattle.sparse.specs.Refusals.{Tested}
use Rattle.sparse.specs.Put.{Built}
use Rattle.lists.proofs.Only.{only}
use Rattle.sparse.specs.Lent.{Lent, Outcome}
use Rattle.sparse.specs.Matrix.{Matrix}
use Rattle.sparse.specs.Tests.{well_formed, clean, well_formed_vector}
use Rattle.triplets.specs.Triplets.{from_triplets}

pub try_from_csr_only : (p : ℕ) (m : Matrix) {r s : Tested} → r ≡ well_formed 65536 p m → s ≡ well_formed 65536 p m → r ≡ s
try_from_csr_only p m = only

pub try_from_csr_clean_only : (p : ℕ) (m : Matrix) {r s : Tested} → r ≡ clean 65536 p m → s ≡ clean 65536 p m → r ≡ s
try_from_csr_clean_only p m = only

pub try_from_csr_vector_only : (p len : ℕ) (idcs vals : List ℕ) {r s : Tested} → r ≡ well_formed_vector 65536 p len idcs vals → s ≡ well_formed_vector 65536 p len idcs vals → r ≡ s
try_from_csr_vector_only p len idcs vals = only

pub from_triplets_only : (p nrows ncols : ℕ) (rows cols vals : List ℕ) (l : Lent) {o u : Outcome Built Lent} → o ≡ from_triplets p nrows ncols rows cols vals l → u ≡ from_triplets p nrows ncols rows cols vals l → o ≡ u
from_triplets_only p nrows ncols rows cols vals l = only
