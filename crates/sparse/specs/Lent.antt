-- Lent memory, and what a call leaves there.
use Rattle.std.specs.Prelude.{ℕ, ◌+◌, ◌||◌, List, ltb, length, Err, Ok}
use Rattle.sparse.specs.Refusals.{refuse, Tested}
use Rattle.sparse.specs.declared.Refusal.{Refusal}
use Rattle.sparse.specs.declared.Refusal.TheVariants.{Room}

-- what is lent for a matrix
pub record Lent : Type 0 where
  pub row_ptrs : List ℕ
  pub col_idcs : List ℕ
  pub values : List ℕ

abbrev pub lent : List ℕ → List ℕ → List ℕ → Lent
lent ptrs cols vals = record { row_ptrs = ptrs; col_idcs = cols; values = vals }

-- 14: the pointers or the entries don't fit
unfoldable pub room_test : ℕ → ℕ → Lent → Tested
room_test rows entries l = refuse (ltb (length l.row_ptrs) (rows + 1) || ltb (length l.col_idcs) entries || ltb (length l.values) entries) Room

-- what is lent for a vector
pub record LentVector : Type 0 where
  pub idcs : List ℕ
  pub values : List ℕ

abbrev pub lent_vector : List ℕ → List ℕ → LentVector
lent_vector idcs vals = record { idcs = idcs; values = vals }

unfoldable pub vector_room_test : ℕ → LentVector → Tested
vector_room_test entries l = refuse (ltb (length l.idcs) entries || ltb (length l.values) entries) Room

-- what a call answers, and the lent memory afterwards
pub record Outcome (A M : Type 0) : Type 0 where
  pub answer : A
  pub memory : M

abbrev pub outcome : {A M : Type 0} → A → M → Outcome A M
outcome r m = record { answer = r; memory = m }

-- what a call comes to: a refusal leaves all lent memory as it came
unfoldable pub unless : {A M : Type 0} → (Refusal → A) → Tested → M → Outcome A M → Outcome A M
unless refused (Ok _) m o = o
unless refused (Err r) m o = outcome (refused r) m
