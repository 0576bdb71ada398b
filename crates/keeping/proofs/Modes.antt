-- What is kept of L decides nothing else: answers, U and pivots are the same in every mode, and Pattern's L is Full's without values.
-- Assumes nothing.
use Rattle.std.specs.Prelude.{None, Some}
use mathlib.Core.Path.{◌≡◌, refl, sym, subst, ◌∙◌}
use mathlib.Core.Logic.{⊎_elim}
use mathlib.Core.Bool.{Bool}
use mathlib.Core.List.{List}
use Prim.Native.Nat.{ℕ}
use Rattle.lists.proofs.Find.{told}
use Rattle.sparse.specs.Lent.{Outcome}
use Rattle.sparse.specs.Rows.{Entry}
use Rattle.state.specs.Fresh.{counts, keeps}
use Rattle.state.specs.Memory.{Memory, memory}
use Rattle.state.specs.declared.Counts.{Counts}
use Rattle.state.specs.declared.Mode.{Mode}
use Rattle.state.specs.declared.Mode.TheVariants.{Full, Pattern}
use Rattle.walk.specs.Step.{Taken, Answer}
use Rattle.steps.specs.History.{at_once}
use Rattle.taking.specs.Stores.{with_u, with_l, kept_entries}
use Rattle.stepping.specs.Take.{Lists, lists, step_of, counts_after, stored, step_row}
use Rattle.stepping.specs.declared.Stepped.{Stepped}
use Rattle.keeping.proofs.Ways.{at_once_done, walk_done, at_once_step, walk_step}

-- counts and memory that differ in L and its mode alone
pub record Alike (c d : Counts) (m n : Memory) : Type 0 where
  pub modulus : c.modulus ≡ d.modulus
  pub ncols : c.ncols ≡ d.ncols
  pub rank : c.rank ≡ d.rank
  pub fill : c.u_fill ≡ d.u_fill
  pub cols : m.u_cols ≡ n.u_cols
  pub vals : m.u_vals ≡ n.u_vals
  pub ptrs : m.u_ptrs ≡ n.u_ptrs
  pub pivots : m.pivots ≡ n.pivots

-- and answers that are the same
pub record Agree (a b : Outcome Stepped Lists) : Type 0 where
  pub answer : a.answer.answer ≡ b.answer.answer
  pub rest : Alike a.answer.counts b.answer.counts a.memory.memory b.memory.memory

-- two steps that go the same way
both_ways : (on : Bool) (c d : Counts) (es : List Entry) (o q : Lists) (P : Outcome Stepped Lists → Outcome Stepped Lists → Type 0) → at_once c.ncols c.rank es ≡ at_once d.ncols d.rank es → P (at_once_done c o) (at_once_done d q)
    → P (walk_done c (step_of on c es o.memory) o) (walk_done d (step_of on d es q.memory) q) → P (step_row on c es o) (step_row on d es q)
both_ways on c d es o q P same once walks =
    ⊎_elim (λ e. rw (at_once_step on c es o e, at_once_step on d es q (sym same ∙ e)) once) (λ e. rw (walk_step on c es o e, walk_step on d es q (sym same ∙ e)) walks) (told (at_once c.ncols c.rank es))

-- U, its counts and the pivots are given once; two modes, and for each its L, L's counts and dense memory
module _ (on : Bool) (es : List Entry) (p n rank fill : ℕ) (cols vals ptrs pivots : List ℕ) (a b : Mode) (ar af br bf : ℕ) (ac av ap bc bv bp : List ℕ) (ad bd : List ℕ) where
  abbrev c : Counts
  c = counts a p n rank fill ar af

  abbrev d : Counts
  d = counts b p n rank fill br bf

  abbrev m : Memory
  m = memory cols vals ptrs ac av ap pivots

  abbrev k : Memory
  k = memory cols vals ptrs bc bv bp pivots

  abbrev t : Taken
  t = step_of on c es m

  stored_alike : (x : Answer) → Alike (counts_after c x t) (counts_after d x t) (stored c x t m) (stored d x t k)
  unfolding counts_after stored with_u
  stored_alike (Some g) = record { modulus = refl; ncols = refl; rank = refl; fill = refl; cols = refl; vals = refl; ptrs = refl; pivots = refl }
  stored_alike None = record { modulus = refl; ncols = refl; rank = refl; fill = refl; cols = refl; vals = refl; ptrs = refl; pivots = refl }

  parts_agree : Agree (step_row on c es (lists m ad)) (step_row on d es (lists k bd))
  unfolding step_of
  parts_agree = both_ways on c d es (lists m ad) (lists k bd) Agree refl
      (record { answer = refl; rest = record { modulus = refl; ncols = refl; rank = refl; fill = refl; cols = refl; vals = refl; ptrs = refl; pivots = refl } })
      (record { answer = refl; rest = stored_alike t.answer })

-- a step answers alike in every mode, and leaves U, pivots and their counts alike
pub modes_agree : (on : Bool) (es : List Entry) (c d : Counts) (o q : Lists) → Alike c d o.memory q.memory → Agree (step_row on c es o) (step_row on d es q)
modes_agree on es c d o q same =
    subst (Agree (step_row on c es o))
    (λ i. step_row on (counts d.mode (same.modulus i) (same.ncols i) (same.rank i) (same.fill i) d.l_rows d.l_fill) es (lists (memory (same.cols i) (same.vals i) (same.ptrs i) q.memory.l_cols q.memory.l_vals q.memory.l_ptrs (same.pivots i)) q.dense))
    (parts_agree on es c.modulus c.ncols c.rank c.u_fill o.memory.u_cols o.memory.u_vals o.memory.u_ptrs o.memory.pivots c.mode d.mode c.l_rows c.l_fill d.l_rows d.l_fill
    o.memory.l_cols o.memory.l_vals o.memory.l_ptrs q.memory.l_cols q.memory.l_vals q.memory.l_ptrs o.dense q.dense)

-- L's counts, columns and pointers are the same
pub record SameL (c d : Counts) (m n : Memory) : Type 0 where
  pub rows : c.l_rows ≡ d.l_rows
  pub fill : c.l_fill ≡ d.l_fill
  pub cols : m.l_cols ≡ n.l_cols
  pub ptrs : m.l_ptrs ≡ n.l_ptrs

-- after two steps too, and the values of the first are as they came
pub record Patterned (vals : List ℕ) (a b : Outcome Stepped Lists) : Type 0 where
  pub same : SameL a.answer.counts b.answer.counts a.memory.memory b.memory.memory
  pub vals_kept : a.memory.memory.l_vals ≡ vals

-- all is given once but L's values and dense memory
module _ (on : Bool) (es : List Entry) (p n rank fill rows entries : ℕ) (cols vals ptrs pivots lc av bv lp ad bd : List ℕ) where
  abbrev pattern : Counts
  pattern = counts Pattern p n rank fill rows entries

  abbrev full : Counts
  full = counts Full p n rank fill rows entries

  abbrev bare : Memory
  bare = memory cols vals ptrs lc av lp pivots

  abbrev whole : Memory
  whole = memory cols vals ptrs lc bv lp pivots

  abbrev comes : Taken
  comes = step_of on pattern es bare

  stored_patterned : (x : Answer) → SameL (counts_after pattern x comes) (counts_after full x comes) (stored pattern x comes bare) (stored full x comes whole) × ((stored pattern x comes bare).l_vals ≡ av)
  unfolding counts_after stored with_l kept_entries keeps
  stored_patterned (Some g) = (record { rows = refl; fill = refl; cols = refl; ptrs = refl }, refl)
  stored_patterned None = (record { rows = refl; fill = refl; cols = refl; ptrs = refl }, refl)

  parts_patterned : Patterned av (step_row on pattern es (lists bare ad)) (step_row on full es (lists whole bd))
  unfolding step_of
  parts_patterned = both_ways on pattern full es (lists bare ad) (lists whole bd) (Patterned av) refl
      (record { same = record { rows = refl; fill = refl; cols = refl; ptrs = refl }; vals_kept = refl })
      (let s = stored_patterned comes.answer in record { same = s.0; vals_kept = s.1 })

-- Pattern's L is Full's but for the values, which stay as they came
pub pattern_is_full : (on : Bool) (es : List Entry) (c d : Counts) (o q : Lists) → c.mode ≡ Pattern → d.mode ≡ Full → Alike c d o.memory q.memory → SameL c d o.memory q.memory
    → Patterned o.memory.l_vals (step_row on c es o) (step_row on d es q)
pattern_is_full on es c d o q pattern full same l =
    subst (λ (a : Outcome Stepped Lists). Patterned o.memory.l_vals a (step_row on d es q))
    (λ i. step_row on (counts (sym pattern i) c.modulus c.ncols c.rank c.u_fill c.l_rows c.l_fill) es o)
    (subst (Patterned o.memory.l_vals (step_row on (counts Pattern c.modulus c.ncols c.rank c.u_fill c.l_rows c.l_fill) es o))
    (λ i. step_row on (counts (sym full i) (same.modulus i) (same.ncols i) (same.rank i) (same.fill i) (l.rows i) (l.fill i)) es (lists (memory (same.cols i) (same.vals i) (same.ptrs i) (l.cols i) q.memory.l_vals (l.ptrs i) (same.pivots i)) q.dense))
    (parts_patterned on es c.modulus c.ncols c.rank c.u_fill c.l_rows c.l_fill o.memory.u_cols o.memory.u_vals o.memory.u_ptrs o.memory.pivots o.memory.l_cols o.memory.l_vals q.memory.l_vals o.memory.l_ptrs o.dense q.dense))
