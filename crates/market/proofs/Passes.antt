-- The entries tested in one pass over their lines: what each turn comes to, and that the verdict is `market_test`'s.
-- Assumes nothing.
use Rattle.std.specs.Prelude.{Err, None, Some, Option}
use mathlib.Core.Path.{◌≡◌, refl, sym, ap, ◌∙◌}
use mathlib.Core.Bool.{Bool, true, false, not, ◌&&◌, ◌||◌, or-false, or_assoc}
use mathlib.Core.List.{List, [], ◌∷◌}
use Prim.Native.Nat.{ℕ, suc, ◌-◌, ◌≤◌, ◌<◌}
use native.Mathlib.Omega.{arith}
use lib.Dec.{leb, ltb, eqb}
use lib.ListN.{length, drop}
use borrow.Author.Tests.{lt-ltb, le-ltb}
use Rattle.sparse.specs.Refusals.{lowest, refuse, Tested}
use Rattle.sparse.specs.declared.Refusal.TheVariants.{Size, Value, Zero, Outside, Order, Text}
use Rattle.triplets.specs.Triplets.{Triplet, triplet, before}
use Rattle.market.specs.Faults.{none, note, note_all, oversize, verdict_of, walk_on, walk_read, Walked}
use Rattle.market.specs.Parse.{Read, nothing, got, ◌then◌, line, lines, size_line, market_of, whole, market}
use Rattle.market.specs.Places.{line_read}
use Rattle.market.specs.Tests.{modulus, some, outside, rises, entries_test, read_test, market_test}
use Rattle.market.specs.declared.lines.Numbers.{Numbers}
use Rattle.market.specs.declared.tests.Faults.{Faults}
use Rattle.market.proofs.Heads.{lines_length}
use Rattle.market.proofs.Places.{byte_at, none_left}

-- where lines are left, they are one more than those after the first
pub one_more : (k : ℕ) → 0 < k → k ≡ suc (k - 1)
one_more k h = omega arith

module _ (nrows ncols : ℕ) (f : Faults) (text : List ℕ) (at left : ℕ) where
  module _ (l : 0 < left) {r : Option Numbers} (read : line_read text r ≡ line (drop at text)) where
    -- a line is none,
    pub walk_broken : r ≡ None → walk_on nrows ncols f left (drop at text) ≡ nothing
    unfolding walk_on lines ◌then◌ line_read
    walk_broken e = rw (one_more left l, ← read, e)

    -- or it is an entry more,
    pub walk_more : {t : Numbers} → r ≡ Some t
        → walk_on nrows ncols f left (drop at text) ≡ walk_on nrows ncols (note nrows ncols f (triplet t.row t.col t.value)) (left - 1) (drop t.next text)
    unfolding walk_on lines note_all ◌then◌ line_read
    walk_more {t} e = ap (λ (k : ℕ). walk_on nrows ncols f k (drop at text)) (one_more left l) ∙ rw (← read, e) (go (lines (left - 1) (drop t.next text)))
      where
        go : (x : Read (List Triplet)) → x then (λ ts end. got (triplet t.row t.col t.value ∷ ts) end) then (λ ts end. got (note_all nrows ncols f ts) end) ≡ x then (λ ts end. got (note_all nrows ncols (note nrows ncols f (triplet t.row t.col t.value)) ts) end)
        go nothing = refl
        go (got ts end) = refl

  -- or no line is left: something follows it,
  pub walk_over : left ≤ 0 → at < length text → whole (walk_on nrows ncols f left (drop at text)) ≡ nothing
  unfolding walk_on lines note_all ◌then◌ whole
  walk_over l h = let e : left ≡ 0 = omega arith in rw (e, byte_at text at h)

  -- or nothing
  pub walk_end : left ≤ 0 → length text ≤ at → whole (walk_on nrows ncols f left (drop at text)) ≡ got f []
  unfolding walk_on lines note_all ◌then◌ whole
  walk_end l h = let e : left ≡ 0 = omega arith in rw (e, none_left text at h)

-- one of two fails
not_and : (x y : Bool) → not (x && y) ≡ not x || not y
not_and true y = refl
not_and false y = refl

module _ (nrows ncols : ℕ) where
  -- each fault of a pass is that of some entry
  pass_large : (f : Faults) (ts : List Triplet) → (note_all nrows ncols f ts).large ≡ f.large || some (λ t. leb modulus t.value) ts
  unfolding note_all note some
  pass_large f [] = sym (or-false _)
  pass_large f (t ∷ ts) = pass_large (note nrows ncols f t) ts ∙ or_assoc f.large (leb modulus t.value) (some (λ t. leb modulus t.value) ts)

  pass_zero : (f : Faults) (ts : List Triplet) → (note_all nrows ncols f ts).zero ≡ f.zero || some (λ t. eqb t.value 0) ts
  unfolding note_all note some
  pass_zero f [] = sym (or-false _)
  pass_zero f (t ∷ ts) = pass_zero (note nrows ncols f t) ts ∙ or_assoc f.zero (eqb t.value 0) (some (λ t. eqb t.value 0) ts)

  pass_outside : (f : Faults) (ts : List Triplet) → (note_all nrows ncols f ts).outside ≡ f.outside || some (outside nrows ncols) ts
  unfolding note_all note some
  pass_outside f [] = sym (or-false _)
  pass_outside f (t ∷ ts) = pass_outside (note nrows ncols f t) ts ∙ or_assoc f.outside (outside nrows ncols t) (some (outside nrows ncols) ts)

  -- the place alone counts
  rises_place : (t : Triplet) (ts : List Triplet) → rises (triplet t.row t.col 0) ts ≡ rises t ts
  unfolding rises before
  rises_place t [] = refl
  rises_place t (u ∷ ts) = refl

  pass_order : (f : Faults) (ts : List Triplet) → (note_all nrows ncols f ts).order ≡ f.order || not (rises (triplet f.row f.col 0) ts)
  unfolding note_all note rises
  pass_order f [] = sym (or-false _)
  pass_order f (t ∷ ts) =
      pass_order (note nrows ncols f t) ts
      ∙ or_assoc f.order (not (before (triplet f.row f.col 0) t)) _
      ∙ ap (λ (x : Bool). f.order || x)
      (ap (λ (x : Bool). not (before (triplet f.row f.col 0) t) || not x) (rises_place t ts) ∙ sym (not_and (before (triplet f.row f.col 0) t) (rises t ts)))

  -- so that the verdict of a pass is the entries' test
  pub pass_verdict : {k : ℕ} (ts : List Triplet) → length ts ≡ k → entries_test nrows ncols ts ≡ verdict_of nrows ncols k (note_all nrows ncols none ts)
  unfolding entries_test verdict_of oversize none
  pass_verdict ts e =
      sym
      (λ i. lowest
      (refuse (oversize nrows ncols (sym e i)) Size
      ∷ refuse (pass_large none ts i) Value
      ∷ refuse (pass_zero none ts i) Zero
      ∷ refuse (pass_outside none ts i) Outside
      ∷ refuse (pass_order none ts i) Order
      ∷ []))

  -- what is answered after a pass
  unfoldable pub passed : ℕ → Read Faults → Tested
  passed k nothing = Err Text
  passed k (got f later) = verdict_of nrows ncols k f

  pub pass_tests : (k : ℕ) (bs : List ℕ) → read_test (whole (lines k bs then λ ts end. got (market_of nrows ncols ts) end)) ≡ passed k (whole (walk_on nrows ncols none k bs))
  unfolding read_test whole walk_on passed ◌then◌
  pass_tests k bs = go (lines k bs) refl
    where
      go : (r : Read (List Triplet)) → lines k bs ≡ r → read_test (whole (r then λ ts end. got (market_of nrows ncols ts) end)) ≡ passed k (whole (r then λ ts end. got (note_all nrows ncols none ts) end))
      go nothing e = refl
      go (got ts []) e = pass_verdict ts (lines_length k bs e)
      go (got ts (b ∷ later)) e = refl

-- what follows the length test
pub market_turn : (text : List ℕ) {x : Bool} → ltb 32768 (length text) ≡ x
    → market text ≡ elim x [ true ↦ nothing | false ↦ whole (size_line text then λ s later. lines s.value later then λ ts end. got (market_of s.row s.col ts) end) ]
unfolding market
market_turn text e = λ i. elim (e i) [ true ↦ nothing | false ↦ whole (size_line text then λ s later. lines s.value later then λ ts end. got (market_of s.row s.col ts) end) ]

-- a text is too long,
pub test_long : (text : List ℕ) → 32768 < length text → Err Text ≡ market_test text
unfolding market_test read_test
test_long text h = ap read_test (sym (market_turn text (lt-ltb _ _ h)))

module _ (text : List ℕ) (short : length text ≤ 32768) (l : Option Numbers) (size : line_read text l ≡ size_line text) where
  sizing : market_test text ≡ read_test (whole (line_read text l then λ s later. lines s.value later then λ ts end. got (market_of s.row s.col ts) end))
  unfolding market_test
  sizing = ap read_test (market_turn text (le-ltb _ _ short)) ∙ rw size

  -- or has no size line,
  pub test_sizeless : l ≡ None → Err Text ≡ market_test text
  unfolding line_read ◌then◌ whole read_test
  test_sizeless e = sym (rw e at sizing)

  module _ {s : Numbers} (has : l ≡ Some s) (w : Walked) (walked : walk_read w ≡ whole (walk_on s.row s.col none s.value (drop s.next text))) where
    walking : market_test text ≡ passed s.row s.col s.value (walk_read w)
    unfolding line_read ◌then◌
    walking = (rw has at sizing) ∙ pass_tests s.row s.col s.value (drop s.next text) ∙ ap (passed s.row s.col s.value) (sym walked)

    -- or not the lines that it says, or something after them,
    pub test_broken : w ≡ None → Err Text ≡ market_test text
    unfolding passed walk_read
    test_broken e = sym (rw e at walking)

    -- or is a text with its faults
    pub test_whole : {f : Faults} → w ≡ Some f → verdict_of s.row s.col s.value f ≡ market_test text
    unfolding passed walk_read
    test_whole e = sym (rw e at walking)
