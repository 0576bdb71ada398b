-- The first line and the comments, byte by byte.
use mathlib.Core.Path.{◌≡◌, refl, sym, ◌∙◌}
use mathlib.Core.Bool.{Bool, true, false, not, ◌&&◌}
use mathlib.Core.List.{List, [], ◌∷◌}
use Prim.Native.Nat.{ℕ, suc, ◌+◌, ◌≤◌, ◌<◌}
use native.Mathlib.Decide.{ℕ_discrete}
use lib.Dec.{eqb}
use lib.ListN.{length, take, drop, get_or}
use borrow.Author.Tests.{eq-eqb, ne_eqb}
use Rattle.std.specs.Cmp.Lexicographic.{pointwise}
use Rattle.market.specs.Grammar.{feed, percent}
use Rattle.market.specs.Parse.{nothing, past, uncomment}
use Rattle.market.specs.Places.{front_read}
use Rattle.market.proofs.Places.{byte_at, none_left}

-- one byte of a front
pub past_turn : (f b : ℕ) (fs bs : List ℕ) {x : Bool} → eqb b f ≡ x → past (f ∷ fs) (b ∷ bs) ≡ elim x [ true ↦ past fs bs | false ↦ nothing ]
unfolding past
past_turn f b fs bs e = λ i. elim (e i) [ true ↦ past fs bs | false ↦ nothing ]

-- whether the text starts with the front, as std tells it
further : (b : ℕ) (bs : List ℕ) (n : ℕ) (x : Bool) → front_read (b ∷ bs) (suc n) x ≡ front_read bs n x
unfolding front_read
further b bs n true = refl
further b bs n false = refl

pub front_starts : (front text : List ℕ) → front_read text (length front) (pointwise eqb front (take (length front) text)) ≡ past front text
unfolding front_read past
front_starts [] text = refl
front_starts (f ∷ fs) [] = refl
front_starts (f ∷ fs) (b ∷ bs) = go (ℕ_discrete f b) (front_starts fs bs)
  where
    go : Dec (f ≡ b) → front_read bs (length fs) (pointwise eqb fs (take (length fs) bs)) ≡ past fs bs
        → front_read (b ∷ bs) (suc (length fs)) (eqb f b && pointwise eqb fs (take (length fs) bs)) ≡ past (f ∷ fs) (b ∷ bs)
    go (yes e) ih = rw (eq-eqb f b e) (further b bs (length fs) _ ∙ ih ∙ sym (past_turn f b fs bs (eq-eqb b f (sym e))))
    go (no ne) ih = rw (ne_eqb f b ne) (sym (past_turn f b fs bs (ne_eqb b f (λ e. ne (sym e)))))

-- one byte of comments: within one,
pub within_turn : (b : ℕ) (bs : List ℕ) → uncomment true (b ∷ bs) ≡ uncomment (not (eqb b feed)) bs
unfolding uncomment
within_turn b bs = go (eqb b feed)
  where
    go : (x : Bool) → elim x [ true ↦ uncomment false bs | false ↦ uncomment true bs ] ≡ uncomment (not x) bs
    go true = refl
    go false = refl

-- and outside
pub outside_turn : (b : ℕ) (bs : List ℕ) {x : Bool} → eqb b percent ≡ x → uncomment false (b ∷ bs) ≡ elim x [ true ↦ uncomment true bs | false ↦ b ∷ bs ]
unfolding uncomment
outside_turn b bs e = λ i. elim (e i) [ true ↦ uncomment true bs | false ↦ b ∷ bs ]

module _ (text : List ℕ) (i : ℕ) where
  -- the text ends,
  pub comments_end : (within : Bool) → length text ≤ i → drop i text ≡ uncomment within (drop i text)
  unfolding uncomment
  comments_end true l = rw (none_left text i l)
  comments_end false l = rw (none_left text i l)

  module _ (l : i < length text) where
    -- or goes on within a comment,
    pub comments_within : uncomment true (drop i text) ≡ uncomment (not (eqb (get_or text i 0) feed)) (drop (i + 1) text)
    comments_within = rw (byte_at text i l) (within_turn _ _)

    -- or starts one,
    pub comments_more : get_or text i 0 ≡ percent → uncomment false (drop i text) ≡ uncomment true (drop (i + 1) text)
    comments_more e = rw (byte_at text i l) (outside_turn _ _ (eq-eqb _ _ e))

    -- or is past them
    pub comments_none : (get_or text i 0 ≡ percent → ⊥) → drop i text ≡ uncomment false (drop i text)
    comments_none e = rw (byte_at text i l) (sym (outside_turn _ _ (ne_eqb _ _ e)))
