-- Loops that gather: what they have at each turn.
-- Assumes nothing.
use mathlib.Core.Path.{◌≡◌, sym, ap, ◌∙◌}
use mathlib.Core.Bool.{Bool, true, false, not, and-false}
use mathlib.Core.List.{List, [], ◌∷◌, ◌++◌}
use Prim.Native.Nat.{ℕ, ◌+◌, ◌*◌, ◌%◌, ◌≤◌, ◌<◌}
use native.Mathlib.Numerals.{add-one}
use native.Mathlib.Omega.{arith}
use borrow.Author.Tests.{eq-eqb}
use lib.ListN.{length, set, get_or, take, length-append, length-map, get_or-map}
use Rattle.lists.specs.Gather.{gather}
use Rattle.lists.specs.Onto.{◌onto◌}
use Rattle.lists.proofs.Gathers.{gather_hit, gather_miss, gather_skip, gather_few}
use Rattle.lists.proofs.Ontos.{onto_nil, onto_more, copy_more, copy_all}
use Rattle.walk.specs.Left.{over}
use Rattle.storing.specs.Gathers.{stands, scaled}
use Rattle.storing.specs.declared.Part.{Part}
use Rattle.storing.specs.declared.Part.TheVariants.{Row, Multiple, Column}

-- what stands below `col` is written
pub record Gathered (k : ℕ → Bool) (f : ℕ → ℕ) (out₀ out : List ℕ) (len col : ℕ) : Type 0 where
  pub many : len ≡ length (gather k f col)
  pub front : out ≡ gather k f col onto out₀

pub gathered_none : (k : ℕ → Bool) (f : ℕ → ℕ) (out₀ : List ℕ) (a : ℕ) → ((j : ℕ) → j < a → k j ≡ false) → Gathered k f out₀ out₀ 0 a
unfolding gather
gathered_none k f out₀ a none =
    let e : gather k f a ≡ [] = gather_skip k f 0 a (omega arith) (λ j l. none j) in
    record { many = sym (ap length e); front = sym (ap (λ (x : List ℕ). x onto out₀) e ∙ onto_nil out₀) }

module _ (k : ℕ → Bool) (f : ℕ → ℕ) (b : ℕ) (out₀ : List ℕ) where
  module _ {out : List ℕ} {len col : ℕ} (g : Gathered k f out₀ out len col) (low : col < b) where
    pub gathered_miss : k col ≡ false → Gathered k f out₀ out len (col + 1)
    gathered_miss e =
        let same : gather k f (col + 1) ≡ gather k f col = ap (gather k f) (add-one col) ∙ gather_miss k f col e in
        record { many = g.many ∙ sym (ap length same); front = g.front ∙ sym (ap (λ (x : List ℕ). x onto out₀) same) }

    module _ (room : length (gather k f b) ≤ length out₀) (here : k col ≡ true) where
      more : gather k f (col + 1) ≡ gather k f col ++ (f col ∷ [])
      more = ap (gather k f) (add-one col) ∙ gather_hit k f col here

      longer : length (gather k f (col + 1)) ≡ len + 1
      longer = ap length more ∙ length-append (gather k f col) (f col ∷ []) ∙ ap (λ (n : ℕ). n + 1) (sym g.many)

      pub gathered_slot : len < length out₀
      gathered_slot = omega (arith, gather_few k f (col + 1) b (omega arith), longer)

      pub gathered_hit : {a : ℕ} → a ≡ f col → Gathered k f out₀ (set out len a) (len + 1) (col + 1)
      gathered_hit {a} e = record {
        many = sym longer;
        front =
            ap (λ (x : List ℕ). set x len a) g.front
            ∙ onto_more (gather k f col) out₀ len a (sym g.many) gathered_slot
            ∙ ap (λ (y : ℕ). (gather k f col ++ (y ∷ [])) onto out₀) e
            ∙ sym (ap (λ (x : List ℕ). x onto out₀) more);
      }

  pub gathered_all : {out : List ℕ} {len col : ℕ} → Gathered k f out₀ out len col → col ≡ b → (len ≡ length (gather k f b)) × (out ≡ gather k f b onto out₀)
  gathered_all g e = (g.many ∙ ap (λ (i : ℕ). length (gather k f i)) e, g.front ∙ ap (λ (i : ℕ). gather k f i onto out₀) e)

-- `scale`: so many entries written
module _ (p f : ℕ) (dense cols out₀ : List ℕ) (room : length cols ≤ length out₀) where
  scaled_long : length (scaled p f dense cols) ≡ length cols
  unfolding scaled
  scaled_long = length-map cols (λ j. get_or dense j 0 * f % p)

  pub scale_more : (k : ℕ) {a : ℕ} → k < length cols → a ≡ (get_or dense (get_or cols k 0) 0 * f) % p → set (take k (scaled p f dense cols) onto out₀) k a ≡ take (k + 1) (scaled p f dense cols) onto out₀
  unfolding scaled
  scale_more k {a} h e =
      ap (λ (x : ℕ). set (take k (scaled p f dense cols) onto out₀) k x) (e ∙ sym (get_or-map (λ j. get_or dense j 0 * f % p) cols k 0))
      ∙ copy_more (scaled p f dense cols) out₀ k (get_or dense 0 0 * f % p) (rw scaled_long h) (rw scaled_long room)

  pub scale_all : (k : ℕ) → length cols ≤ k → take k (scaled p f dense cols) onto out₀ ≡ scaled p f dense cols onto out₀
  scale_all k h = copy_all (scaled p f dense cols) out₀ k (rw scaled_long h)

-- nothing stands where dense memory is zero
pub stands_zero : (part : Part) (pivots dense : List ℕ) (limit j : ℕ) → get_or dense j 0 ≡ 0 → false ≡ stands part pivots dense limit j
unfolding stands
stands_zero Row pivots dense limit j e = rw (eq-eqb (get_or dense j 0) 0 e) (sym (and-false (over pivots limit j)))
stands_zero Multiple pivots dense limit j e = rw (eq-eqb (get_or dense j 0) 0 e) (sym (and-false (over pivots limit j)))
stands_zero Column pivots dense limit j e = rw (eq-eqb (get_or dense j 0) 0 e) (sym (and-false (not (over pivots limit j))))
