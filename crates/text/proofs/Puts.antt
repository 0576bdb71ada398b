-- Bytes written one after the other: what a chain of writers leaves.
-- Assumes nothing.
use mathlib.Core.Path.{◌≡◌, refl, sym, ap, ◌∙◌}
use mathlib.Core.List.{List, [], ◌∷◌, ◌++◌}
use Prim.Native.Nat.{ℕ, suc, ◌+◌, ◌≤◌, ◌<◌}
use native.Mathlib.Nat.{add-zero, zero-add, add-suc, suc-add}
use native.Mathlib.Numerals.{add-one}
use native.Mathlib.Omega.{arith}
use lib.ListN.{length, take, drop, set, get_or, length-append}
use lib.Seq.{sets, sets-eq, length-sets, set_out, take-suc}
use Rattle.lists.specs.Onto.{◌onto◌}
use Rattle.text.specs.Writers.{Wrote}

-- bytes stored in two runs
pub sets_append {ℓ} : {A : Type ℓ} (l : List A) (i : ℕ) (xs ys : List A) → sets l i (xs ++ ys) ≡ sets (sets l i xs) (i + length xs) ys
sets_append l i [] ys = ap (λ (k : ℕ). sets l k ys) (sym (add-zero i))
sets_append l i (x ∷ xs) ys =
    sets_append (set l i x) (suc i) xs ys
    ∙ ap (λ (k : ℕ). sets (sets (set l i x) (suc i) xs) k ys) (suc-add i (length xs) ∙ sym (add-suc i (length xs)))

-- no byte
pub wrote_none : {at : ℕ} {text : List ℕ} → Wrote [] at text at text
wrote_none {at} = record { next = sym (add-zero at); stored = refl }

-- one byte within the text, and one past its end
pub wrote_within : {b at : ℕ} {text : List ℕ} → Wrote (b ∷ []) at text (at + 1) (set text at b)
wrote_within = record { next = refl; stored = refl }

pub wrote_past : {b at : ℕ} {text : List ℕ} → length text ≤ at → Wrote (b ∷ []) at text (at + 1) text
wrote_past {b} {at} {text} h = record { next = refl; stored = sym (set_out text at b h) }

-- one writer after another
pub wrote_then : {xs ys : List ℕ} {at next last : ℕ} {text left after : List ℕ} → Wrote xs at text next left → Wrote ys next left last after → Wrote (xs ++ ys) at text last after
wrote_then {xs} {ys} {at} {text} v w = record {
  next = omega (arith, v.next, w.next, length-append xs ys);
  stored = w.stored ∙ (λ i. sets (v.stored i) (v.next i) ys) ∙ sym (sets_append text at xs ys);
}

-- the same bytes in another form
pub wrote_as : {xs ys : List ℕ} {at next : ℕ} {text left : List ℕ} → xs ≡ ys → Wrote xs at text next left → Wrote ys at text next left
wrote_as e w = rw e at w

-- the text keeps its length
pub wrote_length : {xs : List ℕ} {at next : ℕ} {text left : List ℕ} → Wrote xs at text next left → length left ≡ length text
wrote_length {xs} {at} {text} w = ap length w.stored ∙ length-sets text at xs

-- bytes that fit, from the start
pub wrote_onto : {bytes text left : List ℕ} {next : ℕ} → Wrote bytes 0 text next left → length bytes ≤ length text → left ≡ bytes onto text
unfolding ◌onto◌
wrote_onto {bytes} {text} w h =
    let long : 0 + length bytes ≡ length bytes = zero-add (length bytes) in
    w.stored ∙ sets-eq bytes text 0 (omega arith) ∙ ap (λ (k : ℕ). bytes ++ drop k text) long

-- one byte more of those that are written in turn
pub take_more : (bytes : List ℕ) (i : ℕ) → i < length bytes → take i bytes ++ (get_or bytes i 0 ∷ []) ≡ take (i + 1) bytes
take_more bytes i h = rw add-one (sym (take-suc bytes i 0 h))
