-- Reduced rows are unique for their span, up to order.
-- Assumes nothing.
use mathlib.Core.Path.{◌≡◌, sym, ap, ◌∙◌}
use mathlib.Core.Logic.{⊎_elim}
use mathlib.Core.Bool.{true, false}
use Prim.Native.Nat.{ℕ, ◌%◌, ◌≤◌, ◌<◌}
use native.Mathlib.Nat.{mod-eq_of_lt}
use native.Mathlib.Decide.{ℕ_discrete}
use native.Mathlib.Omega.{arith}
use borrow.Author.Tests.{eqb-true, eqb-false}
use lib.Dec.{eqb}
use Rattle.lists.specs.Find.{any}
use Rattle.lists.proofs.Find.{told, any_some, any_false}
use Rattle.linear.proofs.Heads.{Heads, span_before}
use Rattle.linear.proofs.Span.{Span, span_row}
use Rattle.reduced.specs.Reduced.{Reduced, SameSpan, Among}
use Rattle.reduced.proofs.Distincts.{distinct_among}
use Rattle.reduced.proofs.Values.{heads_decide}

-- a row of the span that begins with 1 at column c: some row has its head there
pub head_there : {p n k : ℕ} {r : ℕ → ℕ → ℕ} {h : ℕ → ℕ} → 2 ≤ p → Heads p n k r h → {x : ℕ → ℕ} → Span p n k r x → (c : ℕ) → c < n → x c % p ≡ 1 % p → ((j : ℕ) → j < c → x j % p ≡ 0 % p) → (i : ℕ) × (i < k) × (h i ≡ c)
head_there {p} {n} {k} {r} {h} two heads {x} span c low one before = ⊎_elim found missing (told (any k (λ i. eqb (h i) c)))
  where
    found : any k (λ i. eqb (h i) c) ≡ true → (i : ℕ) × (i < k) × (h i ≡ c)
    found e = let w = any_some k (λ i. eqb (h i) c) e in (w.0, w.1, eqb-true (h w.0) c w.2)

    missing : any k (λ i. eqb (h i) c) ≡ false → (i : ℕ) × (i < k) × (h i ≡ c)
    missing e =
        let none : x c % p ≡ 0 % p = span_before p n k r h heads span c low (λ i b. eqb-false (h i) c (any_false k (λ i. eqb (h i) c) e i b)) before in
        absurd (omega (arith, none, one, mod-eq_of_lt (let b : 0 < p = omega arith in b), mod-eq_of_lt (let b : 1 < p = omega arith in b)))

module _ {p n k l : ℕ} {r s : ℕ → ℕ → ℕ} {h g : ℕ → ℕ} (two : 2 ≤ p) (a : Reduced p n k r h) (b : Reduced p n l s g) (spans : SameSpan p n k r l s) where
  -- each head of the one is a head of the other
  shared : (i : ℕ) → i < k → (j : ℕ) × (j < l) × (g j ≡ h i)
  shared i q = head_there two b.heads ((spans.same (r i)).0 (span_row i q)) (h i) (a.heads.within i q) (a.heads.one i q) (a.heads.before i q)

  module _ (i : ℕ) (q : i < k) (j : ℕ) (w : j < l) (meet : g j ≡ h i) where
    -- the rows with that head agree at every head
    agree : (e : ℕ) → e < k → s j (h e) % p ≡ r i (h e) % p
    agree e t = go (ℕ_discrete i e)
      where
        go : Dec (i ≡ e) → s j (h e) % p ≡ r i (h e) % p
        go (yes same) =
            ap (λ (c : ℕ). s j c % p) (ap h (sym same) ∙ sym meet)
            ∙ b.heads.one j w
            ∙ sym (a.heads.one i q)
            ∙ ap (λ (c : ℕ). r i (h c) % p) same
        go (no other) =
            let m = shared e t in
            ap (λ (z : ℕ). z % p)
            (ap (s j) (sym m.2) ∙ b.clear j m.0 w m.1 (λ z. other (a.heads.apart i e q t (sym meet ∙ ap g z ∙ m.2))) ∙ sym (a.clear i e q t other))

    equal : (c : ℕ) → c < n → s j c ≡ r i c
    equal c t =
        sym (mod-eq_of_lt (b.small j w c t))
        ∙ heads_decide a ((spans.same (s j)).1 (span_row j w)) (span_row i q) agree c t
        ∙ mod-eq_of_lt (a.small i q c t)

  -- each row of the one is a row of the other, with the same head
  pub reduced_unique : (i : ℕ) → i < k → Among n (r i) (h i) l s g
  reduced_unique i q = let m = shared i q in record { place = m.0; within = m.1; head = m.2; values = equal i q m.0 m.1 m.2 }

  no_more : k ≤ l
  no_more = distinct_among k l h g (record { same = a.heads.apart }) shared

-- rows that span the same, the other way round and in turn
pub span_back : {p n k l : ℕ} {r s : ℕ → ℕ → ℕ} → SameSpan p n k r l s → SameSpan p n l s k r
span_back spans = record { same = λ y. ((spans.same y).1, (spans.same y).0) }

pub span_join : {p n k l m : ℕ} {r s t : ℕ → ℕ → ℕ} → SameSpan p n k r l s → SameSpan p n l s m t → SameSpan p n k r m t
span_join a b = record { same = λ y. ((λ x. (b.same y).0 ((a.same y).0 x)), (λ x. (a.same y).1 ((b.same y).1 x))) }

-- and they are as many
pub reduced_count : {p n k l : ℕ} {r s : ℕ → ℕ → ℕ} {h g : ℕ → ℕ} → 2 ≤ p → Reduced p n k r h → Reduced p n l s g → SameSpan p n k r l s → k ≡ l
reduced_count two a b spans = omega (arith, no_more two a b spans, no_more two b a (span_back spans))
