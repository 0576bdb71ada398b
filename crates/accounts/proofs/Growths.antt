-- The spans of U's first rows and of the accepted rows: they agree, and grow alike with an accepted row.
-- Assumes nothing.
use mathlib.Core.Path.{◌≡◌, refl, sym, ap, subst, ◌∙◌}
use mathlib.Core.List.{List, [], ◌∷◌, ◌++◌}
use Prim.Native.Nat.{ℕ, suc, ◌+◌, ◌*◌, ◌%◌, ◌<◌}
use native.Mathlib.Nat.{not-suc-le-zero}
use native.Mathlib.Numerals.{add-one}
use native.Mathlib.Omega.{arith}
use lib.ListN.{length, length-append, get_or-append}
use lib.Seq.{get_or_at}
use Rattle.field.specs.Prime.{Prime}
use Rattle.linear.proofs.Span.{Span, span_same, span_row, span_add, span_mul, span_more, span_trans}
use Rattle.sparse.specs.Rows.{Entry}
use Rattle.steps.specs.History.{values_in}
use Rattle.steps.specs.Rows.{value_of, Storable}
use Rattle.steps.proofs.Lasts.{up_to}
use Rattle.accounts.proofs.Diagonals.{diagonal_span}

-- the k rows rs span what the first k rows u do
pub record Agree (p n : ℕ) (u : ℕ → ℕ → ℕ) (k : ℕ) (rs : List (List Entry)) : Type 0 where
  pub many : length rs ≡ k
  pub to : (i : ℕ) → i < k → Span p n k (values_in rs) (u i)
  pub from : (i : ℕ) → i < k → Span p n k u (values_in rs i)

pub agree_none : {p n : ℕ} {u : ℕ → ℕ → ℕ} → Agree p n u 0 []
agree_none = record { many = refl; to = λ i l. absurd (not-suc-le-zero l); from = λ i l. absurd (not-suc-le-zero l) }

-- one row more, which is s, of the span, and a multiple of u's row k
module _ {p n k : ℕ} {u : ℕ → ℕ → ℕ} {rs : List (List Entry)} (prime : Prime p) (agree : Agree p n u k rs) (es : List Entry)
    {s : ℕ → ℕ} {v : ℕ} (spanned : Span p n k u s) (stored : Storable p v) (sums : (j : ℕ) → j < n → value_of es j % p ≡ (s j + v * u k j) % p) where
  abbrev all : List (List Entry)
  all = rs ++ (es ∷ [])

  old_row : (i : ℕ) → i < k → values_in all i ≡ values_in rs i
  old_row i l = ap value_of (get_or-append rs (es ∷ []) [] i (omega (arith, agree.many)))

  new_row : values_in all k ≡ value_of es
  new_row = ap value_of (get_or_at rs es [] [] k agree.many)

  kept : (i : ℕ) → i < k → Span p n (suc k) (values_in all) (values_in rs i)
  kept i l = subst (Span p n (suc k) (values_in all)) (old_row i l) (span_row i (omega arith))

  added : Span p n (suc k) (values_in all) (value_of es)
  added = subst (Span p n (suc k) (values_in all)) new_row (span_row k (omega arith))

  pub agree_more : Agree p n u (suc k) all
  agree_more = record {
    many = length-append rs (es ∷ []) ∙ add-one (length rs) ∙ ap suc agree.many;
    to = up_to (λ i. Span p n (suc k) (values_in all) (u i)) k (diagonal_span prime stored sums (span_trans (λ i l. span_trans kept (agree.to i l)) spanned) added) (λ i l. span_trans kept (agree.to i l));
    from = up_to (λ i. Span p n (suc k) u (values_in all i)) k
        (subst (Span p n (suc k) u) (sym new_row) (span_same sums (span_add (span_more spanned) (span_mul v (span_row k (omega arith))))))
        (λ i l. subst (Span p n (suc k) u) (sym (old_row i l)) (span_more (agree.from i l)));
  }
