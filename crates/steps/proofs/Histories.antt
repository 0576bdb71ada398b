-- From a fresh start, both walks mixed: a row is answered None exactly if it is a combination of the rows accepted before it.
-- Assumes nothing.
use Rattle.std.specs.Prelude.{None, Some}
use mathlib.Core.Path.{◌≡◌, refl, sym, ap, subst, ◌∙◌}
use mathlib.Core.Logic.{◌↔◌}
use mathlib.Core.Bool.{Bool, true, false, not, cond}
use mathlib.Core.List.{List, [], ◌∷◌, ◌++◌, map, append-nil, map-append}
use Prim.Native.Nat.{ℕ, zero, suc, ◌<◌}
use native.Mathlib.Nat.{not-suc-le-zero}
use native.Mathlib.Numerals.{add-one}
use native.Mathlib.Omega.{arith}
use lib.ListN.{length, length-append, get_or-append}
use lib.Seq.{get_or_at}
use Rattle.lists.specs.Find.{keep}
use Rattle.lists.specs.Table.{table}
use Rattle.linear.specs.Combination.{Combination}
use Rattle.linear.proofs.Span.{Span, combination_span, span_combination, span_row, span_trans}
use Rattle.sparse.specs.Rows.{Entry}
use Rattle.walk.specs.Step.{Upper, is_none, Taken, step, Answer}
use Rattle.steps.specs.History.{answered, placed, extended, Told, told, accepted, values_in, NoPivots, Next, stays, grows, History, fresh, more}
use Rattle.steps.specs.Rows.{value_of, CleanRow}
use Rattle.steps.specs.Setting.{Inverts, Echelon, with_last, Grown}
use Rattle.steps.proofs.Answers.{answered_none, answered_step}
use Rattle.steps.proofs.Lasts.{last_there, last_before, last_all, spans_last, spans_before}
use Rattle.steps.proofs.Steps.{step_echelon, step_spans}
use Rattle.steps.proofs.Zeros.{row_small}

-- one more row on both sides
span_last : {p n k : ℕ} {r q : ℕ → ℕ → ℕ} (x : ℕ → ℕ) → ((i : ℕ) → i < k → Span p n k q (r i)) → (i : ℕ) → i < suc k → Span p n (suc k) (with_last k x q) (with_last k x r i)
span_last {p} {n} {k} {r} {q} x each =
    last_all k x r (λ i y. Span p n (suc k) (with_last k x q) y) (spans_last x q) (λ i l. span_trans (spans_before x q) (each i l))

-- U's k rows are in echelon form, and span what the k rows r do
pub record Held (p n k : ℕ) (r : ℕ → ℕ → ℕ) (u : Upper) : Type 0 where
  pub h : ℕ → ℕ
  pub echelon : Echelon p n k u h
  pub to : (i : ℕ) → i < k → Span p n k r (u.value i)
  pub from : (i : ℕ) → i < k → Span p n k u.value (r i)

pub held_same : {p n k : ℕ} {r q : ℕ → ℕ → ℕ} {u : Upper} → ((i : ℕ) → i < k → q i ≡ r i) → Held p n k r u → Held p n k q u
held_same {p} {n} {k} {r} {q} {u} same held = record {
  h = held.h;
  echelon = held.echelon;
  to = λ i l. span_trans (λ e b. subst (Span p n k q) (same e b) (span_row e b)) (held.to i l);
  from = λ i l. subst (Span p n k u.value) (sym (same i l)) (held.from i l);
}

-- the accepted rows after one more row
accepted_join : (ts us : List Told) → accepted (ts ++ us) ≡ accepted ts ++ accepted us
unfolding accepted keep
accepted_join [] us = refl
accepted_join (t ∷ ts) us = go (not (is_none t.answer)) (accepted_join ts us)
  where
    rest : List Told → List Told
    rest = keep (λ r. not (is_none r.answer))

    go : (b : Bool) → accepted (ts ++ us) ≡ accepted ts ++ accepted us → map (λ r. r.row) (cond b (t ∷ rest (ts ++ us)) (rest (ts ++ us))) ≡ map (λ r. r.row) (cond b (t ∷ rest ts) (rest ts)) ++ accepted us
    go true e = ap (λ (l : List (List Entry)). t.row ∷ l) e
    go false e = e

pub accepted_same : (ts : List Told) (es : List Entry) → accepted (ts ++ (told es None ∷ [])) ≡ accepted ts
unfolding accepted keep is_none
accepted_same ts es = accepted_join ts (told es None ∷ []) ∙ append-nil (accepted ts)

pub accepted_more : (ts : List Told) (es : List Entry) (g : ℕ) → accepted (ts ++ (told es (Some g) ∷ [])) ≡ accepted ts ++ (es ∷ [])
unfolding accepted keep is_none
accepted_more ts es g = accepted_join ts (told es (Some g) ∷ [])

values_more : (rs : List (List Entry)) (es : List Entry) (i : ℕ) → i < suc (length rs) → values_in (rs ++ (es ∷ [])) i ≡ with_last (length rs) (value_of es) (values_in rs) i
values_more rs es =
    last_all (length rs) (value_of es) (values_in rs) (λ i r. values_in (rs ++ (es ∷ [])) i ≡ r)
    (ap value_of (get_or_at rs es [] [] (length rs) refl))
    (λ i l. ap value_of (get_or-append rs (es ∷ []) [] i l))

-- at a fresh start
pub held_fresh : {p n : ℕ} {r : ℕ → ℕ → ℕ} {u : Upper} → NoPivots n u → Held p n 0 r u
held_fresh f = record {
  h = λ i. 0;
  echelon = record {
    heads = record { within = λ i l. absurd (not-suc-le-zero l); one = λ i l. absurd (not-suc-le-zero l); before = λ i l. absurd (not-suc-le-zero l); apart = λ i e l. absurd (not-suc-le-zero l) };
    table = record { wide = f.wide; long = f.long; holds = λ i l. absurd (not-suc-le-zero l); row = λ c l m. absurd (m (f.marks c l)); head = λ c l m. absurd (m (f.marks c l)) };
  };
  to = λ i l. absurd (not-suc-le-zero l);
  from = λ i l. absurd (not-suc-le-zero l);
}

module _ (p n : ℕ) (inverts : Inverts p) where
  -- one row taken
  pub held_grows : (on : Bool) (k : ℕ) (r : ℕ → ℕ → ℕ) (u : Upper) → Held p n k r u → (es : List Entry) → CleanRow p n es → (g : ℕ) (v : Upper) → (answered on p n k u es).answer ≡ Some g → Grown n k g u (answered on p n k u es).u v → Held p n (suc k) (with_last k (value_of es) r) v
  held_grows on k r u held es row g v e grown = record {
    h = with_last k g held.h;
    echelon = step_echelon on p n k u held.h inverts held.echelon es row found new;
    to = λ i l. span_trans (span_last (value_of es) held.to) ((step_spans on p n k u held.h inverts held.echelon es row found new).0 (span_row i l));
    from = λ i l. (step_spans on p n k u held.h inverts held.echelon es row found new).1 (span_last (value_of es) held.from i l);
  }
    where
      same : answered on p n k u es ≡ step on p n k u es
      same = answered_step on p n k u es g e

      found : (step on p n k u es).answer ≡ Some g
      found = ap (λ (t : Taken). t.answer) (sym same) ∙ e

      new : Grown n k g u (step on p n k u es).u v
      new = subst (λ (t : Taken). Grown n k g u t.u v) same grown

  held_next : (on : Bool) (ts : List Told) {u v : Upper} (es : List Entry) {a : Answer} → CleanRow p n es → Next on p n (length (accepted ts)) u es a v → Held p n (length (accepted ts)) (values_in (accepted ts)) u → Held p n (length (accepted (ts ++ (told es a ∷ [])))) (values_in (accepted (ts ++ (told es a ∷ [])))) v
  held_next on ts {u} es row (stays e) held = subst (λ (rs : List (List Entry)). Held p n (length rs) (values_in rs) u) (sym (accepted_same ts es)) held
  held_next on ts {u} es row (grows g v e grown) held =
      subst (λ (rs : List (List Entry)). Held p n (length rs) (values_in rs) v) (sym (accepted_more ts es g))
      (subst (λ (k : ℕ). Held p n k (values_in (accepted ts ++ (es ∷ []))) v) (sym (length-append (accepted ts) (es ∷ []) ∙ add-one (length (accepted ts))))
      (held_same (values_more (accepted ts) es) (held_grows on (length (accepted ts)) (values_in (accepted ts)) u held es row g v e grown)))

  held_all : {ts : List Told} {u : Upper} → History p n ts u → Held p n (length (accepted ts)) (values_in (accepted ts)) u
  unfolding accepted keep
  held_all (fresh u f) = held_fresh f
  held_all (more ts u past on es row a v next) = held_next on ts es row next (held_all past)

  -- then None is answered exactly for a combination of the rows r
  pub held_none : {k : ℕ} {r : ℕ → ℕ → ℕ} {u : Upper} → Held p n k r u → (on : Bool) (es : List Entry) → CleanRow p n es → ((answered on p n k u es).answer ≡ None) ↔ Combination p n k r (value_of es)
  held_none {k} {r} {u} held on es row =
      ((λ e. combination (span_trans held.to (combination_span (exact.0 e)))), (λ c. exact.1 (combination (span_trans held.from (combination_span c)))))
    where
      combination : {q : ℕ → ℕ → ℕ} → Span p n k q (value_of es) → Combination p n k q (value_of es)
      combination = span_combination (omega (arith, inverts.least)) (λ j l. row_small (omega (arith, inverts.least)) row j)

      exact : ((answered on p n k u es).answer ≡ None) ↔ Combination p n k u.value (value_of es)
      exact = answered_none on p n k u held.h inverts held.echelon es row

  module _ {ts : List Told} {u : Upper} (past : History p n ts u) where
    -- U is in echelon form
    pub history_echelon : (h : ℕ → ℕ) × Echelon p n (length (accepted ts)) u h
    history_echelon = ((held_all past).h, (held_all past).echelon)

    -- its rows span what the accepted rows do
    pub history_spans : {y : ℕ → ℕ} → Span p n (length (accepted ts)) u.value y ↔ Span p n (length (accepted ts)) (values_in (accepted ts)) y
    history_spans = (span_trans (held_all past).to, span_trans (held_all past).from)

    -- None exactly if a combination of the rows accepted before
    pub history_none : (on : Bool) (es : List Entry) → CleanRow p n es → ((answered on p n (length (accepted ts)) u es).answer ≡ None) ↔ Combination p n (length (accepted ts)) (values_in (accepted ts)) (value_of es)
    history_none = held_none (held_all past)

-- one row taken, as values
pub extended_next : (on : Bool) (p n k : ℕ) (u : Upper) (es : List Entry) → Next on p n k u es (answered on p n k u es).answer (extended k u (answered on p n k u es))
unfolding extended
extended_next on p n k u es = go (answered on p n k u es).answer refl
  where
    go : (a : Answer) → (answered on p n k u es).answer ≡ a → Next on p n k u es a (placed k u (answered on p n k u es).u a)
    go None e = unfold placed in stays e
    go (Some g) e = unfold placed in
        grows g _ e (record { kept = λ i l j b. ap (λ (r : ℕ → ℕ). r j) (last_before k (value_of (answered on p n k u es).u) u.value i l); added = λ j b. ap (λ (r : ℕ → ℕ). r j) (last_there k (value_of (answered on p n k u es).u) u.value); placed = refl })

-- so any rows can be taken in turn
pub history_some : (p n : ℕ) (u : Upper) → NoPivots n u → (on : ℕ → Bool) (rows : ℕ → List Entry) → ((i : ℕ) → CleanRow p n (rows i)) → (m : ℕ) → (ts : List Told) × (v : Upper) × History p n ts v × (map (λ t. t.row) ts ≡ table m rows)
unfolding table
history_some p n u f on rows clean zero = ([], u, fresh u f, refl)
history_some p n u f on rows clean (suc m) =
    let s = history_some p n u f on rows clean m in
    let k : ℕ = length (accepted s.0) in
    let t : Taken = answered (on m) p n k s.1 (rows m) in
    (s.0 ++ (told (rows m) t.answer ∷ []), extended k s.1 t, more s.0 s.1 s.2 (on m) (rows m) (clean m) t.answer (extended k s.1 t) (extended_next (on m) p n k s.1 (rows m)), map-append (λ (t : Told). t.row) s.0 (told (rows m) t.answer ∷ []) ∙ ap (λ (l : List (List Entry)). l ++ (rows m ∷ [])) s.3)
