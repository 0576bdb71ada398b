-- From a fresh start, after rows, inserted columns and back substitutions in any order, a row is answered None exactly if it is a combination of the rows accepted before it.
-- Assumes nothing.
use Rattle.std.specs.Prelude.{None, Ok}
use mathlib.Core.Path.{◌≡◌, refl, sym, ap, subst, ◌∙◌}
use mathlib.Core.Logic.{◌↔◌}
use mathlib.Core.Bool.{Bool, cond}
use mathlib.Core.List.{List, [], ◌∷◌, ◌++◌}
use Prim.Native.Nat.{ℕ, ◌+◌, ◌<◌}
use native.Mathlib.Nat.{add-zero, not-suc-le-zero}
use native.Mathlib.Decide.{dec_lt}
use native.Mathlib.Numerals.{add-one}
use native.Mathlib.Omega.{arith}
use lib.ListN.{length, get_or, take, length-append, length-map, get_or-append}
use lib.Seq.{get_or_at, take-append-le, take-append_seam}
use Rattle.lists.specs.Find.{keep}
use Rattle.linear.specs.Combination.{Combination}
use Rattle.linear.proofs.Span.{span_row, span_trans}
use Rattle.sparse.specs.Lent.{Lent}
use Rattle.sparse.specs.Put.{cols_of, values_of}
use Rattle.sparse.specs.Rows.{Entry, entries}
use Rattle.meaning.proofs.RowLists.{entries_of_lem}
use Rattle.state.specs.Memory.{Memory}
use Rattle.state.specs.declared.Counts.{Counts}
use Rattle.walk.specs.Step.{Upper, is_none, Answer}
use Rattle.steps.specs.History.{answered, Told, told, accepted, Next, stays, grows}
use Rattle.steps.specs.Rows.{value_of, CleanRow}
use Rattle.steps.specs.Setting.{Inverts, Echelon, with_last}
use Rattle.steps.proofs.Histories.{Held, held_same, held_grows, held_none}
use Rattle.steps.proofs.Lasts.{last_before}
use Rattle.stepping.specs.Asks.{Stands, Offered}
use Rattle.stepping.specs.Take.{Lists, lists, room_asked, row_step, step_row}
use Rattle.stepping.proofs.Walks.{heads, stands_inverts, stands_echelon}
use Rattle.keeping.proofs.Keeps.{step_stands}
use Rattle.keeping.proofs.Nexts.{step_next, step_answer}
use Rattle.keeping.proofs.Pasts.{Counted, step_counted}
use Rattle.keeping.proofs.Settings.{rows_in}
use Rattle.widening.specs.AddCols.{add_cols_test, wider_counts, widened}
use Rattle.widening.specs.Inserted.{Inserted}
use Rattle.widening.proofs.Passed.{widenable}
use Rattle.widening.proofs.Stands.{add_cols_stands, add_cols_rows}
use Rattle.reduced.specs.Reduced.{SameSpan}
use Rattle.backing.specs.Back.{back_counts, reducer, back_substitute}
use Rattle.backing.proofs.Results.{back_counted, back_stands, back_rows_span}
use Rattle.strides.specs.Strides.{Strides, still, stride}
use Rattle.strides.proofs.Runs.{begun_stands}
use Rattle.seasons.specs.Reached.{followed, Reached, fresh, rows, columns, back}
use Rattle.seasons.proofs.Follows.{followed_first, taken_many, taken_last}
use Rattle.seasons.proofs.Widths.{span_new}

-- a state whose U has as many rows as were accepted, and spans what they do
pub record Known (p n k : ℕ) (r : ℕ → ℕ → ℕ) (c : Counts) (m : Memory) : Type 0 where
  pub stands : Stands c (lists m [])
  pub modulus : c.modulus ≡ p
  pub ncols : c.ncols ≡ n
  pub rank : c.rank ≡ k
  pub held : Held p n k r (rows_in m)

known_inverts : {p n k : ℕ} {r : ℕ → ℕ → ℕ} {c : Counts} {m : Memory} → Known p n k r c m → Inverts p
known_inverts {c = c} {m = m} w = subst Inverts w.modulus (stands_inverts c (lists m []) w.stands)

-- U in memory that is a state
echelon_of : (c : Counts) (m : Memory) (s : Stands c (lists m [])) {p n k : ℕ} → c.modulus ≡ p → c.ncols ≡ n → c.rank ≡ k → Echelon p n k (rows_in m) (heads c (lists m []) s)
echelon_of c m s q e z = rw (← q, ← e, ← z) (stands_echelon c (lists m []) s)

-- a row taken, by its answer
held_after : {p n k : ℕ} {r : ℕ → ℕ → ℕ} {u v : Upper} → Inverts p → Held p n k r u → (on : Bool) (es : List Entry) → CleanRow p n es → {a : Answer} → Next on p n k u es a v → Held p n (k + cond (is_none a) 0 1) (with_last k (value_of es) r) v
unfolding is_none
held_after {p} {n} {k} {r} {u} inverts held on es clean (stays e) =
    subst (λ (i : ℕ). Held p n i (with_last k (value_of es) r) u) (sym (add-zero k)) (held_same (λ i l. last_before k (value_of es) r i l) held)
held_after {p} {n} {k} {r} {u} inverts held on es clean (grows g v e grown) =
    subst (λ (i : ℕ). Held p n i (with_last k (value_of es) r) v) (sym (add-one k)) (held_grows p n inverts on k r u held es clean g v e grown)

module _ {p n k : ℕ} {r : ℕ → ℕ → ℕ} {c : Counts} {m : Memory} (w : Known p n k r c m) where
  abbrev o : Lists
  o = lists m []

  module _ (on : Bool) (es : List Entry) (clean : CleanRow p n es) where
    offer : Offered c (cols_of es) (values_of es)
    unfolding cols_of values_of
    offer = record { same = length-map es _ ∙ sym (length-map es _); clean = rw (entries_of_lem es, w.modulus, w.ncols) clean }

    same : entries (cols_of es) (values_of es) ≡ es
    unfolding cols_of values_of
    same = entries_of_lem es

    answer_here : (row_step on c es m).answer.answer ≡ (answered on p n k (rows_in m) es).answer
    unfolding step_row
    answer_here = rw (← w.modulus, ← w.ncols, ← w.rank) (step_answer on c es o)

    -- answered None exactly for a combination of the accepted rows
    pub known_none : ((row_step on c es m).answer.answer ≡ None) ↔ Combination p n k r (value_of es)
    known_none = let exact = held_none p n (known_inverts w) w.held on es clean in ((λ e. exact.0 (sym answer_here ∙ e)), (λ q. answer_here ∙ exact.1 q))

    module _ (room : room_asked c es m ≡ Ok tt) where
      counted : Counted c (row_step on c es m).answer
      unfolding step_row
      counted = step_counted on c es o

      stands : Stands (row_step on c es m).answer.counts (lists (row_step on c es m).memory [])
      unfolding step_row
      stands =
          let s = step_stands on c (cols_of es) (values_of es) o w.stands offer (rw same room) in
          subst (λ (xs : List Entry). Stands (row_step on c xs m).answer.counts (lists (row_step on c xs m).memory [])) same (record { opened = s.opened; state = s.state })

      next : Next on p n k (rows_in m) es (row_step on c es m).answer.answer (rows_in (row_step on c es m).memory)
      unfolding step_row
      next =
          let s = step_next on c (cols_of es) (values_of es) o w.stands offer (rw same room) in
          rw (← w.modulus, ← w.ncols, ← w.rank) (subst (λ (xs : List Entry). Next on c.modulus c.ncols c.rank (rows_in m) xs (row_step on c xs m).answer.answer (rows_in (row_step on c xs m).memory)) same s)

      pub known_row : Known p n (k + cond (is_none (row_step on c es m).answer.answer) 0 1) (with_last k (value_of es) r) (row_step on c es m).answer.counts (row_step on c es m).memory
      known_row = record {
        stands = stands;
        modulus = counted.modulus ∙ w.modulus;
        ncols = counted.ncols ∙ w.ncols;
        rank = counted.rank ∙ ap (λ (i : ℕ). i + cond (is_none (row_step on c es m).answer.answer) 0 1) w.rank;
        held = held_after (known_inverts w) w.held on es clean next;
      }

  module _ (ps : List ℕ) (good : add_cols_test c ps m ≡ Ok tt) (s : ℕ → ℕ → ℕ) (rows : (i : ℕ) → i < k → Inserted n ps (r i) (s i)) where
    pub known_columns : Known p (n + length ps) k s (wider_counts c (length ps)) (widened c ps m)
    unfolding wider_counts
    known_columns =
        let z = add_cols_stands c ps m good [] in
        let t = (widenable c ps m good).spreads in
        let pos : 0 < p = omega (arith, (known_inverts w).least) in
        let moved : (i : ℕ) → i < k → Inserted n ps ((rows_in m).value i) ((rows_in (widened c ps m)).value i) = rw (← w.ncols, ← w.rank) (add_cols_rows c ps m good) in
        record {
          stands = z;
          modulus = w.modulus;
          ncols = ap (λ (i : ℕ). i + length ps) w.ncols;
          rank = w.rank;
          held = record {
            h = heads (wider_counts c (length ps)) (lists (widened c ps m) []) z;
            echelon = echelon_of (wider_counts c (length ps)) (widened c ps m) z w.modulus (ap (λ (i : ℕ). i + length ps) w.ncols) w.rank;
            to = λ i l. span_new pos t.sorted (rw (← w.ncols) t.low) rows (moved i l) (w.held.to i l);
            from = λ i l. span_new pos t.sorted (rw (← w.ncols) t.low) moved (rows i l) (w.held.from i l);
          };
        }

  module _ (l : Lent) (dense : List ℕ) (after : Counts) (made : (back_substitute c m l dense).answer ≡ Ok after) where
    abbrev now : Memory
    now = reducer m (back_substitute c m l dense).memory

    left : Stands after (lists now [])
    left = let s = back_stands c m l dense made in record { opened = s.opened; state = s.state }

    modulus : after.modulus ≡ p
    unfolding back_counts
    modulus = ap (λ (x : Counts). x.modulus) (back_counted c m l dense made) ∙ w.modulus

    ncols : after.ncols ≡ n
    unfolding back_counts
    ncols = ap (λ (x : Counts). x.ncols) (back_counted c m l dense made) ∙ w.ncols

    rank : after.rank ≡ k
    unfolding back_counts
    rank = ap (λ (x : Counts). x.rank) (back_counted c m l dense made) ∙ w.rank

    spans : SameSpan p n k (rows_in m).value k (rows_in now).value
    spans = rw (← w.modulus, ← w.ncols, ← w.rank) (back_rows_span c m l dense made)

    pub known_back : Known p n k r after now
    known_back = record {
      stands = left;
      modulus = modulus;
      ncols = ncols;
      rank = rank;
      held = record {
        h = heads after (lists now []) left;
        echelon = echelon_of after now left modulus ncols rank;
        to = λ i l. span_trans w.held.to ((spans.same ((rows_in now).value i)).1 (span_row i l));
        from = λ i l. (spans.same (r i)).0 (w.held.from i l);
      };
    }

-- the same rows by another count and another list
known_same : {p n k j : ℕ} {r q : ℕ → ℕ → ℕ} {c : Counts} {m : Memory} → k ≡ j → ((i : ℕ) → i < k → q i ≡ r i) → Known p n k r c m → Known p n j q c m
known_same {p} {n} {q = q} {c = c} {m = m} e same w =
    subst (λ (i : ℕ). Known p n i q c m) e (record { stands = w.stands; modulus = w.modulus; ncols = w.ncols; rank = w.rank; held = held_same same w.held })

-- a run of single steps
known_rows : {p n k : ℕ} {r : ℕ → ℕ → ℕ} {c : Counts} {m : Memory} {d : Counts} {l : Memory} {ts : List Told} → Known p n k r c m → Strides p n c m ts d l → Known p n (k + length (accepted ts)) (followed k r (accepted ts)) d l
unfolding accepted keep
known_rows {k = k} {r = r} w still = known_same (sym (add-zero k)) (followed_first k r []) w
known_rows {k = k} {r = r} w (stride ts d l past on es clean room) =
    let a : Answer = (row_step on d es l).answer.answer in
    known_same (taken_many k r ts es a) (taken_last k r ts es a) (known_row (known_rows w past) on es clean room)

-- a fresh start
known_fresh : {p n : ℕ} {r : ℕ → ℕ → ℕ} (c : Counts) (m : Memory) → Stands c (lists m []) → c.modulus ≡ p → c.ncols ≡ n → c.rank ≡ 0 → Known p n 0 r c m
known_fresh c m s q e z = record {
  stands = s;
  modulus = q;
  ncols = e;
  rank = z;
  held = record {
    h = heads c (lists m []) s;
    echelon = echelon_of c m s q e z;
    to = λ i l. absurd (not-suc-le-zero l);
    from = λ i l. absurd (not-suc-le-zero l);
  };
}

pub reached_known : {p n k : ℕ} {r : ℕ → ℕ → ℕ} {c : Counts} {m : Memory} → Reached p n k r c m → Known p n k r c m
reached_known (fresh n mode m start r) = known_fresh _ m (begun_stands start) refl refl refl
reached_known (rows n k r c m past ts d l strides) = known_rows (reached_known past) strides
reached_known (columns n k r c m past ps good s each) = known_columns (reached_known past) ps good s each
reached_known (back n k r c m past l dense after made) = known_back (reached_known past) l dense after made

-- what None means, whatever came before
pub reached_none : {p n k : ℕ} {r : ℕ → ℕ → ℕ} {c : Counts} {m : Memory} → Reached p n k r c m → (on : Bool) (es : List Entry) → CleanRow p n es → ((row_step on c es m).answer.answer ≡ None) ↔ Combination p n k r (value_of es)
reached_none past on es clean = known_none (reached_known past) on es clean

-- of each row of a run: a combination of the rows before the run, and of those accepted in it before
pub reached_each : {p n k : ℕ} {r : ℕ → ℕ → ℕ} {c : Counts} {m : Memory} {d : Counts} {l : Memory} {ts : List Told} → Reached p n k r c m → Strides p n c m ts d l → (i : ℕ) → i < length ts
    → ((get_or ts i (told [] None)).answer ≡ None) ↔ Combination p n (k + length (accepted (take i ts))) (followed k r (accepted (take i ts))) (value_of (get_or ts i (told [] None)).row)
reached_each past still i h = absurd (not-suc-le-zero h)
reached_each {p} {n} {k} {r} past (stride ts d l before on es clean room) i h = go (dec_lt i (length ts)) (λ b. reached_each past before i b)
  where
    t : Told
    t = told es (row_step on d es l).answer.answer

    Means : List Told → Told → Type 0
    Means us u = (u.answer ≡ None) ↔ Combination p n (k + length (accepted us)) (followed k r (accepted us)) (value_of u.row)

    go : Dec (i < length ts) → (i < length ts → Means (take i ts) (get_or ts i (told [] None))) → Means (take i (ts ++ (t ∷ []))) (get_or (ts ++ (t ∷ [])) i (told [] None))
    go (yes b) each = rw (get_or-append ts (t ∷ []) (told [] None) i b, take-append-le i ts (t ∷ []) (omega arith)) (each b)
    go (no b) each =
        let here : length ts ≡ i = omega (arith, length-append ts (t ∷ [])) in
        rw (get_or_at ts t [] (told [] None) i here, ← here, take-append_seam ts (t ∷ [])) (reached_none (rows n k r _ _ past ts d l before) on es clean)
