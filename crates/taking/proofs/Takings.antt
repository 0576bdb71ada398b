-- A row taken: what each call on the way asks for, and what is seen at the end.
-- Assumes nothing.
use Rattle.std.specs.Prelude.{None, Some}
use mathlib.Core.Path.{◌≡◌, sym, ap, ap₂, subst, ◌∙◌}
use mathlib.Core.Bool.{Bool, true, false, cond}
use mathlib.Core.List.{List, []}
use Prim.Native.Nat.{ℕ, zero, suc, ◌+◌, ◌≤◌, ◌<◌}
use native.Mathlib.Decide.{dec_lt}
use native.Mathlib.Omega.{arith}
use borrow.Author.Tests.{lt-ltb, le-ltb}
use lib.Dec.{ltb}
use lib.ListN.{length, get_or, length-drop}
use Rattle.lists.specs.Table.{table}
use Rattle.lists.proofs.Tables.{length-table, get_or-table, table_ext}
use Rattle.field.proofs.Primes.{modulus_iff}
use Rattle.sparse.specs.Lent.{outcome, Outcome}
use Rattle.sparse.specs.Matrix.{value_in}
use Rattle.sparse.specs.Put.{cols_of, values_of}
use Rattle.sparse.specs.Rows.{Entry, entries}
use Rattle.meaning.proofs.RowLists.{entry_cols, entry_values}
use Rattle.meaning.proofs.Values.{Climbs, value_elsewhere}
use Rattle.state.specs.declared.Mode.{Mode}
use Rattle.walk.specs.Asks.{Loads, Walks, Pivoted}
use Rattle.walk.specs.Dense.{spread, wiped}
use Rattle.walk.specs.Left.{rest_of, limit_of, LeftFrom}
use Rattle.walk.specs.Step.{way, climb, Taken, taken, divided, step, walked}
use Rattle.walk.specs.Step as S
use Rattle.steps.specs.Rows.{value_of}
use Rattle.steps.specs.Setting.{Inverts}
use Rattle.steps.proofs.Copies.{step_walked}
use Rattle.steps.proofs.Steps.{prime_inverts, step_added, step_not_added}
use Rattle.steps.proofs.Zeros.{row_small}
use Rattle.storing.specs.Gathers.{l_row}
use Rattle.taking.specs.Asks.{StoresU, StoresL}
use Rattle.taking.specs.Rows.{shown, walked_to, storing, Takes}
use Rattle.taking.specs.Stores.{Upper, with_u, Lower, with_l, kept_entries}
use Rattle.taking.proofs.Walks.{head_free, head_stands, head_first, head_from, walked_accepted, walked_none}

module _ {on : Bool} {p n : ℕ} {mode : Mode} {rank uf lr lf : ℕ} {cols vals dense : List ℕ} {u : Upper} {l : Lower} (s : Takes on p n mode rank uf lr lf cols vals dense u l) where
  abbrev es : List Entry
  es = entries cols vals

  abbrev above : S.Upper
  above = S.upper u.cols u.vals u.ptrs u.pivots

  inverts : Inverts p
  inverts = prime_inverts ((modulus_iff p).0 s.modulus).0

  value_same : (j : ℕ) → value_in cols vals j ≡ value_of es j
  unfolding cols_of values_of
  value_same j = ap₂ (λ (x y : List ℕ). value_in x y j) (sym (entry_cols cols vals s.same)) (sym (entry_values cols vals))

  climbs : Climbs n cols
  unfolding cols_of
  climbs = subst (Climbs n) (entry_cols cols vals s.same) s.clean.climbs

  small : (j : ℕ) → j < n → value_of es j < p
  small j h = row_small (omega (arith, inverts.least)) s.clean j

  long : length dense ≡ n
  long = ap length s.zero ∙ length-table n (λ j. 0)

  -- the row is loaded
  pub takes_loads : Loads (length dense) cols vals dense
  takes_loads = rw long (record { same = s.same; climbs = climbs; zero = s.zero })

  pub first_low : get_or cols 0 0 < n
  first_low = climbs.below 0 s.some

  module _ {loaded : List ℕ} (load : loaded ≡ spread (length dense) cols vals) where
    loaded_at : (j : ℕ) → j < n → get_or loaded j 0 ≡ value_of es j
    unfolding spread
    loaded_at j h = ap (λ (d : List ℕ). get_or d j 0) (load ∙ ap (λ (k : ℕ). table k (value_in cols vals)) long) ∙ get_or-table n (value_in cols vals) j 0 h ∙ value_same j

    loaded_long : length loaded ≡ n
    unfolding spread
    loaded_long = ap length load ∙ length-table (length dense) (value_in cols vals) ∙ long

    -- nothing stands before its first entry
    first : (j : ℕ) → j < get_or cols 0 0 → get_or loaded j 0 ≡ 0
    first j h =
        loaded_at j (omega (arith, first_low)) ∙ sym (value_same j)
        ∙ value_elsewhere cols vals j (λ k q e. go k q e)
      where
        go : (k : ℕ) → k < length cols → get_or cols k 0 ≡ j → ⊥
        go zero q e = omega arith
        go (suc k) q e = omega (arith, climbs.rises 0 (suc k) (omega arith) q)

    pub takes_walks : Walks p u.cols u.vals u.ptrs u.pivots (get_or cols 0 0) loaded
    takes_walks = record {
      pivots = subst (λ (k : ℕ). Pivoted k u.cols u.vals u.ptrs u.pivots) (sym loaded_long) s.pivoted;
      small = λ j h. rw (loaded_at j (omega (arith, loaded_long))) (small j (omega (arith, loaded_long)));
      within = omega (arith, loaded_long, first_low);
      before = first;
    }

    -- the walk's end
    module _ {walkd : List ℕ} {head : ℕ} (walk : LeftFrom p (length loaded) (limit_of on (length loaded) head) above (climb on p above (length loaded) (way (λ j. get_or loaded j 0) [] None)) (get_or cols 0 0) walkd head) where
      end : LeftFrom p n (limit_of on n head) above (climb on p above n (way (λ j. get_or loaded j 0) [] None)) (get_or cols 0 0) walkd head
      end = rw loaded_long at walk

      walkd_long : length walkd ≡ n
      walkd_long = end.left.long

      abbrev limit : ℕ
      limit = limit_of on n head

      stepped : step on p n rank above es ≡ walked on p n rank above es
      stepped = step_walked on p n rank above inverts es s.clean

      -- a row with a head
      module _ (low : head < n) where
        took : step on p n rank above es ≡ taken (Some head) (divided p n (rest_of u.pivots limit walkd) head) (l_row u.pivots walkd limit head rank)
        unfolding S.upper
        took = stepped ∙ walked_accepted on p n rank above s.heads s.echelon es small (get_or cols 0 0) loaded walkd head loaded_at end low

        answered : (step on p n rank above es).answer ≡ Some head
        answered = ap (λ (t : Taken). t.answer) took

        same_long : length (divided p n (rest_of u.pivots limit walkd) head) ≡ length (step on p n rank above es).u
        same_long = sym (ap (λ (t : Taken). length t.u) took)

        l_most : length (l_row u.pivots walkd limit head rank) ≤ rank + 1
        l_most = subst (λ (t : Taken). length t.l ≤ rank + 1) took (step_added on p n rank above s.heads inverts s.echelon es s.clean answered).l_room

        past_first : get_or cols 0 0 ≤ head
        past_first = head_from on p n rank above s.heads s.echelon es small (get_or cols 0 0) loaded walkd head loaded_at end low

      -- a row without one
      module _ (none : n ≤ head) where
        took_none : step on p n rank above es ≡ taken None [] (l_row u.pivots walkd limit head rank)
        unfolding S.upper
        took_none = stepped ∙ walked_none on p n rank above s.heads s.echelon es small (get_or cols 0 0) loaded walkd head loaded_at end none

        l_least : length (l_row u.pivots walkd limit head rank) ≤ rank
        l_least = subst (λ (t : Taken). length t.l ≤ rank) took_none (step_not_added on p n rank above s.heads inverts s.echelon es s.clean (ap (λ (t : Taken). t.answer) took_none)).l_room

      l_few : length (l_row u.pivots walkd limit head rank) ≤ rank + 1
      l_few = go (dec_lt head n)
        where
          go : Dec (head < n) → length (l_row u.pivots walkd limit head rank) ≤ rank + 1
          go (yes h) = l_most h
          go (no h) = omega (arith, l_least (omega arith))

      within : limit ≤ n
      unfolding limit_of
      within = go on
        where
          go : (b : Bool) → limit_of b n head ≤ n
          go true = omega arith
          go false = end.bound

      rises : get_or cols 0 0 ≤ limit
      unfolding limit_of
      rises = go on (dec_lt head n)
        where
          go : (b : Bool) → Dec (head < n) → get_or cols 0 0 ≤ limit_of b n head
          go true d = omega (arith, first_low)
          go false (yes h) = past_first h
          go false (no h) = omega (arith, first_low)

      -- L's row is stored
      module _ {lim : ℕ} (limited : lim ≡ limit_of on (length dense) head) where
        same_limit : lim ≡ limit
        same_limit = limited ∙ ap (λ (k : ℕ). limit_of on k head) long

        pub takes_stores_l : StoresL mode lr lf u.pivots walkd lim (get_or cols 0 0) head rank l
        takes_stores_l = rw same_limit (record {
          ends = record {
            narrow = omega (arith, walkd_long, s.narrow);
            table = omega (arith, walkd_long, s.pivoted.table);
            limit = omega (arith, walkd_long, within);
            rises = rises;
            before = end.before;
            columns = λ k. omega (arith, l_few, length-drop lf l.cols, s.l_columns k);
            numbers = λ k. omega (arith, l_few, length-drop lf l.vals, s.l_numbers k);
          };
          columns = λ k. omega (arith, s.l_columns k);
          numbers = λ k. omega (arith, s.l_numbers k);
          pointer = s.l_pointer;
        })

        -- and U's, where there is a head
        pub takes_stores_u : head < length dense → StoresU p rank uf walkd lim head u
        unfolding S.upper
        takes_stores_u h =
            let low : head < n = omega (arith, long) in
            rw same_limit (record {
              ends = record {
                modulus = s.modulus;
                narrow = omega (arith, walkd_long, s.narrow);
                table = omega (arith, walkd_long, s.pivoted.table);
                small = λ j q. end.left.small j (omega (arith, walkd_long));
                within = omega (arith, walkd_long);
                nonzero = head_stands on p n rank above s.heads s.echelon es small (get_or cols 0 0) loaded walkd head loaded_at end low;
                free = head_free on p n rank above s.heads s.echelon es small (get_or cols 0 0) loaded walkd head loaded_at end low;
                before = head_first on p n rank above s.heads s.echelon es small (get_or cols 0 0) loaded walkd head loaded_at end low;
                columns = rw walkd_long (omega (arith, same_long low, length-drop uf u.cols, s.u_columns));
                numbers = rw walkd_long (omega (arith, same_long low, length-drop uf u.vals, s.u_numbers));
              };
              columns = omega (arith, s.u_columns);
              numbers = omega (arith, s.u_numbers);
              pointer = s.u_pointer;
              low = s.low;
            })

        -- dense memory is cleared
        module _ {clear : List ℕ} (wipe : clear ≡ wiped (get_or cols 0 0) walkd) where
          cleared : clear ≡ table n (λ j. 0)
          unfolding wiped
          cleared = wipe ∙ ap (λ (k : ℕ). table k (λ j. cond (ltb j (get_or cols 0 0)) (get_or walkd j 0) 0)) walkd_long ∙ table_ext n (λ j. cond (ltb j (get_or cols 0 0)) (get_or walkd j 0) 0) (λ j. 0) (λ j h. go j (dec_lt j (get_or cols 0 0)))
            where
              go : (j : ℕ) → Dec (j < get_or cols 0 0) → cond (ltb j (get_or cols 0 0)) (get_or walkd j 0) 0 ≡ 0
              go j (yes q) = rw (lt-ltb j (get_or cols 0 0) q) (end.before j q)
              go j (no q) = rw (le-ltb j (get_or cols 0 0) (omega arith))

          pub takes_long : length clear ≡ length dense
          takes_long = ap length cleared ∙ length-table n (λ j. 0) ∙ sym long

          -- what is seen then: a row that is None,
          pub takes_none : length dense ≤ head → {len : ℕ} {m : Lower} → outcome len m ≡ outcome (kept_entries mode (l_row u.pivots walkd lim head rank)) (with_l mode lr lf (l_row u.pivots walkd lim head rank) l)
              → shown (walked_to (length dense) 0 len) u m clear ≡ storing mode (length dense) rank uf lr lf (step on p (length dense) rank above es).answer (step on p (length dense) rank above es) u l
          unfolding Rattle.taking.specs.Rows.storing
          takes_none h {len} {m} made =
              let t : step on p (length dense) rank above es ≡ taken None [] (l_row u.pivots walkd lim head rank) = ap (λ (k : ℕ). step on p k rank above es) long ∙ took_none (omega (arith, long)) ∙ ap (λ (k : ℕ). taken None [] (l_row u.pivots walkd k head rank)) (sym same_limit) in
              let a : len ≡ kept_entries mode (l_row u.pivots walkd lim head rank) = ap (λ (o : Outcome ℕ Lower). o.answer) made in
              let b : m ≡ with_l mode lr lf (l_row u.pivots walkd lim head rank) l = ap (λ (o : Outcome ℕ Lower). o.memory) made in
              let z : clear ≡ table (length dense) (λ j. 0) = cleared ∙ ap (λ (k : ℕ). table k (λ j. 0)) (sym long) in
              rw (t, a, b, z)

          -- or one that is accepted
          pub takes_accepted : head < length dense → {len more : ℕ} {m : Lower} {v : Upper}
              → outcome len m ≡ outcome (kept_entries mode (l_row u.pivots walkd lim head rank)) (with_l mode lr lf (l_row u.pivots walkd lim head rank) l)
              → outcome more v ≡ outcome (length (divided p (length walkd) (rest_of u.pivots lim walkd) head)) (with_u rank uf head (divided p (length walkd) (rest_of u.pivots lim walkd) head) u)
              → shown (walked_to head more len) v m clear ≡ storing mode (length dense) rank uf lr lf (step on p (length dense) rank above es).answer (step on p (length dense) rank above es) u l
          unfolding Rattle.taking.specs.Rows.storing
          takes_accepted h {len} {more} {m} {v} made grown =
              let t : step on p (length dense) rank above es ≡ taken (Some head) (divided p (length walkd) (rest_of u.pivots lim walkd) head) (l_row u.pivots walkd lim head rank) = ap (λ (k : ℕ). step on p k rank above es) long ∙ took (omega (arith, long)) ∙ ap₂ (λ (k i : ℕ). taken (Some head) (divided p i (rest_of u.pivots k walkd) head) (l_row u.pivots walkd k head rank)) (sym same_limit) (sym walkd_long) in
              let a : len ≡ kept_entries mode (l_row u.pivots walkd lim head rank) = ap (λ (o : Outcome ℕ Lower). o.answer) made in
              let b : m ≡ with_l mode lr lf (l_row u.pivots walkd lim head rank) l = ap (λ (o : Outcome ℕ Lower). o.memory) made in
              let d : more ≡ length (divided p (length walkd) (rest_of u.pivots lim walkd) head) = ap (λ (o : Outcome ℕ Upper). o.answer) grown in
              let e : v ≡ with_u rank uf head (divided p (length walkd) (rest_of u.pivots lim walkd) head) u = ap (λ (o : Outcome ℕ Upper). o.memory) grown in
              let z : clear ≡ table (length dense) (λ j. 0) = cleared ∙ ap (λ (k : ℕ). table k (λ j. 0)) (sym long) in
              rw (t, a, b, d, e, z)
