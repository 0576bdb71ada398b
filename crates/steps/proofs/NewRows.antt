-- The row that U gets: clean, with head 1 at its column; and U with it is in echelon form again.
-- Assumes nothing.
use mathlib.Core.Path.{◌≡◌, refl, sym, ap, ◌∙◌}
use mathlib.Core.List.{List, [], ◌∷◌, ◌++◌}
use Prim.Native.Nat.{ℕ, suc, ◌*◌, ◌%◌, ◌≤◌, ◌<◌}
use native.Mathlib.Nat.{mod-lt, mod-eq_of_lt, zero-mod, zero-mul, pos_of_ne-zero}
use native.Mathlib.Decide.{ℕ_discrete}
use native.Mathlib.Omega.{arith}
use lib.ListN.{length, get_or, length-set, length-map}
use lib.Seq.{get_or-set_same, get_or-set_other}
use Rattle.field.specs.Inverse.{inverse}
use Rattle.linear.proofs.Heads.{Heads}
use Rattle.sparse.specs.Pivots.{mark}
use Rattle.sparse.specs.Put.{cols_of}
use Rattle.sparse.specs.Rows.{Entry, entry}
use Rattle.walk.specs.Step.{Upper, pivot_at, divided}
use Rattle.steps.specs.Rows.{value_of, Storable, CleanRow}
use Rattle.steps.specs.Setting.{Inverts, Tabled, Echelon, Begins, with_last, Grown}
use Rattle.steps.proofs.Copies.{undivided}
use Rattle.steps.proofs.Entries.{climbs_few}
use Rattle.steps.proofs.Lasts.{last_there, last_before, last_all}
use Rattle.steps.proofs.Nones.{no_head}
use Rattle.steps.proofs.Zeros.{without_zeros, columns_ind, without_climbs, without_values, without_means}

-- a clean row has at most n entries
pub clean_few : {p n : ℕ} {es : List Entry} → CleanRow p n es → length es ≤ n
unfolding cols_of
clean_few {p} {n} {es} row = omega (arith, climbs_few row.climbs, length-map es (λ (e : Entry). e.col))

-- stored without zeros, a row that begins at g has its first entry there
record Starts (y : ℕ → ℕ) (g n : ℕ) (l : List Entry) : Type 0 where
  none : n ≤ g → l ≡ []
  some : g < n → (t : List Entry) × (l ≡ entry g (y g) ∷ t)

starts : (y : ℕ → ℕ) (g : ℕ) → (y g ≡ 0 → ⊥) → ((j : ℕ) → j < g → y j ≡ 0) → (n : ℕ) → Starts y g n (without_zeros n y)
starts y g stands before =
    columns_ind y (Starts y g) (record { none = λ h. refl; some = λ h. absurd (omega arith) })
    (λ n l e s. record { none = λ h. s.none (omega arith); some = λ h. s.some (other n h e) })
    (λ n l e s. record { none = λ h. absurd (e (before n (omega arith))); some = λ h. more n l s h (ℕ_discrete n g) })
  where
    other : (n : ℕ) → g < suc n → y n ≡ 0 → g < n
    other n h e = less (λ q. stands (ap y q ∙ e))
      where
        less : (g ≡ n → ⊥) → g < n
        less ne = omega arith

    more : (n : ℕ) (l : List Entry) → Starts y g n l → g < suc n → Dec (n ≡ g) → (t : List Entry) × (l ++ (entry n (y n) ∷ []) ≡ entry g (y g) ∷ t)
    more n l s h (yes q) = ([], ap (λ (m : List Entry). m ++ (entry n (y n) ∷ [])) (s.none (omega arith)) ∙ ap (λ (m : ℕ). entry m (y m) ∷ []) q)
    more n l s h (no q) = let r = s.some (omega arith) in (r.0 ++ (entry n (y n) ∷ []), ap (λ (m : List Entry). m ++ (entry n (y n) ∷ [])) r.1)

module _ {p n g : ℕ} {pivots : List ℕ} {x : ℕ → ℕ} (inverts : Inverts p) (small : (j : ℕ) → j < n → x j < p) (begins : Begins n pivots x g) where
  pos : 0 < x g
  pos = pos_of_ne-zero begins.stands

  abbrev y : ℕ → ℕ
  y j = x j * inverse p (x g) % p

  one : y g ≡ 1
  one = inverts.law (x g) pos (small g begins.within)

  zeros : (j : ℕ) → j < g → y j ≡ 0
  zeros j h = ap (λ (z : ℕ). z * inverse p (x g) % p) (begins.before j h) ∙ ap (λ (z : ℕ). z % p) (zero-mul (inverse p (x g))) ∙ zero-mod p

  pub new_value : (j : ℕ) → j < n → value_of (divided p n x g) j ≡ x j * inverse p (x g) % p
  unfolding divided
  new_value = without_means y n

  -- head 1 at g, nothing before it
  pub new_one : value_of (divided p n x g) g ≡ 1
  new_one = new_value g begins.within ∙ one

  pub new_before : (j : ℕ) → j < g → value_of (divided p n x g) j ≡ 0
  new_before j h = new_value j (omega (arith, begins.within)) ∙ zeros j h

  pub new_starts : (t : List Entry) × (divided p n x g ≡ entry g 1 ∷ t)
  unfolding divided
  new_starts = let s = (starts y g (λ z. omega (arith, one)) zeros n).some begins.within in (s.0, s.1 ∙ ap (λ (v : ℕ). entry g v ∷ s.0) one)

  -- clean
  pub new_clean : CleanRow p n (divided p n x g)
  unfolding divided
  new_clean = record {
    climbs = without_climbs y n;
    values = without_values y (Storable p) (λ j z. record { pos = pos_of_ne-zero z; below = mod-lt (x j * inverse p (x g)) (omega (arith, inverts.least)) }) n;
  }

  -- times the head it is the row
  pub new_times : (j : ℕ) → j < n → x g * value_of (divided p n x g) j % p ≡ x j
  new_times j h = ap (λ (z : ℕ). x g * z % p) (new_value j h) ∙ undivided p inverts (x g) pos (small g begins.within) (x j) ∙ mod-eq_of_lt (small j h)

-- U with it
module _ {p n k g : ℕ} {u v : Upper} {h x : ℕ → ℕ} (inverts : Inverts p) (echelon : Echelon p n k u h) (small : (j : ℕ) → j < n → x j < p) (begins : Begins n u.pivots x g) (grown : Grown n k g u (divided p n x g) v) where
  grown_heads : Heads p n (suc k) v.value (with_last k g h)
  grown_heads = record {
    within = last_all k g h (λ i c. c < n) begins.within echelon.heads.within;
    one = last_all k g h (λ i c. v.value i c % p ≡ 1 % p) (ap (λ (z : ℕ). z % p) (grown.added g begins.within ∙ new_one inverts small begins)) (λ i l. ap (λ (z : ℕ). z % p) (grown.kept i l (h i) (echelon.heads.within i l)) ∙ echelon.heads.one i l);
    before = last_all k g h (λ i c. (j : ℕ) → j < c → v.value i j % p ≡ 0 % p)
        (λ j b. ap (λ (z : ℕ). z % p) (grown.added j (omega (arith, begins.within)) ∙ new_before inverts small begins j b))
        (λ i l j b. ap (λ (z : ℕ). z % p) (grown.kept i l j (omega (arith, echelon.heads.within i l))) ∙ echelon.heads.before i l j b);
    apart = λ i e a b. last_all k g h (λ i c. (e : ℕ) → e < suc k → c ≡ with_last k g h e → i ≡ e)
        (last_all k g h (λ e c. g ≡ c → k ≡ e) (λ q. refl) (λ e l q. absurd (no_head echelon g begins.free e l (sym q))))
        (λ i l. last_all k g h (λ e c. h i ≡ c → i ≡ e) (λ q. absurd (no_head echelon g begins.free i l q)) (λ e m q. echelon.heads.apart i e l m q))
        i a e b;
  }

  there : pivot_at v.pivots g ≡ k
  unfolding pivot_at
  there = ap (λ (l : List ℕ). get_or l g 0) grown.placed ∙ get_or-set_same u.pivots g k 0 (omega (arith, begins.within, echelon.table.long))

  elsewhere : (c : ℕ) → (c ≡ g → ⊥) → pivot_at v.pivots c ≡ pivot_at u.pivots c
  unfolding pivot_at
  elsewhere c ne = ap (λ (l : List ℕ). get_or l c 0) grown.placed ∙ get_or-set_other u.pivots g c k 0 ne

  grown_table : Tabled n (suc k) (with_last k g h) v.pivots
  grown_table = record {
    wide = echelon.table.wide;
    long = omega (arith, echelon.table.long, ap length grown.placed, length-set u.pivots g k);
    holds = last_all k g h (λ i c. pivot_at v.pivots c ≡ i) there (λ i l. elsewhere (h i) (no_head echelon g begins.free i l) ∙ echelon.table.holds i l);
    row = λ c l m. row c l m (ℕ_discrete c g);
    head = λ c l m. head c l m (ℕ_discrete c g);
  }
    where
      row : (c : ℕ) → c < n → (pivot_at v.pivots c ≡ mark → ⊥) → Dec (c ≡ g) → pivot_at v.pivots c < suc k
      row c l m (yes e) = rw (e, there) (omega arith)
      row c l m (no ne) = rw (elsewhere c ne) (omega (arith, echelon.table.row c l (λ q. m (elsewhere c ne ∙ q))))

      head : (c : ℕ) → c < n → (pivot_at v.pivots c ≡ mark → ⊥) → Dec (c ≡ g) → with_last k g h (pivot_at v.pivots c) ≡ c
      head c l m (yes e) = rw (e, there) (last_there k g h)
      head c l m (no ne) =
          ap (with_last k g h) (elsewhere c ne)
          ∙ last_before k g h (pivot_at u.pivots c) (echelon.table.row c l (λ q. m (elsewhere c ne ∙ q)))
          ∙ echelon.table.head c l (λ q. m (elsewhere c ne ∙ q))

  pub grown_echelon : Echelon p n (suc k) v (with_last k g h)
  grown_echelon = record { heads = grown_heads; table = grown_table }
