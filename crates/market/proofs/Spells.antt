-- What is read, the grammar accepts.
-- Assumes nothing.
use mathlib.Core.Path.{◌≡◌, refl, sym, ap, subst, ◌∙◌}
use mathlib.Core.Bool.{Bool, true, false, ◌&&◌, and-eq-true_iff}
use mathlib.Core.List.{List, [], ◌∷◌, ◌++◌, append_assoc, append-nil}
use Prim.Native.Nat.{ℕ, zero, suc, ◌+◌, ◌-◌, ◌*◌, ◌≤◌}
use native.Mathlib.Omega.{arith}
use lib.Dec.{leb, ltb, eqb}
use lib.ListN.{length}
use borrow.Author.Tests.{eqb-true, eqb-false, leb-true, ltb-true, ltb-false}
use Rattle.text.specs.Decimals.{read_on, read_back}
use Rattle.triplets.specs.Triplets.{Triplet, triplet}
use Rattle.market.specs.Grammar.{feed, space, percent, banner, Plain, blank, plain, Comments, uncommented, comment, Digits, undigited, digit, Decimal, Line, Lines, unlined, entry, Text}
use Rattle.market.specs.Parse.{Read, nothing, got, ◌then◌, past, uncomment, decimal_on, decimal_to, line, lines, size_line, Market, market_of, whole, market}
use Rattle.market.proofs.Heads.{then_got, lines_tail, lines_first, lines_length}
use Rattle.market.proofs.Passes.{market_turn}

-- nothing was read
pub unread : {A : Type 0} {x : A} {later : List ℕ} → ◌≡◌ {A = Read A} nothing (got x later) → ⊥
unread e = let z : ◌≡◌ {A = ℕ} 0 1 = cc in omega arith

-- digits up to `stop`, after k that say m
record Numeral (stop k m : ℕ) (bs : List ℕ) (n : ℕ) (later : List ℕ) : Type 0 where
  bytes : List ℕ
  digits : Digits bytes
  spelt : bs ≡ bytes ++ stop ∷ later
  some : 1 ≤ k + length bytes
  few : k + length bytes ≤ 10
  says : read_on m bytes ≡ n

numeral : (stop k m : ℕ) (bs : List ℕ) {n : ℕ} {later : List ℕ} → k ≤ 10 → decimal_on stop k m bs ≡ got n later → Numeral stop k m bs n later
unfolding decimal_on read_on
numeral stop k m [] h e = absurd (unread e)
numeral stop k m (b ∷ bs) {n} {later} h e =
    go (eqb b stop) (eqb k 0) (leb 48 b && leb b 57 && ltb k 10) refl refl refl e (λ l. numeral stop (k + 1) (m * 10 + (b - 48)) bs {n = n} {later = later} l)
  where
    go : (x y z : Bool) → eqb b stop ≡ x → eqb k 0 ≡ y → leb 48 b && leb b 57 && ltb k 10 ≡ z
        → elim x [ true ↦ elim y [ true ↦ nothing | false ↦ got m bs ] | false ↦ elim z [ true ↦ decimal_on stop (k + 1) (m * 10 + (b - 48)) bs | false ↦ nothing ] ] ≡ got n later
        → (k + 1 ≤ 10 → decimal_on stop (k + 1) (m * 10 + (b - 48)) bs ≡ got n later → Numeral stop (k + 1) (m * 10 + (b - 48)) bs n later)
        → Numeral stop k m (b ∷ bs) n later
    go true true z p q r w ih = absurd (unread w)
    go true false z p q r w ih =
        let s = eqb-false k 0 q in
        let at : b ≡ stop = eqb-true b stop p in
        record { bytes = []; digits = undigited; spelt = cc; some = omega arith; few = omega arith; says = cc }
    go false y false p q r w ih = absurd (unread w)
    go false y true p q r w ih =
        let t = (and-eq-true_iff _ _).0 r in
        let u = (and-eq-true_iff _ _).0 t.0 in
        let l = ltb-true k 10 t.1 in
        let d = ih (omega arith) w in
        record {
          bytes = b ∷ d.bytes;
          digits = digit b d.bytes (leb-true 48 b u.0) (leb-true b 57 u.1) d.digits;
          spelt = ap (λ (l : List ℕ). b ∷ l) d.spelt;
          some = omega (arith, d.some);
          few = omega (arith, d.few);
          says = d.says;
        }

-- a decimal
record Spelt (stop : ℕ) (bs : List ℕ) (n : ℕ) (later : List ℕ) : Type 0 where
  bytes : List ℕ
  split : bs ≡ bytes ++ stop ∷ later
  is : Decimal bytes n

spelt : (stop : ℕ) (bs : List ℕ) {n : ℕ} {later : List ℕ} → decimal_to stop bs ≡ got n later → Spelt stop bs n later
unfolding decimal_to read_back
spelt stop bs e =
    let d = numeral stop 0 0 bs (omega arith) e in
    record { bytes = d.bytes; split = d.spelt; is = record { digits = d.digits; some = omega (arith, d.some); few = omega (arith, d.few); says = d.says } }

decimal_as : {bytes : List ℕ} {m n : ℕ} → m ≡ n → Decimal bytes m → Decimal bytes n
decimal_as e d = record { digits = d.digits; some = d.some; few = d.few; says = d.says ∙ e }

-- a line
pub record Lined (bs : List ℕ) (t : Triplet) (later : List ℕ) : Type 0 where
  pub front : List ℕ
  pub split : bs ≡ front ++ later
  pub is : Line front t

pub lined : (bs : List ℕ) {t : Triplet} {later : List ℕ} → line bs ≡ got t later → Lined bs t later
unfolding line
lined bs {t} {later} e =
    let a = then_got (decimal_to space bs) _ e in
    let b = then_got (decimal_to space a.later) _ a.rest in
    let d = then_got (decimal_to feed b.later) _ b.rest in
    let i = spelt space bs a.first in
    let j = spelt space a.later b.first in
    let v = spelt feed b.later d.first in
    let same : triplet a.front b.front d.front ≡ t = cc d.rest in
    let end : d.later ≡ later = cc d.rest in
    record {
      front = i.bytes ++ space ∷ j.bytes ++ space ∷ v.bytes ++ feed ∷ [];
      split =
          i.split
          ∙ ap (λ (l : List ℕ). i.bytes ++ space ∷ l) (j.split ∙ ap (λ (l : List ℕ). j.bytes ++ space ∷ l) (v.split ∙ ap (λ (l : List ℕ). v.bytes ++ feed ∷ l) end))
          ∙ sym (simp append_assoc);
      is = record {
        rows = i.bytes;
        cols = j.bytes;
        vals = v.bytes;
        spelt = refl;
        row = decimal_as (ap (λ (t : Triplet). t.row) same) i.is;
        col = decimal_as (ap (λ (t : Triplet). t.col) same) j.is;
        value = decimal_as (ap (λ (t : Triplet). t.value) same) v.is;
      };
    }

-- lines
pub record LinedAll (bs : List ℕ) (ts : List Triplet) (later : List ℕ) : Type 0 where
  pub front : List ℕ
  pub split : bs ≡ front ++ later
  pub is : Lines front ts

pub lined_all : (k : ℕ) (bs : List ℕ) {ts : List Triplet} {later : List ℕ} → lines k bs ≡ got ts later → LinedAll bs ts later
unfolding lines
lined_all zero bs {ts} {later} e =
    let n : ts ≡ [] = cc in
    let l : bs ≡ later = cc in
    record { front = []; split = l; is = rw n unlined }
lined_all (suc k) bs {ts} {later} e = go (line bs) refl (λ rest us u. lined_all k rest {ts = us} {later = later} u)
  where
    go : (r : Read Triplet) → line bs ≡ r → ((rest : List ℕ) (us : List Triplet) → lines k rest ≡ got us later → LinedAll rest us later) → LinedAll bs ts later
    go nothing q ih = absurd (lines_first k bs e q)
    go (got t rest) q ih =
        let w = lines_tail k bs q e in
        let f = lined bs q in
        let g = ih rest w.others w.read in
        record {
          front = f.front ++ g.front;
          split = f.split ∙ ap (λ (l : List ℕ). f.front ++ l) g.split ∙ sym (append_assoc f.front g.front later);
          is = subst (Lines (f.front ++ g.front)) (sym w.all) (entry f.front g.front t w.others f.is g.is);
        }

-- a front
pub fronted : (front bs : List ℕ) {x : Bool} {later : List ℕ} → past front bs ≡ got x later → bs ≡ front ++ later
unfolding past
fronted [] bs e = cc
fronted (f ∷ front) [] e = absurd (unread e)
fronted (f ∷ front) (b ∷ bs) {x} {later} e = go (eqb b f) refl e (fronted front bs {x = x} {later = later})
  where
    go : (y : Bool) → eqb b f ≡ y → elim y [ true ↦ past front bs | false ↦ nothing ] ≡ got x later → (past front bs ≡ got x later → bs ≡ front ++ later) → b ∷ bs ≡ f ∷ (front ++ later)
    go true q w ih = let same : b ≡ f = eqb-true b f q in let tail : bs ≡ front ++ later = ih w in cc
    go false q w ih = absurd (unread w)

-- comments up to a byte that is read after them; `within` says that one has started
unfoldable opened : Bool → List ℕ → List ℕ → List ℕ
opened true said comments = said ++ feed ∷ comments
opened false said comments = comments

record Commented (within : Bool) (bs rest : List ℕ) : Type 0 where
  said : List ℕ
  comments : List ℕ
  quiet : Plain said
  are : Comments comments
  split : bs ≡ opened within said comments ++ rest

ended : {b : ℕ} {rest : List ℕ} → ◌≡◌ {A = List ℕ} [] (b ∷ rest) → ⊥
ended e = let z : ◌≡◌ {A = ℕ} 0 1 = cc in omega arith

commented : (within : Bool) (bs : List ℕ) {b : ℕ} {rest : List ℕ} → uncomment within bs ≡ b ∷ rest → Commented within bs (b ∷ rest)
unfolding uncomment opened
commented true [] e = absurd (ended e)
commented false [] e = absurd (ended e)
commented true (c ∷ bs) {b} {rest} e = go (eqb c feed) refl e (commented false bs {b = b} {rest = rest}) (commented true bs {b = b} {rest = rest})
  where
    go : (x : Bool) → eqb c feed ≡ x → elim x [ true ↦ uncomment false bs | false ↦ uncomment true bs ] ≡ b ∷ rest
        → (uncomment false bs ≡ b ∷ rest → Commented false bs (b ∷ rest)) → (uncomment true bs ≡ b ∷ rest → Commented true bs (b ∷ rest)) → Commented true (c ∷ bs) (b ∷ rest)
    go true q w f t =
        let g = f w in
        let same : c ≡ feed = eqb-true c feed q in
        record { said = []; comments = g.comments; quiet = blank; are = g.are; split = λ i. same i ∷ g.split i }
    go false q w f t =
        let g = t w in
        record { said = c ∷ g.said; comments = g.comments; quiet = plain c g.said (eqb-false c feed q) g.quiet; are = g.are; split = ap (λ (l : List ℕ). c ∷ l) g.split }
commented false (c ∷ bs) {b} {rest} e = go (eqb c percent) refl e (commented true bs {b = b} {rest = rest})
  where
    go : (x : Bool) → eqb c percent ≡ x → elim x [ true ↦ uncomment true bs | false ↦ c ∷ bs ] ≡ b ∷ rest → (uncomment true bs ≡ b ∷ rest → Commented true bs (b ∷ rest)) → Commented false (c ∷ bs) (b ∷ rest)
    go true q w t =
        let g = t w in
        let same : c ≡ percent = eqb-true c percent q in
        record { said = []; comments = percent ∷ g.said ++ feed ∷ g.comments; quiet = blank; are = comment g.said g.comments g.quiet g.are; split = λ i. same i ∷ g.split i }
    go false q w t = record { said = []; comments = []; quiet = blank; are = uncommented; split = w }

-- the size line, with what stands before it
pub record Sized (text : List ℕ) (s : Triplet) (later : List ℕ) : Type 0 where
  pub comments : List ℕ
  pub size : List ℕ
  pub split : text ≡ banner ++ comments ++ size ++ later
  pub are : Comments comments
  pub is : Line size s

line_none : {t : Triplet} {later : List ℕ} → line [] ≡ got t later → ⊥
unfolding line decimal_to decimal_on ◌then◌
line_none e = unread e

pub sized_by : (text : List ℕ) {s : Triplet} {later : List ℕ} → size_line text ≡ got s later → Sized text s later
unfolding size_line opened
sized_by text {s} {later} e =
    let a = then_got (past banner text) _ e in
    go a.later (fronted banner text a.first) (uncomment false a.later) refl a.rest
  where
    go : (rest : List ℕ) → text ≡ banner ++ rest → (bs : List ℕ) → uncomment false rest ≡ bs → line bs ≡ got s later → Sized text s later
    go rest p [] q w = absurd (line_none w)
    go rest p (b ∷ bs) q w =
        let g = commented false rest q in
        let l = lined (b ∷ bs) w in
        record {
          comments = g.comments;
          size = l.front;
          split = p ∙ ap (λ (r : List ℕ). banner ++ r) (g.split ∙ ap (λ (r : List ℕ). g.comments ++ r) l.split) ∙ sym (simp append_assoc);
          are = g.are;
          is = l.is;
        }

-- nothing follows
whole_got : {A : Type 0} (r : Read A) {x : A} {later : List ℕ} → whole r ≡ got x later → (r ≡ got x []) × (later ≡ [])
unfolding whole
whole_got nothing e = absurd (unread e)
whole_got (got y []) e = (cc, cc)
whole_got (got y (b ∷ bs)) e = absurd (unread e)

-- what stands in a text that is read
marked : (text : List ℕ) {m : Market} {later : List ℕ} → market text ≡ got m later
    → (length text ≤ 32768) × (size_line text then (λ s later. lines s.value later then λ ts end. got (market_of s.row s.col ts) end) ≡ got m []) × (later ≡ [])
marked text {m} {later} e = go (ltb 32768 (length text)) refl (sym (market_turn text refl) ∙ e)
  where
    go : (x : Bool) → ltb 32768 (length text) ≡ x
        → elim x [ true ↦ nothing | false ↦ whole (size_line text then λ s later. lines s.value later then λ ts end. got (market_of s.row s.col ts) end) ] ≡ got m later
        → (length text ≤ 32768) × (size_line text then (λ s later. lines s.value later then λ ts end. got (market_of s.row s.col ts) end) ≡ got m []) × (later ≡ [])
    go true q w = absurd (unread w)
    go false q w = let r = whole_got _ w in (ltb-false 32768 (length text) q, r.0, r.1)

-- a text that is read leaves no byte
pub reads_whole : (text : List ℕ) {m : Market} {later : List ℕ} → market text ≡ got m later → later ≡ []
reads_whole text e = (marked text e).2

-- a whole text
pub reads_sound : (text : List ℕ) (m : Market) → market text ≡ got m [] → Text text m.nrows m.ncols m.entries
reads_sound text m e =
    let k = marked text e in
    let a = then_got (size_line text) _ k.1 in
    let b = then_got (lines a.front.value a.later) _ a.rest in
    let same : market_of a.front.row a.front.col b.front ≡ m = cc b.rest in
    let end : b.later ≡ [] = cc b.rest in
    let s = sized_by text a.first in
    let l = lined_all a.front.value a.later b.first in
    subst (λ (m : Market). Text text m.nrows m.ncols m.entries) same
    (record {
      comments = s.comments;
      size = s.size;
      lines = l.front;
      spelt =
          s.split ∙ ap (λ (r : List ℕ). banner ++ s.comments ++ s.size ++ r) (l.split ∙ ap (λ (r : List ℕ). l.front ++ r) end ∙ append-nil l.front);
      commented = s.are;
      sized = subst (λ (n : ℕ). Line s.size (triplet a.front.row a.front.col n)) (sym (lines_length a.front.value a.later b.first)) s.is;
      lined = l.is;
      short = k.0;
    })
