-- What the grammar accepts is read.
-- Assumes nothing.
use mathlib.Core.Path.{◌≡◌, refl, ap, ◌∙◌}
use mathlib.Core.Bool.{Bool, true, false, not, ◌&&◌}
use mathlib.Core.List.{List, [], ◌∷◌, ◌++◌, append_assoc, append-nil}
use Prim.Native.Nat.{ℕ, ◌+◌, ◌-◌, ◌*◌, ◌≤◌, ◌<◌}
use native.Mathlib.Omega.{arith}
use lib.Dec.{leb, ltb}
use lib.ListN.{length}
use borrow.Author.Tests.{eq-eqb, ne_eqb, le-leb, lt-ltb, le-ltb}
use Rattle.text.specs.Decimals.{read_on, read_back}
use Rattle.triplets.specs.Triplets.{Triplet, triplet}
use Rattle.market.specs.Grammar.{feed, space, percent, banner, Plain, blank, plain, Comments, uncommented, comment, Digits, undigited, digit, Decimal, Line, Lines, unlined, entry, Text}
use Rattle.market.specs.Parse.{got, past, uncomment, decimal_on, decimal_to, line, lines, size_line, market_of, whole, market, ◌then◌}
use Rattle.market.proofs.Fronts.{past_turn, within_turn, outside_turn}
use Rattle.market.proofs.Numbers.{decimal_turn}
use Rattle.market.proofs.Passes.{market_turn}

-- a decimal, up to a byte below the digits
module _ (stop : ℕ) (low : stop < 48) (later : List ℕ) where
  digits_read : (k m : ℕ) {bytes : List ℕ} → Digits bytes → 1 ≤ k + length bytes → k + length bytes ≤ 10 → decimal_on stop k m (bytes ++ stop ∷ later) ≡ got (read_on m bytes) later
  unfolding read_on
  digits_read k m undigited s f = decimal_turn stop k m stop later (eq-eqb stop stop refl) (ne_eqb k 0 (λ z. omega arith)) refl
  digits_read k m (digit b bs a z d) s f =
      let more : leb 48 b && leb b 57 && ltb k 10 ≡ true = rw (le-leb _ _ a, le-leb _ _ z, lt-ltb k 10 (omega arith)) in
      decimal_turn stop k m b (bs ++ stop ∷ later) (ne_eqb b stop (λ e. omega arith)) refl more ∙ digits_read (k + 1) (m * 10 + (b - 48)) d (omega arith) (omega arith)

  pub decimal_read : {bytes : List ℕ} {n : ℕ} → Decimal bytes n → decimal_to stop (bytes ++ stop ∷ later) ≡ got n later
  unfolding decimal_to read_back
  decimal_read d = digits_read 0 0 d.digits (omega (arith, d.some)) (omega (arith, d.few)) ∙ ap (λ (n : ℕ). got n later) d.says

space_low : space < 48
unfolding space
space_low = omega arith

feed_low : feed < 48
unfolding feed
feed_low = omega arith

-- a line
pub line_read_lem : {bytes : List ℕ} {t : Triplet} → Line bytes t → (later : List ℕ) → line (bytes ++ later) ≡ got t later
unfolding line ◌then◌
line_read_lem {bytes} {t} h later =
    ap (λ (bs : List ℕ). line (bs ++ later)) h.spelt
    ∙ simp append_assoc
    (rw (decimal_read space space_low (h.cols ++ space ∷ (h.vals ++ feed ∷ later)) h.row, decimal_read space space_low (h.vals ++ feed ∷ later) h.col, decimal_read feed feed_low later h.value))

-- lines
pub lines_read : {bytes : List ℕ} {ts : List Triplet} → Lines bytes ts → (later : List ℕ) → lines (length ts) (bytes ++ later) ≡ got ts later
unfolding lines ◌then◌
lines_read unlined later = refl
lines_read (entry front bytes t ts h hs) later = rw (append_assoc, line_read_lem h (bytes ++ later), lines_read hs later)

-- a front
pub front_read_lem : (front later : List ℕ) → past front (front ++ later) ≡ got true later
unfolding past
front_read_lem [] later = refl
front_read_lem (b ∷ front) later = past_turn b b front (front ++ later) (eq-eqb b b refl) ∙ front_read_lem front later

-- a comment that has started
plain_read : {said : List ℕ} → Plain said → (later : List ℕ) → uncomment true (said ++ feed ∷ later) ≡ uncomment false later
plain_read blank later = within_turn feed later ∙ ap (λ (x : Bool). uncomment (not x) later) (eq-eqb feed feed refl)
plain_read (plain b bs other h) later = within_turn b (bs ++ feed ∷ later) ∙ ap (λ (x : Bool). uncomment (not x) (bs ++ feed ∷ later)) (ne_eqb b feed other) ∙ plain_read h later

-- comments, up to a byte that starts none
pub comments_read : {comments : List ℕ} → Comments comments → (b : ℕ) (bs : List ℕ) → (b ≡ percent → ⊥) → uncomment false (comments ++ b ∷ bs) ≡ b ∷ bs
comments_read uncommented b bs other = outside_turn b bs (ne_eqb _ _ other)
comments_read (comment said later h hs) b bs other =
    outside_turn percent _ (eq-eqb percent percent refl) ∙ ap (uncomment true) (append_assoc said (feed ∷ later) (b ∷ bs)) ∙ plain_read h (later ++ b ∷ bs) ∙ comments_read hs b bs other

-- a line starts with a digit, so that comments end before it
after_comments : {comments size : List ℕ} {t : Triplet} → Comments comments → Line size t → (later : List ℕ) → uncomment false (comments ++ size ++ later) ≡ size ++ later
unfolding percent
after_comments {comments} {size} c h later = go h.row.digits h.row.some h.spelt
  where
    tail : List ℕ → List ℕ
    tail rows = rows ++ space ∷ h.cols ++ space ∷ h.vals ++ feed ∷ []

    go : {rows : List ℕ} → Digits rows → 1 ≤ length rows → size ≡ tail rows → uncomment false (comments ++ size ++ later) ≡ size ++ later
    go undigited s e = absurd (omega arith)
    go (digit b bs a z d) s e = rw (append_assoc, e) (comments_read c b (tail bs ++ later) (λ q. omega arith))

-- the size line of a text
size_read : {text : List ℕ} {nrows ncols : ℕ} {ts : List Triplet} (h : Text text nrows ncols ts) → size_line text ≡ got (triplet nrows ncols (length ts)) h.lines
unfolding size_line ◌then◌
size_read {text} h =
    let split : text ≡ banner ++ (h.comments ++ h.size ++ h.lines) = h.spelt ∙ simp append_assoc in
    rw (split, front_read_lem banner (h.comments ++ h.size ++ h.lines), after_comments h.commented h.sized h.lines) (line_read_lem h.sized h.lines)

-- a whole text
pub reads_complete : (text : List ℕ) (nrows ncols : ℕ) (ts : List Triplet) → Text text nrows ncols ts → market text ≡ got (market_of nrows ncols ts) []
unfolding ◌then◌ whole
reads_complete text nrows ncols ts h =
    let all : lines (length ts) h.lines ≡ got ts [] = rw append-nil at (lines_read h.lined []) in
    market_turn text (le-ltb 32768 (length text) h.short) ∙ rw (size_read h, all)
