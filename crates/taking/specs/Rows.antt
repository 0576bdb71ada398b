-- One row taken by steps 3 and 4: what is seen afterwards.
use Rattle.std.specs.Prelude.{◌≡◌, Bool, true, ℕ, ◌+◌, ◌≤◌, ◌<◌, List, length, None, Some}
use Rattle.lists.specs.Table.{table}
use Rattle.field.specs.Prime.{is_modulus}
use Rattle.sparse.specs.Rows.{entries}
use Rattle.state.specs.Fresh.{keeps}
use Rattle.state.specs.declared.Mode.{Mode}
use Rattle.state.specs.declared.Mode.TheVariants.{Full}
use Rattle.walk.specs.Asks.{Pivoted}
use Rattle.walk.specs.Step.{Taken, Answer}
use Rattle.walk.specs.Step as S
use Rattle.steps.specs.Rows.{CleanRow}
use Rattle.steps.specs.Setting.{Echelon}
use Rattle.taking.specs.Stores.{Upper, with_u, Lower, with_l, kept_entries}
use Rattle.taking.specs.declared.Walked.{Walked}

-- the head's column (the column count for None), how many entries U and L got, and the lists afterwards
pub record Shown : Type 0 where
  pub told : Walked
  pub u : Upper
  pub l : Lower
  pub dense : List ℕ

abbrev pub shown : Walked → Upper → Lower → List ℕ → Shown
shown t u l dense = record { told = t; u = u; l = l; dense = dense }

abbrev pub walked_to : ℕ → ℕ → ℕ → Walked
walked_to head u_len l_len = record { head = head; u_len = u_len; l_len = l_len }

-- what a row comes to, stored: accepted, a row more in U and in L; None, a row more in L. Dense memory is zero
unfoldable pub storing : Mode → ℕ → ℕ → ℕ → ℕ → ℕ → Answer → Taken → Upper → Lower → Shown
storing mode n rank u_fill l_rows l_fill (Some g) t u l =
    shown (walked_to g (length t.u) (kept_entries mode t.l)) (with_u rank u_fill g t.u u) (with_l mode l_rows l_fill t.l l) (table n (λ j. 0))
storing mode n rank u_fill l_rows l_fill None t u l = shown (walked_to n 0 (kept_entries mode t.l)) u (with_l mode l_rows l_fill t.l l) (table n (λ j. 0))

-- by 5 to 7, 13 and 14: a clean row that isn't empty, dense memory that is zero, U's rows and their table, and room for what the row comes to
pub record Takes (on : Bool) (p n : ℕ) (mode : Mode) (rank u_fill l_rows l_fill : ℕ) (cols vals dense : List ℕ) (u : Upper) (l : Lower) : Type 0 where
  pub modulus : is_modulus p ≡ true
  pub narrow : n ≤ 1024
  pub zero : dense ≡ table n (λ j. 0)
  pub same : length cols ≡ length vals
  pub some : 0 < length cols
  pub clean : CleanRow p n (entries cols vals)
  pub heads : ℕ → ℕ
  pub echelon : Echelon p n rank (S.upper u.cols u.vals u.ptrs u.pivots) heads
  pub pivoted : Pivoted n u.cols u.vals u.ptrs u.pivots
  pub low : rank ≤ 1024
  pub u_columns : u_fill + length (S.step on p n rank (S.upper u.cols u.vals u.ptrs u.pivots) (entries cols vals)).u ≤ length u.cols
  pub u_numbers : u_fill + length (S.step on p n rank (S.upper u.cols u.vals u.ptrs u.pivots) (entries cols vals)).u ≤ length u.vals
  pub u_pointer : rank + 1 < length u.ptrs
  pub l_columns : keeps mode ≡ true → l_fill + (rank + 1) ≤ length l.cols
  pub l_numbers : mode ≡ Full → l_fill + (rank + 1) ≤ length l.vals
  pub l_pointer : keeps mode ≡ true → l_rows + 1 < length l.ptrs
