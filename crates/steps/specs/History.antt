-- Rows taken one after another from a fresh start, and which of them were accepted.
use Rattle.std.specs.Prelude.{◌≡◌, ℕ, ◌≤◌, ◌<◌, Bool, not, ◌||◌, cond, List, [], ◌∷◌, ◌++◌, map, eqb, length, get_or, set, None, Some}
use Rattle.lists.specs.Find.{keep}
use Rattle.sparse.specs.Pivots.{mark}
use Rattle.sparse.specs.Rows.{Entry}
use Rattle.walk.specs.Step.{Upper, pivot_at, is_none, Taken, taken, step, Answer}
use Rattle.steps.specs.Rows.{value_of, CleanRow}
use Rattle.steps.specs.Setting.{Grown, with_last}

-- where step 1 applies: an empty row, or rank equal to the column count
unfoldable pub at_once : ℕ → ℕ → List Entry → Bool
at_once n rank es = eqb (length es) 0 || eqb rank n

-- steps 1, 3 and 4
unfoldable pub answered : Bool → ℕ → ℕ → ℕ → Upper → List Entry → Taken
answered on p n rank u es = cond (at_once n rank es) (taken None [] []) (step on p n rank u es)

-- a presented row and what it was answered
pub record Told : Type 0 where
  pub row : List Entry
  pub answer : Answer

abbrev pub told : List Entry → Answer → Told
told es a = record { row = es; answer = a }

-- the accepted rows: those that were not answered None, in order
unfoldable pub accepted : List Told → List (List Entry)
accepted ts = map (λ t. t.row) (keep (λ t. not (is_none t.answer)) ts)

-- the value at column j of row i
abbrev pub values_in : List (List Entry) → ℕ → ℕ → ℕ
values_in rs i = value_of (get_or rs i [])

-- a fresh start: the mark in every column
pub record NoPivots (n : ℕ) (u : Upper) : Type 0 where
  pub wide : n ≤ 1024
  pub long : n ≤ length u.pivots
  pub marks : (c : ℕ) → c < n → pivot_at u.pivots c ≡ mark

-- U, which has k rows, before a row is taken and after, by its answer
pub data Next (on : Bool) (p n k : ℕ) (u : Upper) (es : List Entry) : Answer → Upper → Type 0 where
  stays : (answered on p n k u es).answer ≡ None → Next on p n k u es None u
  grows : (g : ℕ) (v : Upper) → (answered on p n k u es).answer ≡ Some g → Grown n k g u (answered on p n k u es).u v → Next on p n k u es (Some g) v

-- U, which has k rows, with a new row where it was accepted
unfoldable pub placed : ℕ → Upper → List Entry → Answer → Upper
placed k u new None = u
placed k u new (Some g) = record { value = with_last k (value_of new) u.value; pivots = set u.pivots g k }

-- U after one row more
unfoldable pub extended : ℕ → Upper → Taken → Upper
extended k u t = placed k u t.u t.answer

-- U after presented rows, each taken by either walk
pub data History (p n : ℕ) : List Told → Upper → Type 0 where
  fresh : (u : Upper) → NoPivots n u → History p n [] u
  more : (ts : List Told) (u : Upper) → History p n ts u → (on : Bool) (es : List Entry) → CleanRow p n es → (a : Answer) (v : Upper) → Next on p n (length (accepted ts)) u es a v → History p n (ts ++ (told es a ∷ [])) v
