-- What the laws ask of the modulus and of U.
use Rattle.std.specs.Prelude.{◌≡◌, ℕ, ◌*◌, ◌%◌, ◌≤◌, ◌<◌, cond, List, eqb, length, set}
use Rattle.field.specs.Inverse.{inverse}
use Rattle.linear.proofs.Heads.{Heads}
use Rattle.sparse.specs.Pivots.{mark}
use Rattle.sparse.specs.Rows.{Entry}
use Rattle.walk.specs.Step.{Upper, pivot_at}
use Rattle.steps.specs.Rows.{value_of}

-- each residue but 0 times its inverse leaves 1
pub record Inverts (p : ℕ) : Type 0 where
  pub least : 2 ≤ p
  pub law : (a : ℕ) → 0 < a → a < p → a * inverse p a % p ≡ 1

-- the table of n columns is that of the heads h of k rows: it holds row i at its head, and the mark elsewhere
pub record Tabled (n k : ℕ) (h : ℕ → ℕ) (pivots : List ℕ) : Type 0 where
  pub wide : n ≤ 1024
  pub long : n ≤ length pivots
  pub holds : (i : ℕ) → i < k → pivot_at pivots (h i) ≡ i
  pub row : (c : ℕ) → c < n → (pivot_at pivots c ≡ mark → ⊥) → pivot_at pivots c < k
  pub head : (c : ℕ) → c < n → (pivot_at pivots c ≡ mark → ⊥) → h (pivot_at pivots c) ≡ c

-- echelon form: U has k rows with distinct heads h, in any order, and their table
pub record Echelon (p n k : ℕ) (u : Upper) (h : ℕ → ℕ) : Type 0 where
  pub heads : Heads p n k u.value h
  pub table : Tabled n k h u.pivots

-- a row x begins at column g, where no pivot stands
pub record Begins (n : ℕ) (pivots : List ℕ) (x : ℕ → ℕ) (g : ℕ) : Type 0 where
  pub within : g < n
  pub free : pivot_at pivots g ≡ mark
  pub stands : x g ≡ 0 → ⊥
  pub before : (j : ℕ) → j < g → x j ≡ 0

-- f with a in place k
unfoldable pub with_last {ℓ} : {A : Type ℓ} → ℕ → A → (ℕ → A) → ℕ → A
with_last k a f i = cond (eqb i k) a (f i)

-- v is U with one row more, numbered k, with its head at column g
pub record Grown (n k g : ℕ) (u : Upper) (new : List Entry) (v : Upper) : Type 0 where
  pub kept : (i : ℕ) → i < k → (j : ℕ) → j < n → v.value i j ≡ u.value i j
  pub added : (j : ℕ) → j < n → v.value k j ≡ value_of new j
  pub placed : v.pivots ≡ set u.pivots g k
