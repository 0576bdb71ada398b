-- The notebook modulo 7 as accounts: N1 to N3, N1 to N5, N8 and no columns get a yes; with one number altered, a no.
-- Assumes nothing.
use Rattle.std.specs.Prelude.{Err, Ok}
use mathlib.Core.Path.{◌≡◌, refl}
use mathlib.Core.Bool.{Bool, true, false}
use mathlib.Core.List.{List, [], ◌∷◌}
use Prim.Native.Nat.{ℕ}
use Rattle.lists.specs.Find.{any}
use Rattle.lists.specs.Sum.{Σ}
use Rattle.lists.specs.Table.{table}
use Rattle.field.specs.Prime.{is_prime, largest, is_modulus}
use Rattle.sparse.specs.Matrix.{Matrix, matrix, part, row, value_in, value_at}
use Rattle.sparse.specs.Pivots.{mark}
use Rattle.sparse.specs.Put.{cols_of, values_of}
use Rattle.sparse.specs.Refusals.{refuse, ◌else◌, lowest, first_of}
use Rattle.sparse.specs.Rows.{entries, rows_of, row_at}
use Rattle.sparse.specs.Tests.{modulus_test, size_test, shape_test, column_test, columns_test, row_test, rows_test, value_test, values_test, rows_values_test, matrix_test, well_formed, clean}
use Rattle.sparse.specs.declared.Refusal.TheVariants.{Shape, Mismatch, State}
use Rattle.state.specs.Memory.{memory}
use Rattle.state.specs.State.{head_of, headless, misplaced, u_fault, crooked}
use Rattle.steps.specs.History.{at_once}
use Rattle.steps.specs.Rows.{times}
use Rattle.telling.specs.Answers.{none}
use Rattle.accounts.specs.Account.{Account, account, u_whole, l_count, l_row, answer_at, accepted_in, without, used_in, row_fault, account_fault, is_account}
use Rattle.accounts.specs.Judgement.{unstorable, astray, diagonal, diagonal_fault, answer_fault, product_fault, judge_fault}
use Rattle.accounts.specs.Tests.{broken, answers_test, memory_test, slices_test, account_test}

-- the rows of N1 to N3: (2,4,0), (3,6,5), (1,2,6)
abbrev three : Matrix
three = matrix 3 3 (0 ∷ 2 ∷ 5 ∷ 8 ∷ []) (0 ∷ 1 ∷ 0 ∷ 1 ∷ 2 ∷ 0 ∷ 1 ∷ 2 ∷ []) (2 ∷ 4 ∷ 3 ∷ 6 ∷ 5 ∷ 1 ∷ 2 ∷ 6 ∷ [])

-- their account, by their answers, the values of U and L, and the pivots
abbrev third : List ℕ → List ℕ → List ℕ → List ℕ → Account
third answers u l pivots = account 7 three answers (memory (0 ∷ 1 ∷ 2 ∷ []) u (0 ∷ 2 ∷ 3 ∷ []) (0 ∷ 0 ∷ 1 ∷ 0 ∷ 1 ∷ []) l (0 ∷ 1 ∷ 3 ∷ 5 ∷ []) pivots)

-- N1 to N5, by L's pointers: then (0,3,1), and (1,0,0) without an L row
abbrev fifth : List ℕ → Account
fifth ptrs =
    account 7 (matrix 5 3 (0 ∷ 2 ∷ 5 ∷ 8 ∷ 10 ∷ 11 ∷ []) (0 ∷ 1 ∷ 0 ∷ 1 ∷ 2 ∷ 0 ∷ 1 ∷ 2 ∷ 1 ∷ 2 ∷ 0 ∷ []) (2 ∷ 4 ∷ 3 ∷ 6 ∷ 5 ∷ 1 ∷ 2 ∷ 6 ∷ 3 ∷ 1 ∷ 1 ∷ []))
    (0 ∷ 2 ∷ none ∷ 1 ∷ none ∷ [])
    (memory (0 ∷ 1 ∷ 2 ∷ 1 ∷ 2 ∷ []) (1 ∷ 2 ∷ 1 ∷ 1 ∷ 5 ∷ []) (0 ∷ 2 ∷ 3 ∷ 5 ∷ []) (0 ∷ 0 ∷ 1 ∷ 0 ∷ 1 ∷ 2 ∷ []) (2 ∷ 3 ∷ 5 ∷ 1 ∷ 6 ∷ 3 ∷ []) ptrs (0 ∷ 2 ∷ 1 ∷ []))

-- N8, by the columns of L: rows (0,1,5), (1,2,0), (1,3,6)
abbrev eighth : List ℕ → Account
eighth cols =
    account 7 (matrix 3 3 (0 ∷ 2 ∷ 4 ∷ 7 ∷ []) (1 ∷ 2 ∷ 0 ∷ 1 ∷ 0 ∷ 1 ∷ 2 ∷ []) (1 ∷ 5 ∷ 1 ∷ 2 ∷ 1 ∷ 3 ∷ 6 ∷ []))
    (1 ∷ 0 ∷ 2 ∷ [])
    (memory (1 ∷ 2 ∷ 0 ∷ 1 ∷ 2 ∷ []) (1 ∷ 5 ∷ 1 ∷ 2 ∷ 1 ∷ []) (0 ∷ 2 ∷ 4 ∷ 5 ∷ []) cols (1 ∷ 1 ∷ 1 ∷ 1 ∷ 1 ∷ []) (0 ∷ 1 ∷ 2 ∷ 5 ∷ []) (1 ∷ 0 ∷ 2 ∷ []))

-- two rows of no columns, by L's pointers
abbrev columnless : List ℕ → Account
columnless ptrs = account 7 (matrix 2 0 (0 ∷ 0 ∷ 0 ∷ []) [] []) (none ∷ none ∷ []) (memory [] [] (0 ∷ []) [] [] ptrs [])

abbrev judged : Account → Bool
judged a = is_account at_once a

pub says_yes : judged (third (0 ∷ 2 ∷ none ∷ []) (1 ∷ 2 ∷ 1 ∷ []) (2 ∷ 3 ∷ 5 ∷ 1 ∷ 6 ∷ []) (0 ∷ none ∷ 1 ∷ []))
    ∷ judged (fifth (0 ∷ 1 ∷ 3 ∷ 5 ∷ 6 ∷ []))
    ∷ judged (eighth (0 ∷ 1 ∷ 1 ∷ 0 ∷ 2 ∷ []))
    ∷ judged (columnless (0 ∷ []))
    ∷ []
    ≡ true ∷ true ∷ true ∷ true ∷ []
unfolding is_account account_fault row_fault used_in without accepted_in answer_at l_row l_count u_whole judge_fault product_fault answer_fault diagonal_fault diagonal astray unstorable at_once none times u_fault misplaced headless head_of clean well_formed matrix_test rows_values_test values_test value_test rows_test row_test columns_test column_test shape_test size_test modulus_test refuse ◌else◌ lowest first_of entries rows_of row_at cols_of values_of mark part row value_in value_at is_prime largest is_modulus any Σ table
says_yes = refl

-- the same accounts with one number altered: an answer, a value of U or L, a pivot; L's row sorted by column; an L row under step 1
pub says_no : judged (third (0 ∷ 1 ∷ none ∷ []) (1 ∷ 2 ∷ 1 ∷ []) (2 ∷ 3 ∷ 5 ∷ 1 ∷ 6 ∷ []) (0 ∷ none ∷ 1 ∷ []))
    ∷ judged (third (0 ∷ 2 ∷ 1 ∷ []) (1 ∷ 2 ∷ 1 ∷ []) (2 ∷ 3 ∷ 5 ∷ 1 ∷ 6 ∷ []) (0 ∷ none ∷ 1 ∷ []))
    ∷ judged (third (none ∷ 2 ∷ none ∷ []) (1 ∷ 2 ∷ 1 ∷ []) (2 ∷ 3 ∷ 5 ∷ 1 ∷ 6 ∷ []) (0 ∷ none ∷ 1 ∷ []))
    ∷ judged (third (0 ∷ 2 ∷ none ∷ []) (1 ∷ 3 ∷ 1 ∷ []) (2 ∷ 3 ∷ 5 ∷ 1 ∷ 6 ∷ []) (0 ∷ none ∷ 1 ∷ []))
    ∷ judged (third (0 ∷ 2 ∷ none ∷ []) (1 ∷ 2 ∷ 1 ∷ []) (2 ∷ 3 ∷ 4 ∷ 1 ∷ 6 ∷ []) (0 ∷ none ∷ 1 ∷ []))
    ∷ judged (third (0 ∷ 2 ∷ none ∷ []) (1 ∷ 2 ∷ 1 ∷ []) (9 ∷ 3 ∷ 5 ∷ 1 ∷ 6 ∷ []) (0 ∷ none ∷ 1 ∷ []))
    ∷ judged (third (0 ∷ 2 ∷ none ∷ []) (1 ∷ 2 ∷ 1 ∷ []) (2 ∷ 3 ∷ 5 ∷ 1 ∷ 6 ∷ []) (0 ∷ 0 ∷ 1 ∷ []))
    ∷ judged (eighth (0 ∷ 1 ∷ 0 ∷ 1 ∷ 2 ∷ []))
    ∷ judged (fifth (0 ∷ 1 ∷ 3 ∷ 5 ∷ 6 ∷ 6 ∷ []))
    ∷ judged (columnless (0 ∷ 0 ∷ []))
    ∷ []
    ≡ false ∷ false ∷ false ∷ false ∷ false ∷ false ∷ false ∷ false ∷ false ∷ false ∷ []
unfolding is_account account_fault row_fault used_in without accepted_in answer_at l_row l_count u_whole judge_fault product_fault answer_fault diagonal_fault diagonal astray unstorable at_once none times u_fault misplaced headless head_of clean well_formed matrix_test rows_values_test values_test value_test rows_test row_test columns_test column_test shape_test size_test modulus_test refuse ◌else◌ lowest first_of entries rows_of row_at cols_of values_of mark part row value_in value_at is_prime largest is_modulus any Σ table
says_no = refl

-- and the refusals: none; 3, an answer is missing; 11, dense memory or pivots are short; 13, U's values aren't as many as its columns, L has no pointer, or its pointers don't start at 0
pub refuses : account_test (0 ∷ 0 ∷ 0 ∷ []) (third (0 ∷ 2 ∷ none ∷ []) (1 ∷ 2 ∷ 1 ∷ []) (2 ∷ 3 ∷ 5 ∷ 1 ∷ 6 ∷ []) (0 ∷ none ∷ 1 ∷ []))
    ∷ account_test (0 ∷ 0 ∷ 0 ∷ []) (third (0 ∷ 2 ∷ []) (1 ∷ 2 ∷ 1 ∷ []) (2 ∷ 3 ∷ 5 ∷ 1 ∷ 6 ∷ []) (0 ∷ none ∷ 1 ∷ []))
    ∷ account_test (0 ∷ 0 ∷ []) (third (0 ∷ 2 ∷ none ∷ []) (1 ∷ 2 ∷ 1 ∷ []) (2 ∷ 3 ∷ 5 ∷ 1 ∷ 6 ∷ []) (0 ∷ none ∷ 1 ∷ []))
    ∷ account_test (0 ∷ 0 ∷ 0 ∷ []) (third (0 ∷ 2 ∷ none ∷ []) (1 ∷ 2 ∷ 1 ∷ []) (2 ∷ 3 ∷ 5 ∷ 1 ∷ 6 ∷ []) (0 ∷ none ∷ []))
    ∷ account_test (0 ∷ 0 ∷ 0 ∷ []) (third (0 ∷ 2 ∷ none ∷ []) (1 ∷ 2 ∷ []) (2 ∷ 3 ∷ 5 ∷ 1 ∷ 6 ∷ []) (0 ∷ none ∷ 1 ∷ []))
    ∷ account_test [] (columnless [])
    ∷ account_test [] (columnless (1 ∷ []))
    ∷ []
    ≡ Ok tt ∷ Err Shape ∷ Err Mismatch ∷ Err Mismatch ∷ Err State ∷ Err State ∷ Err State ∷ []
unfolding account_test slices_test memory_test answers_test broken crooked none clean well_formed matrix_test rows_values_test values_test value_test rows_test row_test columns_test column_test shape_test size_test modulus_test refuse ◌else◌ lowest first_of part row is_prime largest is_modulus any
refuses = refl
