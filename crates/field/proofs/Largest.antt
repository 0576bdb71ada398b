-- 2,147,483,647 is a prime, computed: none of the 23,169 odd numbers from 3 to 46,339 divides it, and 46,341 is past its square root.
-- Assumes nothing.
use mathlib.Core.Path.{◌≡◌, refl, sym, ap, ◌∙◌}
use mathlib.Core.Logic.{⊎_elim}
use mathlib.Core.Bool.{Bool, true, false, true≢false}
use Prim.Native.Nat.{ℕ, zero, suc, ◌+◌, ◌*◌, ◌%◌}
use native.Mathlib.Nat.{mod-eq-zero_of_dvd}
use native.Mathlib.Omega.{arith}
use lib.Dec.{eqb, lit<, lit≤}
use borrow.Author.Tests.{eqb-false}
use Rattle.lists.proofs.Find.{told}
use Rattle.field.specs.Prime.{Prime, is_prime, is_modulus}
use Rattle.field.proofs.Primes.{Trial, trial_start, trial_more, trial_ends, prime_iff, modulus_iff}

-- none of the k numbers d, d + 2, … divides n
passes : ℕ → ℕ → ℕ → Bool
passes n zero d = true
passes n (suc k) d = elim (eqb (n % d) 0) [ true ↦ false | false ↦ passes n k (d + 2) ]

passed : (n k d : ℕ) → n % 2 ≡ 1 → Trial n d → passes n k d ≡ true → Trial n (d + 2 * k)
unfolding passes
passed n zero d odd t e = let same : d ≡ d + 2 * 0 = omega arith in rw (← same) t
passed n (suc k) d odd t e = ⊎_elim (λ q. absurd (true≢false (sym e ∙ ap next q))) (λ q.
    let same : d + 2 + 2 * k ≡ d + 2 * suc k = omega arith in
    rw (← same) (passed n k (d + 2) odd (trial_more odd (λ h. eqb-false (n % d) 0 q (mod-eq-zero_of_dvd d h)) t) (sym (ap next q) ∙ e))) (told (eqb (n % d) 0))
  where
    next : Bool → Bool
    next = elim [ true ↦ false | false ↦ passes n k (d + 2) ]

computed : passes 2147483647 23169 3 ≡ true
unfolding passes
computed = refl

pub largest_prime : Prime 2147483647
largest_prime = trial_ends (lit≤ tt) (passed 2147483647 23169 3 refl (trial_start refl) computed) (lit< tt)

pub largest_passes : is_prime 2147483647 ≡ true
largest_passes = (prime_iff 2147483647).1 largest_prime

pub largest_modulus : {p : ℕ} → p ≡ 2147483647 → is_modulus p ≡ true
largest_modulus {p} e = (modulus_iff p).1 (rw e largest_prime, omega arith)
