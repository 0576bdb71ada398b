-- The primes: the test is true exactly for them, and trial division by odd numbers up to the square root decides it.
-- Assumes nothing.
use mathlib.Core.Path.{◌≡◌, refl, sym, ◌∙◌, subst}
use mathlib.Core.Logic.{inl, inr, ⊎_elim, ◌↔◌}
use mathlib.Core.Bool.{Bool, true, false, not, ◌&&◌, and-true}
use Prim.Native.Nat.{ℕ, ◌+◌, ◌*◌, ◌/◌, ◌%◌, ◌≤◌, ◌<◌, ◌∣◌}
use native.Mathlib.Nat.{le_of_dvd, pos_of_dvd_of_pos, dvd_of_mod-eq-zero, mod-eq-zero_of_dvd, dvd-mul_left, dvd-mul_right, dvd_trans, div-mul_cancel, le-div_iff_mul-le, div-lt_iff_lt-mul, mul-le-mul, le_refl, one-mul, le_trans}
use native.Mathlib.Decide.{ℕ_discrete, dec_lt}
use native.Mathlib.Omega.{arith}
use lib.Dec.{leb, eqb}
use borrow.Author.Tests.{le-leb, ne_eqb, not-true, not-false}
use Rattle.lists.specs.Find.{any}
use Rattle.lists.proofs.Decides.{Decides, holds, fails, decides_as, decides_and, decides_le, decides_eq}
use Rattle.lists.proofs.Find.{any_false, any_some}
use Rattle.field.specs.Prime.{Prime, is_prime, is_modulus, largest}

-- no number from 2 on and below k divides n
pub record Clear (n k : ℕ) : Type 0 where
  pub none : (d : ℕ) → 2 ≤ d → d < k → d ∣ n → ⊥

-- a prime has no divisor from 2 on below it, and the other way
prime_clear : {n : ℕ} → Prime n → Clear n n
prime_clear {n} p = record {
  none = λ d two less divides.
      ⊎_elim (λ (e : d ≡ 1). omega arith) (λ (e : d ≡ n). omega arith) (p.divisors d divides);
}

clear_prime : {n : ℕ} → 2 ≤ n → Clear n n → Prime n
clear_prime {n} two clear = record {
  least = two;
  divisors = λ d divides. let pos : 0 < n = omega arith in
      let some : 0 < d = pos_of_dvd_of_pos divides pos in
      let most : d ≤ n = le_of_dvd pos divides in
      elim (ℕ_discrete d 1) [
        | yes q ↦ inl q
        | no q ↦ elim (ℕ_discrete d n) [
          | yes s ↦ inr s
          | no s ↦ absurd (clear.none d (omega arith) (omega arith) divides)
        ]
      ];
}

-- what `isPrime` asks of one number
abbrev hit : ℕ → ℕ → Bool
hit n d = leb 2 d && eqb (n % d) 0

decides_hit : (n d : ℕ) → Decides (hit n d) ((2 ≤ d) × (n % d ≡ 0))
decides_hit n d = decides_and (decides_le 2 d) (decides_eq (n % d) 0)

decides_any : (n : ℕ) → Decides (not (any n (hit n))) (Clear n n)
decides_any n = record {
  yes = λ e. record {
    none = λ d two less divides.
        let missed : hit n d ≡ false = any_false n (hit n) (not-true (any n (hit n)) e) d less in
        (decides_hit n d).no missed (two, mod-eq-zero_of_dvd d divides);
  };
  no = λ e clear.
      let s = any_some n (hit n) (not-false (any n (hit n)) e) in
      let w = (decides_hit n s.0).yes s.2 in
      clear.none s.0 w.0 s.1 (dvd_of_mod-eq-zero s.0 w.1);
}

decides_prime : (n : ℕ) → Decides (is_prime n) (Prime n)
unfolding is_prime
decides_prime n =
    decides_as (λ w. clear_prime w.0 w.1) (λ p. (p.least, prime_clear p)) (decides_and (decides_le 2 n) (decides_any n))

-- the test is true exactly for the primes
pub prime_iff : (n : ℕ) → (is_prime n ≡ true) ↔ Prime n
prime_iff n = ((decides_prime n).yes, holds (decides_prime n))

pub decides_modulus : (p : ℕ) → Decides (is_modulus p) (Prime p × (p ≤ 2147483647))
unfolding is_modulus largest
decides_modulus p = decides_and (decides_prime p) (decides_le p 2147483647)

-- the modulus test is true exactly for the primes in 2..2,147,483,647
pub modulus_iff : (p : ℕ) → (is_modulus p ≡ true) ↔ (Prime p × (p ≤ 2147483647))
modulus_iff p = ((decides_modulus p).yes, holds (decides_modulus p))

pub not_modulus : (p : ℕ) → (Prime p → p ≤ 2147483647 → ⊥) → is_modulus p ≡ false
not_modulus p refused = fails (decides_modulus p) (λ w. refused w.0 w.1)

-- up to the largest, the two tests are one
pub modulus_below : (p : ℕ) → p ≤ 2147483647 → is_prime p ≡ is_modulus p
unfolding is_modulus largest
modulus_below p h = sym (rw (le-leb p 2147483647 h) (and-true (is_prime p)))

-- a divisor from 2 on and below n
pub not_prime : {n d : ℕ} → 2 ≤ d → d < n → d ∣ n → is_prime n ≡ false
not_prime {n} {d} two less divides =
    fails (decides_prime n) (λ p. (prime_clear p).none d two less divides)

-- 2 is the one even prime
pub even_modulus : (p : ℕ) → 2 ≤ p → p % 2 ≡ 0 → eqb p 2 ≡ is_modulus p
unfolding is_modulus is_prime any largest
even_modulus p two even = elim (ℕ_discrete p 2) [
  | yes q ↦ rw q refl
  | no q ↦ ne_eqb p 2 q ∙ sym (not_modulus p (λ prime most.
      (prime_clear prime).none 2 (le_refl 2) (omega arith) (dvd_of_mod-eq-zero 2 even)))
]

-- of two factors one is at most the square root
pub root_prime : {n d : ℕ} → 2 ≤ n → n < d * d → Clear n d → Prime n
root_prime {n} {d} two small clear = clear_prime two (record { none = refuse })
  where
    refuse : (e : ℕ) → 2 ≤ e → e < n → e ∣ n → ⊥
    refuse e two less divides =
        let same : n / e * e ≡ n = div-mul_cancel e divides in
        elim (dec_lt e d) [
          | yes l ↦ clear.none e two l divides
          | no l ↦ elim (dec_lt (n / e) d) [
            | yes k ↦ elim (dec_lt (n / e) 2) [
              | yes j ↦ omega (arith, rw one-mul at (mul-le-mul {n₁ = n / e} {n₂ = 1} (omega arith) (le_refl e)))
              | no j ↦ clear.none (n / e) (omega arith) k (subst (λ (x : ℕ). n / e ∣ x) same (dvd-mul_right (n / e) e))
            ]
            | no k ↦ omega (arith, small, mul-le-mul {n₁ = d} {m₁ = d} {n₂ = n / e} {m₂ = e} (omega arith) (omega arith))
          ]
        ]

-- trial division has come to the odd number d
pub record Trial (n d : ℕ) : Type 0 where
  pub from : 3 ≤ d
  pub odd : d % 2 ≡ 1
  pub clear : Clear n d

odd_refuses : (n d : ℕ) → n % 2 ≡ 1 → d % 2 ≡ 0 → d ∣ n → ⊥
odd_refuses n d odd even divides =
    let z : n % 2 ≡ 0 = mod-eq-zero_of_dvd 2 (dvd_trans 2 (dvd_of_mod-eq-zero 2 even) divides) in omega arith

pub trial_start : {n : ℕ} → n % 2 ≡ 1 → Trial n 3
trial_start {n} odd = record {
  from = le_refl 3;
  odd = refl;
  clear = record { none = λ d two less divides. odd_refuses n d odd (let e : d ≡ 2 = omega arith in rw e refl) divides };
}

-- neither d nor the even number after it divides n
pub trial_more : {n d : ℕ} → n % 2 ≡ 1 → (d ∣ n → ⊥) → Trial n d → Trial n (d + 2)
trial_more {n} {d} odd fails t = record {
  from = omega arith;
  odd = omega arith;
  clear = record {
    none = λ e two less divides. elim (dec_lt e d) [
      | yes l ↦ t.clear.none e two l divides
      | no l ↦ elim (ℕ_discrete e d) [
        | yes q ↦ fails (subst (λ (x : ℕ). x ∣ n) q divides)
        | no q ↦ odd_refuses n e odd (omega arith) divides
      ]
    ];
  };
}

-- the quotient fell below d: n is a prime
pub trial_ends : {n d : ℕ} → 2 ≤ n → Trial n d → n / d < d → Prime n
trial_ends {n} {d} two t less = root_prime two ((div-lt_iff_lt-mul (omega arith)).0 less) t.clear

-- while it has not, d is at most a third of n
pub trial_room : {n d : ℕ} → Trial n d → d ≤ n / d → 3 * d ≤ n
trial_room {n} {d} t more =
    le_trans (mul-le-mul t.from (le_refl d)) ((le-div_iff_mul-le (omega arith)).0 more)

-- and where d divides n, n is none
pub trial_found : {n d : ℕ} → Trial n d → d ≤ n / d → n / d * d ≡ n → is_prime n ≡ false
trial_found {n} {d} t more e =
    let third : 3 * d ≤ n = trial_room t more in
    let less : d < n = omega arith in
    not_prime (omega arith) less (subst (λ (x : ℕ). d ∣ x) e (dvd-mul_left d (n / d)))
