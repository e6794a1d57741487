-- Binary digits of numbers: what a set bit, a cleared bit and a count of bits come to. The laws of masks rest on these.
use mathlib.Core.Logic.{◌≢◌}
use mathlib.Core.Path.{◌≡◌, refl, sym, ap, subst, ◌∙◌}
use Prim.Native.Nat.{ℕ, zero, suc, ◌+◌, ◌-◌, ◌*◌, ◌/◌, ◌%◌, ◌^◌, ◌≤◌, ◌<◌}
use native.Mathlib.Decide.{dec_lt}
use native.Mathlib.Nat.{suc-mul, mod-lt, div_self, div-eq_of_lt, mul-mod_left, pow-suc, one-mul}
use native.Mathlib.Numerals.{add-one, one-add}
use native.Mathlib.Omega.{arith}
use lib.Arith.{digits_div}
use lib.Bits.{bit_or, bit_and, bit_xor, or_shr, or_mod, or_zero_r, xor_shr, xor_mod, xor_zero_r, or_add_and, and_high}
use lib.Count.{ones, ones_step, ones-le}
use lib.Dec.{lit<}
use lib.Pow.{suc_ones, pow_pos, pow-lt, pow-add, shr_lt, shl_exact, shl-shr, mod-pow-add}

abbrev pub digit : ℕ → ℕ → ℕ
digit m i = m / 2 ^ i % 2

pub digit_below : (m i : ℕ) → digit m i < 2
digit_below m i = mod-lt (m / 2 ^ i) (lit< tt)

pub digit_zero : (i : ℕ) → digit 0 i ≡ 0
digit_zero i = ap (λ (x : ℕ). x % 2) (div-eq_of_lt (pow_pos i))

-- ---- digits of a power of two

power_same : (i : ℕ) → digit (2 ^ i) i ≡ 1
power_same i = ap (λ (x : ℕ). x % 2) (div_self (pow_pos i))

power_above : (d j : ℕ) → digit (2 ^ (suc d + j)) j ≡ 0
power_above d j =
    ap (λ (x : ℕ). x / 2 ^ j % 2) (pow-add 2 (suc d) j) ∙ ap (λ (x : ℕ). x % 2) (shl-shr (2 ^ suc d) j)
    ∙ ap (λ (x : ℕ). x % 2) (pow-suc 2 d) ∙ mul-mod_left (2 ^ d) 2

power_other : (i j : ℕ) → i ≢ j → digit (2 ^ i) j ≡ 0
power_other i j n = go (dec_lt i j)
  where
    go : Dec (i < j) → digit (2 ^ i) j ≡ 0
    go (yes h) = ap (λ (x : ℕ). x % 2) (div-eq_of_lt (pow-lt h))
    go (no h) =
        let e : i ≡ suc (i - suc j) + j = omega arith in
        ap (λ (x : ℕ). digit (2 ^ x) j) e ∙ power_above (i - suc j) j

-- ---- a digit set by `|`

or_digit : (a b i : ℕ) → digit (bit_or a b) i ≡ bit_or (digit a i) (digit b i)
or_digit a b i = ap (λ (x : ℕ). x % 2) (or_shr a b i) ∙ or_mod (a / 2 ^ i) (b / 2 ^ i) 1

or_one : (x : ℕ) → x < 2 → bit_or x 1 ≡ 1
or_one zero h = refl
or_one (suc zero) h = refl
or_one (suc (suc x)) h = absurd (omega arith)

pub set_same : (m i : ℕ) → digit (bit_or m (2 ^ i)) i ≡ 1
set_same m i = or_digit m (2 ^ i) i ∙ ap (bit_or (digit m i)) (power_same i) ∙ or_one (digit m i) (digit_below m i)

pub set_other : (m i j : ℕ) → i ≢ j → digit (bit_or m (2 ^ i)) j ≡ digit m j
set_other m i j n = or_digit m (2 ^ i) j ∙ ap (bit_or (digit m j)) (power_other i j n) ∙ or_zero_r (digit m j)

and_power : (m k : ℕ) → bit_and m (2 ^ k) ≡ digit m k * 2 ^ k
and_power m k =
    let e : 2 ^ (1 + k) - 2 ^ k ≡ 2 ^ k = omega (arith, pow-suc 2 k, ap (λ (x : ℕ). 2 ^ x) (one-add k)) in
    ap (bit_and m) (sym e) ∙ and_high m 1 k

-- a digit that is 1 already: nothing changes
pub set_again : (m i : ℕ) → digit m i ≡ 1 → bit_or m (2 ^ i) ≡ m
set_again m i h =
    let e : bit_and m (2 ^ i) ≡ 2 ^ i = and_power m i ∙ ap (λ (x : ℕ). x * 2 ^ i) h ∙ one-mul (2 ^ i) in
    omega (arith, or_add_and m (2 ^ i))

-- ---- a digit flipped by `^`

xor_digit : (a b i : ℕ) → digit (bit_xor a b) i ≡ bit_xor (digit a i) (digit b i)
xor_digit a b i = ap (λ (x : ℕ). x % 2) (xor_shr a b i) ∙ xor_mod (a / 2 ^ i) (b / 2 ^ i) 1

pub flip_same : (m i : ℕ) → digit m i ≡ 1 → digit (bit_xor m (2 ^ i)) i ≡ 0
flip_same m i h = xor_digit m (2 ^ i) i ∙ ap (bit_xor (digit m i)) (power_same i) ∙ ap (λ (x : ℕ). bit_xor x 1) h

pub flip_other : (m i j : ℕ) → i ≢ j → digit (bit_xor m (2 ^ i)) j ≡ digit m j
flip_other m i j n = xor_digit m (2 ^ i) j ∙ ap (bit_xor (digit m j)) (power_other i j n) ∙ xor_zero_r (digit m j)

-- ---- all digits below place n are 1: one more digit at a time

full_next : (n m d : ℕ) → d < 2 → d ≡ 1 → m % 2 ^ n ≡ 2 ^ n - 1 → d * 2 ^ n + m % 2 ^ n ≡ 2 ^ suc n - 1
full_next n m d small e h =
    ap (λ (x : ℕ). x * 2 ^ n + m % 2 ^ n) e ∙ omega (arith, pow-suc 2 n, pow_pos n, one-mul (2 ^ n))

next_full : (n m d : ℕ) → d < 2 → d * 2 ^ n + m % 2 ^ n ≡ 2 ^ suc n - 1 → (d ≡ 1) × (m % 2 ^ n ≡ 2 ^ n - 1)
next_full n m zero small h = absurd (omega (arith, pow-suc 2 n, pow_pos n, mod-lt m (pow_pos n)))
next_full n m (suc zero) small h = (refl, omega (arith, pow-suc 2 n, pow_pos n, one-mul (2 ^ n)))
next_full n m (suc (suc d)) small h = absurd (omega arith)

low_digits : (n m : ℕ) → m % 2 ^ suc n ≡ digit m n * 2 ^ n + m % 2 ^ n
low_digits n m = ap (λ (x : ℕ). m % 2 ^ x) (sym (one-add n)) ∙ mod-pow-add m 1 n

pub full_suc : (n m : ℕ) → digit m n ≡ 1 → m % 2 ^ n ≡ 2 ^ n - 1 → m % 2 ^ suc n ≡ 2 ^ suc n - 1
full_suc n m e h = low_digits n m ∙ full_next n m (digit m n) (digit_below m n) e h

pub suc_full : (n m : ℕ) → m % 2 ^ suc n ≡ 2 ^ suc n - 1 → (digit m n ≡ 1) × (m % 2 ^ n ≡ 2 ^ n - 1)
suc_full n m h = next_full n m (digit m n) (digit_below m n) (sym (low_digits n m) ∙ h)

-- ---- n ones counted below place n are all of them

half_below : (n m : ℕ) → m < 2 ^ suc n → m / 2 < 2 ^ n
half_below n m h = shr_lt n 1 (subst (λ (x : ℕ). m < 2 ^ x) (sym (add-one n)) h)

pub counted_full : (n m : ℕ) → m < 2 ^ n → ones m ≡ n → m ≡ 2 ^ n - 1
counted_full zero m h e = omega arith
counted_full (suc n) m h e =
    let q : ones (m / 2) ≤ n = ones-le n (m / 2) (half_below n m h) in
    let s : m / 2 ≡ 2 ^ n - 1 = counted_full n (m / 2) (half_below n m h) (omega (arith, ones_step m)) in
    omega (arith, ones_step m, pow-suc 2 n, pow_pos n)

-- ---- what the code computes for `1 << k`

pub one_shifted : (k : ℕ) → k < 16 → (1 * 2 ^ k) % 2 ^ 16 ≡ 2 ^ k
one_shifted k h = shl_exact 1 k 16 (lit< tt) (omega arith) ∙ one-mul (2 ^ k)

-- ---- the low digits of a mask of ones

pub ones_cut : (n k : ℕ) → (2 ^ (n + k) - 1) / 2 ^ k ≡ 2 ^ n - 1
ones_cut n k =
    let high = 2 ^ n - 1 in
    let whole : 2 ^ (n + k) ≡ high * 2 ^ k + 2 ^ k = pow-add 2 n k ∙ (ap (λ (x : ℕ). x * 2 ^ k) (sym (suc_ones n)) ∙ suc-mul high (2 ^ k)) in
    let split : 2 ^ (n + k) - 1 ≡ high * 2 ^ k + (2 ^ k - 1) = omega (arith, pow_pos k) in
    let small : 2 ^ k - 1 < 2 ^ k = omega (arith, pow_pos k) in
    ap (λ (x : ℕ). x / 2 ^ k) split ∙ digits_div high small
