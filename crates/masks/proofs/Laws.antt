-- What masks promise: which parties are in a mask that was changed, how large it is, and what its count says.
-- The crates above cite these laws and never open a mask.
use mathlib.Core.Bool.{Bool, true, false, cond}
use mathlib.Core.Logic.{◌↔◌}
use mathlib.Core.Path.{◌≡◌, refl, sym, ap, subst, ◌∙◌}
use Prim.Native.Nat.{ℕ, zero, suc, ◌-◌, ◌/◌, ◌%◌, ◌^◌, ◌*◌, ◌≤◌, ◌<◌}
use native.Mathlib.Nat.{mod-eq_of_lt}
use native.Mathlib.Omega.{arith}
use borrow.Author.Tests.{eq-eqb, ne_eqb}
use lib.Bits.{bit_or, bit_xor, or_lt, xor_lt}
use lib.Count.{ones, ones-ones}
use lib.Dec.{T, eqb, eqb→eq}
use lib.Pow.{pow-lt, ones_lt, le_ones, lt_of_le_ones}
use Rattle.lists.specs.Tests.{each}
use Rattle.lists.proofs.Choice.{by_cond, by_both, by_eq, and_left, and_right, both, true_T, each_in, in_each}
use Rattle.masks.specs.Mask.{has, with, without, put, all, has_all, count}
use Rattle.masks.proofs.Digits.{digit, digit_zero, set_same, set_other, set_again, flip_same, flip_other, full_suc, suc_full, counted_full, one_shifted}

-- ---- who is in a mask at all

pub has_nobody : (m : ℕ) → T (has m 0) → ⊥
unfolding has
has_nobody m t = t

pub has_party : (m i : ℕ) → T (has m i) → 1 ≤ i
has_party m zero t = absurd (has_nobody m t)
has_party m (suc i) t = omega arith

pub has_zero : (i : ℕ) → T (has 0 i) → ⊥
unfolding has
has_zero zero t = t
has_zero (suc i) t = rw (digit_zero i) at t

pub has_positive : (m i : ℕ) → T (has m i) → 0 < m
has_positive zero i t = absurd (has_zero i t)
has_positive (suc m) i t = omega arith

-- ---- a party put in

pub has_with_same : (m i : ℕ) → 1 ≤ i → has (with m i) i ≡ true
unfolding has with
has_with_same m zero h = absurd (omega arith)
has_with_same m (suc i) h = rw (set_same m i)

pub has_with_other : (m i j : ℕ) → (i ≡ j → ⊥) → has (with m i) j ≡ has m j
unfolding has with
has_with_other m i zero n = refl
has_with_other m zero (suc j) n = refl
has_with_other m (suc i) (suc j) n = rw (set_other m i j (λ e. n (ap suc e)))

-- ---- a party taken out

pub has_without_same : (m i : ℕ) → has (without m i) i ≡ false
unfolding has without
has_without_same m zero = refl
has_without_same m (suc i) =
    by_both (λ b. has m (suc i) ≡ b → has (cond b (bit_xor m (2 ^ i)) m) (suc i) ≡ false) (has m (suc i))
    (λ t e. rw (flip_same m i (eqb→eq (digit m i) 1 t)))
    (λ t e. e) refl

pub has_without_other : (m i j : ℕ) → (i ≡ j → ⊥) → has (without m i) j ≡ has m j
unfolding has without
has_without_other m i zero n = refl
has_without_other m zero (suc j) n = refl
has_without_other m (suc i) (suc j) n =
    by_cond (λ x. has x (suc j) ≡ has m (suc j)) (has m (suc i)) (bit_xor m (2 ^ i)) m
    (λ t. rw (flip_other m i j (λ e. n (ap suc e)))) (λ t. refl)

-- ---- a party put in or taken out

pub has_put_same : (m i : ℕ) (b : Bool) → 1 ≤ i → has (put m i b) i ≡ b
unfolding put
has_put_same m i true h = has_with_same m i h
has_put_same m i false h = has_without_same m i

pub has_put_other : (m i j : ℕ) (b : Bool) → (i ≡ j → ⊥) → has (put m i b) j ≡ has m j
unfolding put
has_put_other m i j true n = has_with_other m i j n
has_put_other m i j false n = has_without_other m i j n

-- a party that is in the mask already changes nothing
pub with_again : (m i : ℕ) → T (has m i) → with m i ≡ m
unfolding has with
with_again m zero t = absurd t
with_again m (suc i) t = set_again m i (eqb→eq (digit m i) 1 t)

-- ---- a mask of parties 1 to n stays one

pub with_below : (n m i : ℕ) → m < 2 ^ n → i ≤ n → with m i < 2 ^ n
unfolding with
with_below n m zero h l = h
with_below n m (suc i) h l = or_lt n m (2 ^ i) h (pow-lt (omega arith))

pub without_below : (n m i : ℕ) → m < 2 ^ n → i ≤ n → without m i < 2 ^ n
unfolding without
without_below n m zero h l = h
without_below n m (suc i) h l =
    by_cond (λ x. x < 2 ^ n) (has m (suc i)) (bit_xor m (2 ^ i)) m (λ t. xor_lt n m (2 ^ i) h (pow-lt (omega arith))) (λ t. h)

pub put_below : (n m i : ℕ) (b : Bool) → m < 2 ^ n → i ≤ n → put m i b < 2 ^ n
unfolding put
put_below n m i true h l = with_below n m i h l
put_below n m i false h l = without_below n m i h l

pub all_below : (n : ℕ) → all n < 2 ^ n
unfolding all
all_below n = ones_lt n

pub below_all : (n m : ℕ) → m ≤ all n → m < 2 ^ n
unfolding all
below_all n m h = lt_of_le_ones n h

pub all_above : (n m : ℕ) → m < 2 ^ n → m ≤ all n
unfolding all
all_above n m h = le_ones n h

-- ---- each of parties 1 to n is in the mask

pub has_all_has : (n m i : ℕ) → T (has_all n m) → 1 ≤ i → i ≤ n → T (has m i)
unfolding has_all
has_all_has n m i t low high = each_in n (has m) t i low high

pub has_has_all : (n m : ℕ) → ((i : ℕ) → 1 ≤ i → i ≤ n → T (has m i)) → T (has_all n m)
unfolding has_all
has_has_all n m f = in_each n (has m) f

-- the same as a test of numbers: the low n digits are those of `all n`
pub has_all_rest : (n m : ℕ) → T (has_all n m) → m % 2 ^ n ≡ all n
unfolding has_all each has all
has_all_rest zero m t = omega arith
has_all_rest (suc n) m t =
    full_suc n m (eqb→eq (digit m n) 1 (and_right (each n (has m)) (has m (suc n)) t))
    (has_all_rest n m (and_left (each n (has m)) (has m (suc n)) t))

pub rest_has_all : (n m : ℕ) → m % 2 ^ n ≡ all n → T (has_all n m)
unfolding has_all each has all
rest_has_all zero m e = tt
rest_has_all (suc n) m e =
    let q = suc_full n m e in
    both (each n (has m)) (has m (suc n)) (rest_has_all n m q.1) (true_T (has m (suc n)) (eq-eqb (digit m n) 1 q.0))

pub has_all_all : (n : ℕ) → T (has_all n (all n))
has_all_all n = rest_has_all n (all n) (mod-eq_of_lt (all_below n))

pub has_all_in : (n i : ℕ) → 1 ≤ i → i ≤ n → T (has (all n) i)
has_all_in n i low high = has_all_has n (all n) i (has_all_all n) low high

pub all_positive : (n : ℕ) → 1 ≤ n → 0 < all n
all_positive n h = has_positive (all n) 1 (has_all_in n 1 (omega arith) h)

-- ---- the count of a mask of parties 1 to n is n exactly when all of them are in it

pub counted_all : (n m : ℕ) → m < 2 ^ n → count m ≡ n → T (has_all n m)
unfolding count all
counted_all n m h e = rest_has_all n m (mod-eq_of_lt h ∙ counted_full n m h e)

pub all_counted : (n m : ℕ) → m < 2 ^ n → T (has_all n m) → count m ≡ n
unfolding count all
all_counted n m h t = ap ones (sym (mod-eq_of_lt h) ∙ has_all_rest n m t) ∙ ones-ones n

pub counted : (n m : ℕ) → m < 2 ^ n → (count m ≡ n) ↔ T (has_all n m)
counted n m h = (counted_all n m h, all_counted n m h)

-- ---- how proofs use the laws: what a mask keeps, and where its parties come from

pub mark : (m i : ℕ) → 1 ≤ i → T (has (with m i) i)
mark m i h = true_T (has (with m i) i) (has_with_same m i h)

pub keep : (m i j : ℕ) → T (has m j) → T (has (with m i) j)
keep m i j t =
    by_eq i j
    (λ e. subst (λ k. T (has (with m i) k)) e (mark m i (subst (λ k. 1 ≤ k) (sym e) (has_party m j t))))
    (λ k. rw (has_with_other m i j k) t)

-- a party that was not in the mask may be written either way, and no other is lost
pub keep_other : (m i : ℕ) (b : Bool) → (T (has m i) → ⊥) → (j : ℕ) → T (has m j) → T (has (put m i b) j)
keep_other m i b f j t = rw (has_put_other m i j b (λ e. f (subst (λ k. T (has m k)) (sym e) t))) t

pub with_elim : (P : ℕ → Type 0) (m i : ℕ) → P i → ((j : ℕ) → T (has m j) → P j) → (j : ℕ) → T (has (with m i) j) → P j
with_elim P m i p f j t = by_eq i j (λ e. subst P e p) (λ k. f j (rw (has_with_other m i j k) at t))

pub put_elim : (P : ℕ → Type 0) (m i : ℕ) (b : Bool) → (T b → P i) → ((j : ℕ) → T (has m j) → P j) → (j : ℕ) → T (has (put m i b) j) → P j
put_elim P m i b f g j t =
    by_eq i j
    (λ e. let here : T (has (put m i b) i) = subst (λ k. T (has (put m i b) k)) (sym e) t in
    subst P e (f (rw (has_put_same m i b (has_party (put m i b) i here)) at here)))
    (λ k. g j (rw (has_put_other m i j b k) at t))

pub mark_positive : (m i : ℕ) → 1 ≤ i → 0 < with m i
mark_positive m i h = has_positive (with m i) i (mark m i h)

-- a family of masks, one of which gets a party
pub keep_at : (g : ℕ → ℕ) (i d : ℕ) (k j : ℕ) → T (has (g k) j) → T (has (cond (eqb i k) (with (g i) d) (g k)) j)
keep_at g i d k j t =
    by_cond (λ m. T (has m j)) (eqb i k) (with (g i) d) (g k)
    (λ e. keep (g i) d j (subst (λ z. T (has (g z) j)) (sym (eqb→eq i k e)) t)) (λ e. t)

pub at_elim : (P : ℕ → ℕ → Type 0) (g : ℕ → ℕ) (i d : ℕ) → P i d → ((k j : ℕ) → T (has (g k) j) → P k j)
    → (k j : ℕ) → T (has (cond (eqb i k) (with (g i) d) (g k)) j) → P k j
at_elim P g i d p f k j =
    by_cond (λ m. T (has m j) → P k j) (eqb i k) (with (g i) d) (g k)
    (λ e. subst (λ z. T (has (with (g i) d) j) → P z j) (eqb→eq i k e) (with_elim (P i) (g i) d p (f i) j))
    (λ e. f k j)

-- ---- what the code computes, for a party from 1 on

pub has_code : (m i : ℕ) → 1 ≤ i → eqb (m / 2 ^ (i - 1) % 2) 1 ≡ has m i
unfolding has
has_code m zero h = absurd (omega arith)
has_code m (suc i) h =
    let e : suc i - 1 ≡ i = omega arith in
    ap (λ (k : ℕ). eqb (digit m k) 1) e

pub with_code : (m i : ℕ) → 1 ≤ i → i ≤ 16 → bit_or m ((1 * 2 ^ (i - 1)) % 2 ^ 16) ≡ with m i
unfolding with
with_code m zero h l = absurd (omega arith)
with_code m (suc i) h l =
    let e : suc i - 1 ≡ i = omega arith in
    ap (bit_or m) (ap (λ (k : ℕ). (1 * 2 ^ k) % 2 ^ 16) e ∙ one_shifted i (omega arith))

pub without_code : (m i : ℕ) → has m i ≡ true → i ≤ 16 → bit_xor m ((1 * 2 ^ (i - 1)) % 2 ^ 16) ≡ without m i
unfolding without
without_code m zero t l = absurd (has_nobody m (true_T (has m 0) t))
without_code m (suc i) t l =
    let e : suc i - 1 ≡ i = omega arith in
    rw t (ap (bit_xor m) (ap (λ (k : ℕ). (1 * 2 ^ k) % 2 ^ 16) e ∙ one_shifted i (omega arith)))

pub without_none : (m i : ℕ) → has m i ≡ false → m ≡ without m i
unfolding without
without_none m zero t = refl
without_none m (suc i) t = rw t

pub has_all_code : (n m : ℕ) → eqb (m % 2 ^ n) (all n) ≡ has_all n m
has_all_code n m =
    by_both (λ b. has_all n m ≡ b → eqb (m % 2 ^ n) (all n) ≡ b) (has_all n m)
    (λ t e. eq-eqb (m % 2 ^ n) (all n) (has_all_rest n m t))
    (λ t e. ne_eqb (m % 2 ^ n) (all n) (λ q. absurd (rw e at (rest_has_all n m q)))) refl
