-- Reading and writing numbers are inverse to each other.
use mathlib.Core.Path.{◌≡◌, refl, sym, ap, subst, ◌∙◌}
use mathlib.Core.Bool.{Bool, true, false, cond, ◌&&◌}
use mathlib.Core.List.{List, [], ◌∷◌, ◌++◌, append_assoc}
use mathlib.Core.Option.{Option, none, some, none-ne-some, some-injective}
use Prim.Native.Nat.{ℕ, zero, suc, ◌+◌, ◌-◌, ◌*◌, ◌/◌, ◌%◌, ◌≤◌, ◌<◌}
use native.Mathlib.Nat.{zero-add, div-one, div-div-eq-div-mul}
use native.Mathlib.Decide.{dec_lt}
use native.Mathlib.Omega.{arith}
use lib.Dec.{T, leb, eqb, leb→le, nleb→lt, eqb→eq}
use lib.ListN.{length, length-append}
use borrow.Author.Tests.{le-leb, lt-leb, eq-eqb, eqb-false}
use Rattle.lists.proofs.Choice.{by_cond, by_both, and_left, T_true, T_false}
use Rattle.text.specs.Writing.{space, newline, zero_digit, digit_at, decimal, line}
use Rattle.text.specs.Reading.{Digits, digits, is_digit, most, ended_by, read_number}
use Rattle.text.proofs.Digits.{digit_bounds, several}

-- ---- how a number is written, from its highest digit on

-- one digit more moves every other digit to the next place
module _ (v d : ℕ) (small : d < 10) where
  next_reached : (place : ℕ) → leb (10 * place) (v * 10 + d) ≡ leb place v
  next_reached place =
      by_both (λ b. leb (10 * place) (v * 10 + d) ≡ b) (leb place v)
      (λ t. let reached = leb→le place v t in le-leb (10 * place) (v * 10 + d) (omega arith))
      (λ t. let above = nleb→lt place v t in lt-leb (10 * place) (v * 10 + d) (omega arith))

  next_quotient : (place : ℕ) → (v * 10 + d) / (10 * place) ≡ v / place
  next_quotient place = sym (div-div-eq-div-mul (v * 10 + d) 10 place) ∙ ap (λ (q : ℕ). q / place) (omega arith)

  next_place : (place : ℕ) → digit_at (v * 10 + d) (10 * place) ≡ digit_at v place
  next_place place = rw (next_reached place, next_quotient place)

  -- v has at most four digits, so that none is lost
  written_more : 1 ≤ v → v < 10000 → decimal (v * 10 + d) ≡ decimal v ++ ((zero_digit + d) ∷ [])
  unfolding decimal
  written_more low high =
      let last : (v * 10 + d) % 10 ≡ d = omega arith in
      rw
      (next_place 1000, next_place 100, next_place 10, next_place 1, last, le-leb 1 v low, div-one v, lt-leb 10000 v high)
      (simp append_assoc)

pub written_one : (d : ℕ) → d < 10 → decimal d ≡ (zero_digit + d) ∷ []
unfolding decimal
written_one d small =
    let last : d % 10 ≡ d = omega arith in
    rw (lt-leb 10000 d (omega arith), lt-leb 1000 d (omega arith), lt-leb 100 d (omega arith), lt-leb 10 d (omega arith), last)

-- ---- what is written is read

digit_is : (d : ℕ) → d < 10 → is_digit (zero_digit + d) ≡ true
digit_is d small = rw (le-leb zero_digit (zero_digit + d) (omega arith), le-leb (zero_digit + d) 57 (omega arith))

digit_read : (v d : ℕ) (s : List ℕ) → d < 10 → v ≤ most → digits v ((zero_digit + d) ∷ s) ≡ digits (v * 10 + d) s
unfolding digits
digit_read v d s small fits =
    let value : zero_digit + d - zero_digit ≡ d = omega arith in
    rw (digit_is d small, le-leb v most fits, value)

-- a number above 0 starts with a digit above 0, and its digits are read to it
record Spelled (n : ℕ) : Type 0 where
  first : ℕ
  others : List ℕ
  low : 1 ≤ first
  small : first < 10
  written : decimal n ≡ (zero_digit + first) ∷ others
  read : (s : List ℕ) → digits first (others ++ s) ≡ digits n s

spelled_more : (v d : ℕ) → d < 10 → 1 ≤ v → v < 10000 → Spelled v → Spelled (v * 10 + d)
spelled_more v d small low high r =
    record {
      first = r.first;
      others = r.others ++ ((zero_digit + d) ∷ []);
      low = r.low;
      small = r.small;
      written = written_more v d small low high ∙ ap (λ (l : List ℕ). l ++ ((zero_digit + d) ∷ [])) r.written;
      read = λ s. rw append_assoc (r.read ((zero_digit + d) ∷ s) ∙ digit_read v d s small (omega arith));
    }

-- by the number without its last digit, which is below the bound one less
spelled : (bound n : ℕ) → n < bound → 1 ≤ n → n < 100000 → Spelled n
spelled zero n below low high = absurd (omega arith)
spelled (suc bound) n below low high = elim (dec_lt n 10) [
  | yes small ↦ record { first = n; others = []; low = low; small = small; written = written_one n small; read = λ s. refl }
  | no large ↦
      subst Spelled (omega arith)
      (spelled_more (n / 10) (n % 10) (omega arith) (omega arith) (omega arith)
      (spelled bound (n / 10) (omega arith) (omega arith) (omega arith)))
]

module _ (end : ℕ) (rest : List ℕ) where
  ended_here : (n : ℕ) → ended_by end n (end ∷ rest) ≡ some (n, rest)
  ended_here n = rw (eq-eqb end end refl)

  digits_stop : (n : ℕ) → is_digit end ≡ false → digits n (end ∷ rest) ≡ record { value = n; rest = end ∷ rest }
  unfolding digits
  digits_stop n other = rw other

  read_spelled : (n : ℕ) → n ≤ most → is_digit end ≡ false → Spelled n → read_number end (decimal n ++ (end ∷ rest)) ≡ some (n, rest)
  read_spelled n fits other r =
      let behind = r.others ++ (end ∷ rest) in
      let reads = digit_read 0 r.first behind r.small (omega arith) ∙ rw zero-add (r.read (end ∷ rest)) ∙ digits_stop n other in
      let above : zero_digit + r.first ≡ zero_digit → ⊥ = λ e. omega (arith, r.low) in
      rw r.written (sym (several end (zero_digit + r.first) behind _ (sym reads) (digit_is r.first r.small) above fits) ∙ ended_here n)

-- the byte that ends a number must be no digit: it would be read on
pub read_written : (n end : ℕ) (rest : List ℕ) → n ≤ most → is_digit end ≡ false → read_number end (decimal n ++ (end ∷ rest)) ≡ some (n, rest)
unfolding read_number decimal
read_written zero end rest fits other = ended_here end rest 0
read_written (suc n) end rest fits other =
    read_spelled end rest (suc n) fits other (spelled (suc (suc n)) (suc n) (omega arith) (omega arith) (omega arith))

-- ---- what is read was written

digit_value : (b : ℕ) → is_digit b ≡ true → (b - zero_digit < 10) × (zero_digit + (b - zero_digit) ≡ b)
digit_value b digit = let bounds = digit_bounds b digit in omega arith

digits_grow : (v : ℕ) (s : List ℕ) → v ≤ (digits v s).value
unfolding digits
digits_grow v [] = omega arith
digits_grow v (b ∷ s) =
    by_cond (λ (run : Digits). v ≤ run.value) (is_digit b && leb v most) _ _
    (λ t. let further = digits_grow (v * 10 + (b - zero_digit)) s in omega arith)
    (λ t. omega arith)

-- the digits that are read behind v are those that are written behind it
digits_back : (v : ℕ) (s : List ℕ) → 1 ≤ v → (digits v s).value ≤ most → decimal v ++ s ≡ decimal (digits v s).value ++ (digits v s).rest
unfolding digits
digits_back v [] low = λ fits. refl
digits_back v (b ∷ s) low =
    by_cond (λ (run : Digits). run.value ≤ most → decimal v ++ (b ∷ s) ≡ decimal run.value ++ run.rest) (is_digit b && leb v most) _ _
    (λ t fits.
    let (small, same) = digit_value b (T_true (is_digit b) (and_left (is_digit b) (leb v most) t)) in
    let further = digits_grow (v * 10 + (b - zero_digit)) s in
    let written = rw same at (written_more v (b - zero_digit) small low (omega arith)) in
    sym (append_assoc (decimal v) (b ∷ []) s)
    ∙ ap (λ (l : List ℕ). l ++ s) (sym written)
    ∙ digits_back (v * 10 + (b - zero_digit)) s (omega arith) fits)
    (λ t fits. refl)

-- and so are all digits from a first one above 0
number_back : (b : ℕ) (s : List ℕ) → is_digit b ≡ true → (b ≡ zero_digit → ⊥) → (digits 0 (b ∷ s)).value ≤ most
    → b ∷ s ≡ decimal (digits 0 (b ∷ s)).value ++ (digits 0 (b ∷ s)).rest
number_back b s digit above =
    let (small, same) = digit_value b digit in
    let reads = rw (zero-add, same) at (digit_read 0 (b - zero_digit) s small (omega arith)) in
    let written = rw same at (written_one (b - zero_digit) small) in
    rw reads (λ fits. ap (λ (l : List ℕ). l ++ s) (sym written) ∙ digits_back (b - zero_digit) s (omega arith) fits)

-- what is found behind a test passed it
test_passed : {A : Type 0} (test : Bool) (seen : Option A) (a : A) → cond test seen none ≡ some a → (T test) × (seen ≡ some a)
test_passed true seen a e = (tt, e)
test_passed false seen a e = absurd (none-ne-some a e)

module _ (end n : ℕ) (rest : List ℕ) where
  ended_back : (m : ℕ) (s : List ℕ) → ended_by end m s ≡ some (n, rest) → (m ≡ n) × (s ≡ end ∷ rest)
  ended_back m [] e = absurd (none-ne-some _ e)
  ended_back m (b ∷ s) e =
      let (t, found) = test_passed (eqb b end) _ _ e in
      let pair = some-injective _ _ found in
      let behind : s ≡ rest = ap (λ (p : ℕ × List ℕ). p.1) pair in
      (ap (λ (p : ℕ × List ℕ). p.0) pair, cc (eqb→eq b end t))

  number_ended : (m : ℕ) (s text : List ℕ) → m ≤ most → text ≡ decimal m ++ s → ended_by end m s ≡ some (n, rest)
      → (n ≤ most) × (text ≡ decimal n ++ (end ∷ rest))
  number_ended m s text fits written e =
      let (same, behind) = ended_back m s e in
      (omega arith, rw (← same, ← behind) written)

pub written_read : (end : ℕ) (text : List ℕ) (n : ℕ) (rest : List ℕ) → read_number end text ≡ some (n, rest)
    → (n ≤ most) × (text ≡ decimal n ++ (end ∷ rest))
unfolding read_number decimal
written_read end [] n rest e = absurd (none-ne-some _ e)
written_read end (b ∷ s) n rest e =
    let (digit, found) = test_passed (is_digit b) _ _ e in
    by_cond (λ (seen : Option (ℕ × List ℕ)). seen ≡ some (n, rest) → (n ≤ most) × (b ∷ s ≡ decimal n ++ (end ∷ rest))) (eqb b zero_digit) _ _
    (λ t. number_ended end n rest 0 s (b ∷ s) (omega arith) (ap (λ (x : ℕ). x ∷ s) (eqb→eq b zero_digit t)))
    (λ t e.
    let (small, ended) = test_passed (leb (digits 0 (b ∷ s)).value most) _ _ e in
    let fits = leb→le _ most small in
    number_ended end n rest _ _ (b ∷ s) fits
    (number_back b s (T_true (is_digit b) digit) (eqb-false b zero_digit (T_false (eqb b zero_digit) t)) fits) ended)
    found

-- ---- a line is read number by number

module _ (n : ℕ) (fits : n ≤ most) (rest : List ℕ) where
  pub line_read : (m : ℕ) (more : List ℕ) → read_number space (line (n ∷ m ∷ more) ++ rest) ≡ some (n, line (m ∷ more) ++ rest)
  unfolding line
  line_read m more =
      rw (append_assoc (decimal n ++ (space ∷ [])) (line (m ∷ more)) rest, append_assoc (decimal n) (space ∷ []) (line (m ∷ more) ++ rest))
      (read_written n space (line (m ∷ more) ++ rest) fits refl)

  pub line_end : read_number newline (line (n ∷ []) ++ rest) ≡ some (n, rest)
  unfolding line
  line_end = rw (append_assoc (decimal n) (newline ∷ []) rest) (read_written n newline rest fits refl)

-- ---- how long a number and a line are

digit_short : (n place : ℕ) → length (digit_at n place) ≤ 1
digit_short n place = by_cond (λ (text : List ℕ). length text ≤ 1) (leb place n) _ _ (λ t. omega arith) (λ t. omega arith)

-- a number has one digit at least, whatever it is
decimal_long : (n : ℕ) → 1 ≤ length (decimal n)
unfolding decimal
decimal_long n = simp length-append (omega arith)

-- and as many as there are places at most
pub decimal_short : (n : ℕ) → length (decimal n) ≤ 5
unfolding decimal
decimal_short n =
    simp length-append (omega (arith, digit_short n 10000, digit_short n 1000, digit_short n 100, digit_short n 10))

-- a line holds each number and the byte behind it
pub line_long : (ns : List ℕ) → 2 * length ns ≤ length (line ns)
unfolding line
line_long [] = omega arith
line_long (n ∷ []) = simp length-append (omega (arith, decimal_long n))
line_long (n ∷ m ∷ more) = simp length-append (omega (arith, decimal_long n, line_long (m ∷ more)))

pub line_short : (ns : List ℕ) → length (line ns) ≤ 6 * length ns + 1
unfolding line
line_short [] = omega arith
line_short (n ∷ []) = simp length-append (omega (arith, decimal_short n))
line_short (n ∷ m ∷ more) = simp length-append (omega (arith, decimal_short n, line_short (m ∷ more)))
