-- A part of a list that is lent and put back changed: what the whole then holds, and what the parts of it hold.
use mathlib.Core.List.{List, [], ◌∷◌, ◌++◌}
use mathlib.Core.Logic.{◌⊎◌, inl, inr}
use mathlib.Core.Path.{◌≡◌, sym, ap, ◌∙◌}
use Prim.Native.Nat.{ℕ, ◌+◌, ◌-◌, ◌*◌, ◌≤◌, ◌<◌}
use native.Mathlib.Decide.{dec_le}
use native.Mathlib.Nat.{zero-add, suc-add, mul-le-mul_right}
use native.Mathlib.Omega.{arith}
use lib.ListN.{length, get_or, set, take, drop, length-append, length-take, length-drop, take-append-drop, get_or-append}
use lib.Seq.{length-take-le, get_or-append-add, get_or-take, get_or-drop, take_at, drop_at, ext_get_or, set-append_left, take-set-le, take-set-lt, drop-set-lt, drop-set-add}
use Rattle.lists.specs.Parts.{part, put_back}

-- ---- a part

pub part_length : (a n : ℕ) (l : List ℕ) → a + n ≤ length l → length (part a n l) ≡ n
part_length a n l fits = length-take-le n (drop a l) (simp length-drop (omega arith))

pub get_or_part : (a n : ℕ) (l : List ℕ) (i : ℕ) → i < n → get_or (part a n l) i 0 ≡ get_or l (a + i) 0
get_or_part a n l i h = get_or-take n (drop a l) i 0 h ∙ get_or-drop a l i 0

-- a write to the whole, seen in the part
pub part_set : (a n : ℕ) (l : List ℕ) (j v : ℕ) → a + n ≤ length l → j < n → part a n (set l (a + j) v) ≡ set (part a n l) j v
part_set a n l j v fits h = ap (take n) (drop-set-add a l j v) ∙ take-set-lt n (drop a l) j v h

pub part_set_below : (a n : ℕ) (l : List ℕ) (i v : ℕ) → i < a → part a n (set l i v) ≡ part a n l
part_set_below a n l i v h = ap (take n) (drop-set-lt a l i v h)

pub part_set_above : (a n : ℕ) (l : List ℕ) (i v : ℕ) → a + n ≤ i → part a n (set l i v) ≡ part a n l
part_set_above a n l i v h =
    let e : i ≡ a + (i - a) = omega arith in
    ap (λ (k : ℕ). part a n (set l k v)) e ∙ ap (take n) (drop-set-add a l (i - a) v) ∙ take-set-le n (drop a l) (i - a) v (omega arith)

-- ---- a part put back

pub put_back_part : (a n : ℕ) (l : List ℕ) → a + n ≤ length l → put_back a n l (part a n l) ≡ l
put_back_part a n l fits = ap (λ (r : List ℕ). take a l ++ r) (take-append-drop n (drop a l)) ∙ take-append-drop a l

module _ (a n : ℕ) (l cells : List ℕ) (fits : a + n ≤ length l) (same : length cells ≡ n) where
  before : length (take a l) ≡ a
  before = length-take-le a l (omega arith)

  pub put_back_length : length (put_back a n l cells) ≡ length l
  put_back_length = simp (length-append, length-take, length-drop) (omega arith)

  -- each cell of it: those of the part are the new ones, all others stay
  pub get_or_put_back_before : (i : ℕ) → i < a → get_or (put_back a n l cells) i 0 ≡ get_or l i 0
  get_or_put_back_before i h =
      get_or-append (take a l) (cells ++ drop n (drop a l)) 0 i (omega (arith, before)) ∙ get_or-take a l i 0 h

  pub get_or_put_back_at : (i : ℕ) → i < n → get_or (put_back a n l cells) (a + i) 0 ≡ get_or cells i 0
  get_or_put_back_at i h =
      ap (λ (k : ℕ). get_or (put_back a n l cells) (k + i) 0) (sym before)
      ∙ get_or-append-add (take a l) (cells ++ drop n (drop a l)) i 0
      ∙ get_or-append cells (drop n (drop a l)) 0 i (omega arith)

  pub get_or_put_back_after : (i : ℕ) → a + n ≤ i → get_or (put_back a n l cells) i 0 ≡ get_or l i 0
  get_or_put_back_after i h =
      let j : i ≡ length (take a l) + (length cells + (i - (a + n))) = omega (arith, before) in
      let k : a + (n + (i - (a + n))) ≡ i = omega arith in
      ap (λ (x : ℕ). get_or (put_back a n l cells) x 0) j
      ∙ get_or-append-add (take a l) (cells ++ drop n (drop a l)) (length cells + (i - (a + n))) 0
      ∙ get_or-append-add cells (drop n (drop a l)) (i - (a + n)) 0
      ∙ get_or-drop n (drop a l) (i - (a + n)) 0 ∙ get_or-drop a l (n + (i - (a + n))) 0 ∙ ap (λ (x : ℕ). get_or l x 0) k

  -- its parts: the one put back, and any that lies apart from it
  pub part_put_back_same : part a n (put_back a n l cells) ≡ cells
  part_put_back_same =
      ap (take n) (drop_at (take a l) (cells ++ drop n (drop a l)) a before) ∙ take_at cells (drop n (drop a l)) n same

  pub part_put_back_other : (b m : ℕ) → b + m ≤ length l → (b + m ≤ a) ⊎ (a + n ≤ b) → part b m (put_back a n l cells) ≡ part b m l
  part_put_back_other b m h d =
      let e : length (part b m (put_back a n l cells)) ≡ m = part_length b m (put_back a n l cells) (omega (arith, put_back_length)) in
      ext_get_or 0 (part b m (put_back a n l cells)) (part b m l) (e ∙ sym (part_length b m l h))
      (λ i k. get_or_part b m (put_back a n l cells) i (omega arith) ∙ cell i (omega arith) d ∙ sym (get_or_part b m l i (omega arith)))
    where
      cell : (i : ℕ) → i < m → (b + m ≤ a) ⊎ (a + n ≤ b) → get_or (put_back a n l cells) (b + i) 0 ≡ get_or l (b + i) 0
      cell i k (inl u) = get_or_put_back_before (b + i) (omega arith)
      cell i k (inr u) = get_or_put_back_after (b + i) (omega arith)

-- a write to the lent part is a write to the whole
set_append_right : (xs ys : List ℕ) (i v : ℕ) → set (xs ++ ys) (length xs + i) v ≡ xs ++ set ys i v
set_append_right [] ys i v = ap (λ (k : ℕ). set ys k v) (zero-add i)
set_append_right (x ∷ xs) ys i v =
    ap (λ (k : ℕ). set (x ∷ (xs ++ ys)) k v) (suc-add (length xs) i) ∙ ap (λ (r : List ℕ). x ∷ r) (set_append_right xs ys i v)

pub put_back_set : (a n : ℕ) (l cells : List ℕ) (j v : ℕ) → a + n ≤ length l → length cells ≡ n → j < n
    → put_back a n l (set cells j v) ≡ set (put_back a n l cells) (a + j) v
put_back_set a n l cells j v fits same h =
    ap (λ (r : List ℕ). take a l ++ r) (sym (set-append_left cells (drop n (drop a l)) j v (omega arith)))
    ∙ sym (set_append_right (take a l) (cells ++ drop n (drop a l)) j v)
    ∙ ap (λ (k : ℕ). set (put_back a n l cells) (k + j) v) (length-take-le a l (omega arith))

-- ---- where parts of one width lie: the place says which part and which cell of it

by_order : {P : Type 0} (x y : ℕ) → (x < y → P) → (y < x → P) → (x ≡ y → P) → P
by_order x y f g k = elim (dec_le x y) [ yes l ↦ elim (dec_le y x) [ yes m ↦ k (omega arith) | no m ↦ f (omega (arith, m)) ] | no l ↦ g (omega (arith, l)) ]

pub digits_same : (w x y s u : ℕ) → s < w → u < w → x * w + s ≡ y * w + u → (x ≡ y) × (s ≡ u)
digits_same w x y s u hs hu e =
    by_order x y
    (λ l. absurd (omega (arith, mul-le-mul_right w l)))
    (λ l. absurd (omega (arith, mul-le-mul_right w l)))
    (λ q. (q, omega (arith, ap (λ (z : ℕ). z * w) q)))
