-- The digits at the start of a text, one after another.
use mathlib.Core.Path.{◌≡◌, refl}
use mathlib.Core.Bool.{true, false, ◌&&◌}
use mathlib.Core.List.{List, ◌∷◌}
use mathlib.Core.Option.{none}
use Prim.Native.Nat.{ℕ, ◌+◌, ◌-◌, ◌*◌, ◌≤◌, ◌<◌}
use lib.Dec.{leb, leb→le}
use lib.ListN.{length}
use Rattle.std.proofs.lemmas.List.{nil_from_length}
use borrow.Author.Tests.{le-leb, lt-leb, ne_eqb}
use Rattle.lists.proofs.Choice.{and_left, and_right, true_T, T_true}
use Rattle.text.specs.Writing.{zero_digit, nine_digit}
use Rattle.text.specs.Reading.{Digits, digits, is_digit, most, ended_by, read_number}

pub digit_bounds : (b : ℕ) → is_digit b ≡ true → (zero_digit ≤ b) × (b ≤ nine_digit)
digit_bounds b e =
    let t = true_T (is_digit b) e in
    (leb→le zero_digit b (and_left (leb zero_digit b) (leb b nine_digit) t), leb→le b nine_digit (and_right (leb zero_digit b) (leb b nine_digit) t))

module _ (v b : ℕ) (s : List ℕ) where
  -- one digit more
  pub digit_taken : (is_digit b && leb v most) ≡ true → digits v (b ∷ s) ≡ digits (v * 10 + (b - zero_digit)) s
  unfolding digits
  digit_taken goes = rw goes

  pub taken_bounds : (is_digit b && leb v most) ≡ true → ((zero_digit ≤ b) × (b ≤ nine_digit)) × (v ≤ most)
  taken_bounds goes =
      let t = true_T (is_digit b && leb v most) goes in
      (digit_bounds b (T_true (is_digit b) (and_left (is_digit b) (leb v most) t)), leb→le v most (and_right (is_digit b) (leb v most) t))

  -- another byte, or a value that is too large already, ends them
  pub digits_end : (is_digit b && leb v most) ≡ false → digits v (b ∷ s) ≡ record { value = v; rest = b ∷ s }
  unfolding digits
  digits_end stops = rw stops

-- and so does the end of the text
pub digits_none : (v : ℕ) (text : List ℕ) → length text ≡ 0 → digits v text ≡ record { value = v; rest = text }
unfolding digits
digits_none v text empty = rw (nil_from_length text empty) refl

-- ---- a number, by its first byte and its digits

pub no_byte : (end : ℕ) (text : List ℕ) → length text ≡ 0 → none ≡ read_number end text
unfolding read_number
no_byte end text empty = rw (nil_from_length text empty) refl

module _ (end b : ℕ) (s : List ℕ) where
  pub no_digit : is_digit b ≡ false → none ≡ read_number end (b ∷ s)
  unfolding read_number
  no_digit e = rw e

  pub lone_zero : b ≡ zero_digit → ended_by end 0 s ≡ read_number end (b ∷ s)
  unfolding read_number
  lone_zero e = rw e

  module _ (run : Digits) (reads : run ≡ digits 0 (b ∷ s)) (digit : is_digit b ≡ true) (other : b ≡ zero_digit → ⊥) where
    pub too_large : most < run.value → none ≡ read_number end (b ∷ s)
    unfolding read_number
    too_large h = rw (digit, ne_eqb b zero_digit other, ← reads, lt-leb run.value most h)

    pub several : run.value ≤ most → ended_by end run.value run.rest ≡ read_number end (b ∷ s)
    unfolding read_number
    several h = rw (digit, ne_eqb b zero_digit other, ← reads, le-leb run.value most h)
