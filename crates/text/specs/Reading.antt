-- Reading a number of a line: digits without leading zeros, up to 65535, and the byte that has to end it.
use Rattle.std.specs.Prelude.{Bool, cond, ◌&&◌, List, [], ◌∷◌, ℕ, ◌+◌, ◌-◌, ◌*◌, leb, eqb}
use Rattle.std.proofs.Math.Option.{Option, none, some}
use Rattle.text.specs.Writing.{zero_digit, nine_digit}

-- the largest number of a line
abbrev pub most : ℕ
most = 65535

abbrev pub is_digit : ℕ → Bool
is_digit b = leb zero_digit b && leb b nine_digit

-- the value of the digits that a text starts with, and what stands behind them; once it is too large for a number of a line, no digit more is asked
pub record Digits : Type 0 where
  pub value : ℕ
  pub rest : List ℕ

unfoldable pub digits : ℕ → List ℕ → Digits
digits v [] = record { value = v; rest = [] }
digits v (b ∷ s) = cond (is_digit b && leb v most) (digits (v * 10 + (b - zero_digit)) s) (record { value = v; rest = b ∷ s })

-- a number, if the byte that has to end it does
abbrev pub ended_by : ℕ → ℕ → List ℕ → Option (ℕ × List ℕ)
ended_by end n [] = none
ended_by end n (b ∷ s) = cond (eqb b end) (some (n, s)) none

-- the number that a text starts with, and what stands behind the byte that ends it
unfoldable pub read_number : ℕ → List ℕ → Option (ℕ × List ℕ)
read_number end [] = none
read_number end (b ∷ s) =
    cond (is_digit b)
    (cond (eqb b zero_digit)
    (ended_by end 0 s)
    (cond (leb (digits 0 (b ∷ s)).value most) (ended_by end (digits 0 (b ∷ s)).value (digits 0 (b ∷ s)).rest) none))
    none
