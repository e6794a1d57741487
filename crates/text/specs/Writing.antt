-- A number as decimal text, a line of numbers, and text put into lent room.
use Rattle.std.specs.Prelude.{cond, List, [], ◌∷◌, ◌++◌, ℕ, ◌+◌, ◌/◌, ◌%◌, leb, ltb, length, take, drop, set}

-- the bytes between numbers, at the end of a line, and of the first and the last digit
abbrev pub space : ℕ
space = 32

abbrev pub newline : ℕ
newline = 10

abbrev pub zero_digit : ℕ
zero_digit = 48

abbrev pub nine_digit : ℕ
nine_digit = 57

-- ---- numbers and lines

-- the digit of n at a place, where n reaches it
abbrev pub digit_at : ℕ → ℕ → List ℕ
digit_at n place = cond (leb place n) ((zero_digit + n / place % 10) ∷ []) []

-- a number up to 65535: its digits from the highest place that it reaches
unfoldable pub decimal : ℕ → List ℕ
decimal n = digit_at n 10000 ++ (digit_at n 1000 ++ (digit_at n 100 ++ (digit_at n 10 ++ ((zero_digit + n % 10) ∷ []))))

-- the numbers of a line, one space between, and the newline
unfoldable pub line : List ℕ → List ℕ
line [] = newline ∷ []
line (n ∷ []) = decimal n ++ (newline ∷ [])
line (n ∷ m ∷ more) = (decimal n ++ (space ∷ [])) ++ line (m ∷ more)

-- ---- lent room, and how much of it is written; what has no room is left out

pub record Page : Type 0 where
  pub cells : List ℕ
  pub at : ℕ

abbrev pub put_byte : Page → ℕ → Page
put_byte page b = cond (ltb page.at (length page.cells)) (record { cells = set page.cells page.at b; at = page.at + 1 }) page

unfoldable pub puts : Page → List ℕ → Page
puts page [] = page
puts page (b ∷ text) = puts (put_byte page b) text

-- the room with a text at its start
abbrev pub over : List ℕ → List ℕ → List ℕ
over cells text = take (length cells) text ++ drop (length text) cells
