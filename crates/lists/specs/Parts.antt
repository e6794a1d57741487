-- A part of a list, and the list with that part put back changed.
use Rattle.std.specs.Prelude.{List, ◌++◌, ℕ, take, drop}

-- the n cells from place a on
abbrev pub part : ℕ → ℕ → List ℕ → List ℕ
part a n l = take n (drop a l)

-- the list with other cells in the place of these
abbrev pub put_back : ℕ → ℕ → List ℕ → List ℕ → List ℕ
put_back a n l cells = take a l ++ (cells ++ drop n (drop a l))
