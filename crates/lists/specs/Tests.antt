-- Tests that all have to hold: in a list, and for each id from 1 to n.
use Rattle.std.specs.Prelude.{Bool, true, ◌&&◌, List, [], ◌∷◌, ℕ, zero, suc, T, leb}

-- all tests of a list hold
abbrev pub every : List Bool → Bool
every [] = true
every (b ∷ bs) = b && every bs

-- the same as a fact for each test, in the order of the list
abbrev pub All : List Bool → Type 0
All [] = Unit {0}
All (b ∷ bs) = T b × All bs

-- the test holds for each id from 1 to n
unfoldable pub each : ℕ → (ℕ → Bool) → Bool
each zero p = true
each (suc n) p = each n p && p (suc n)

-- an id from 1 to n
abbrev pub inside : ℕ → ℕ → Bool
inside n id = leb 1 id && leb id n
