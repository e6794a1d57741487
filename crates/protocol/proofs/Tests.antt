-- Tests and the facts that they stand for: two numbers are equal or not, an id is from 1 to n, and something holds for each id.
use mathlib.Core.Bool.{Bool, not, ◌&&◌}
use mathlib.Core.Path.{◌≡◌}
use Prim.Native.Nat.{ℕ}
use lib.Dec.{T, eqb, eqb→eq, eqb_refl, T_not, not_T}
use Rattle.lists.specs.Tests.{each, inside}
use Rattle.lists.proofs.Choice.{and_left, and_right, both, each_in, in_each, inside_low, inside_high, in_inside}
use Rattle.protocol.specs.Agreement.{Id}

-- a pair, written so that the facts of a long list of tests read as one
infixr 30 ◌and◌
pub ◌and◌ : {A B : Type 0} → A → B → A × B
a and b = (a, b)

pub equal : (a b : ℕ) → a ≡ b → T (eqb a b)
equal a b e = rw e (eqb_refl b)

pub unequal : (a b : ℕ) → (a ≡ b → ⊥) → T (not (eqb a b))
unequal a b other = not_T (eqb a b) (λ t. other (eqb→eq a b t))

pub differ : (a b : ℕ) → T (not (eqb a b)) → a ≡ b → ⊥
differ a b t e = T_not (eqb a b) t (equal a b e)

-- two numbers are equal and another test holds
pub split : (a b : ℕ) (rest : Bool) → T (eqb a b && rest) → (a ≡ b) × T rest
split a b rest t = (eqb→eq a b (and_left (eqb a b) rest t), and_right (eqb a b) rest t)

pub join : (a b : ℕ) (rest : Bool) → a ≡ b → T rest → T (eqb a b && rest)
join a b rest e t = both (eqb a b) rest (equal a b e) t

-- two numbers are equal and two others
pub split_both : (a b c d : ℕ) → T (eqb a b && eqb c d) → (a ≡ b) × (c ≡ d)
split_both a b c d t = let (first, rest) = split a b (eqb c d) t in (first, eqb→eq c d rest)

pub join_both : (a b c d : ℕ) → a ≡ b → c ≡ d → T (eqb a b && eqb c d)
join_both a b c d first second = join a b (eqb c d) first (equal c d second)

pub id_inside : (most id : ℕ) → Id most id → T (inside most id)
id_inside most id range = in_inside most id range.0 range.1

pub inside_id : (most id : ℕ) → T (inside most id) → Id most id
inside_id most id t = (inside_low most id t, inside_high most id t)

pub each_at : (most : ℕ) (test : ℕ → Bool) → T (each most test) → (id : ℕ) → T (inside most id) → T (test id)
each_at most test t id x = each_in most test t id (inside_low most id x) (inside_high most id x)

pub at_each : (most : ℕ) (test : ℕ → Bool) → ((id : ℕ) → T (inside most id) → T (test id)) → T (each most test)
at_each most test f = in_each most test (λ id low high. f id (in_inside most id low high))
