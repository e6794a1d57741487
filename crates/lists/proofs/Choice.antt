-- What a test chooses, and tests that all hold: the laws by which proofs split on a test and take a list of tests apart.
use mathlib.Core.Bool.{Bool, true, false, not, cond, ◌&&◌, and-true, and_assoc}
use mathlib.Core.List.{List, [], ◌∷◌, ◌++◌}
use mathlib.Core.Path.{◌≡◌, refl, sym, ap, ap₂, ◌∙◌}
use Prim.Native.Nat.{ℕ, zero, suc, ◌+◌, ◌-◌, ◌*◌, ◌≤◌, ◌<◌}
use native.Mathlib.Nat.{zero-mul, suc-mul}
use native.Mathlib.Decide.{ℕ_discrete}
use native.Mathlib.Omega.{arith}
use lib.Dec.{T, leb, leb→le, le→leb}
use Rattle.lists.specs.Tests.{every, All, each, inside}

-- ---- to show something of what a test chooses, show it for each answer of the test

pub by_cond : {A : Type 0} (P : A → Type 0) (b : Bool) (x y : A) → (T b → P x) → (T (not b) → P y) → P (cond b x y)
by_cond P true x y f g = f tt
by_cond P false x y f g = g tt

pub by_bool : (P : Bool → Type 0) (b : Bool) → (T b → P true) → P false → P b
by_bool P true f g = f tt
by_bool P false f g = g

pub by_both : (P : Bool → Type 0) (b : Bool) → (T b → P true) → (T (not b) → P false) → P b
by_both P true f g = f tt
by_both P false f g = g tt

pub by_eq : {P : Type 0} (i j : ℕ) → (i ≡ j → P) → ((i ≡ j → ⊥) → P) → P
by_eq i j f g = elim (ℕ_discrete i j) [ yes e ↦ f e | no k ↦ g k ]

-- ---- a test that holds, and one that does not

pub and_left : (a b : Bool) → T (a && b) → T a
and_left true b t = tt
and_left false b t = t

pub and_right : (a b : Bool) → T (a && b) → T b
and_right true b t = t
and_right false b t = absurd t

pub both : (a b : Bool) → T a → T b → T (a && b)
both true b s t = t
both false b s t = s

pub not_not : (b : Bool) → T (not (not b)) → T b
not_not true t = tt
not_not false t = t

pub true_T : (b : Bool) → b ≡ true → T b
true_T b e = rw e tt

pub T_true : (b : Bool) → T b → b ≡ true
T_true true t = refl
T_true false t = absurd t

pub false_T : (b : Bool) → b ≡ false → T (not b)
false_T b e = rw e tt

pub T_false : (b : Bool) → T (not b) → b ≡ false
T_false true t = absurd t
T_false false t = refl

-- two tests that hold alike
pub same_answer : (a b : Bool) → (T a → T b) → (T b → T a) → a ≡ b
same_answer true b f g = sym (T_true b (f tt))
same_answer false true f g = absurd (g tt)
same_answer false false f g = refl

-- ---- a list of tests

pub every_all : (l : List Bool) → T (every l) → All l
every_all [] t = tt
every_all (b ∷ bs) t = (and_left b (every bs) t, every_all bs (and_right b (every bs) t))

pub all_every : (l : List Bool) → All l → T (every l)
all_every [] t = tt
all_every (b ∷ bs) t = both b (every bs) t.0 (all_every bs t.1)

pub every_append : (l m : List Bool) → every (l ++ m) ≡ (every l && every m)
every_append [] m = refl
every_append (true ∷ l) m = every_append l m
every_append (false ∷ l) m = refl

-- ---- a test for each id from 1 to n

pub each_in : (n : ℕ) (p : ℕ → Bool) → T (each n p) → (i : ℕ) → 1 ≤ i → i ≤ n → T (p i)
unfolding each
each_in zero p t i low high = absurd (omega arith)
each_in (suc n) p t i low high =
    by_eq i (suc n)
    (λ e. rw e (and_right (each n p) (p (suc n)) t))
    (λ k. each_in n p (and_left (each n p) (p (suc n)) t) i low (omega (arith, k)))

pub in_each : (n : ℕ) (p : ℕ → Bool) → ((i : ℕ) → 1 ≤ i → i ≤ n → T (p i)) → T (each n p)
unfolding each
in_each zero p f = tt
in_each (suc n) p f =
    both (each n p) (p (suc n)) (in_each n p (λ i low high. f i low (omega arith))) (f (suc n) (omega arith) (omega arith))

pub each_same : (n : ℕ) (p q : ℕ → Bool) → ((i : ℕ) → 1 ≤ i → i ≤ n → p i ≡ q i) → each n p ≡ each n q
unfolding each
each_same zero p q f = refl
each_same (suc n) p q f =
    ap₂ (λ (a b : Bool). a && b) (each_same n p q (λ i low high. f i low (omega arith))) (f (suc n) (omega arith) (omega arith))

-- one id that fails is enough
pub each_fails : (n : ℕ) (p : ℕ → Bool) (i : ℕ) → 1 ≤ i → i ≤ n → p i ≡ false → each n p ≡ false
each_fails n p i low high e =
    by_both (λ b. each n p ≡ b → b ≡ false) (each n p)
    (λ t h. absurd (rw e at (each_in n p t i low high)))
    (λ t h. refl) refl

-- the ids up to a sum, and those of a grid: the first `across` of them belong to 1, the next to 2 and so on
pub each_more : (p : ℕ → Bool) (a b : ℕ) → each (a + b) p ≡ (each a p && each b (λ i. p (a + i)))
unfolding each
each_more p a zero = let e : a + 0 ≡ a = omega arith in rw e (sym (and-true (each a p)))
each_more p a (suc b) =
    let e : a + suc b ≡ suc (a + b) = omega arith in
    rw e (ap (λ x. x && p (suc (a + b))) (each_more p a b) ∙ and_assoc (each a p) (each b (λ i. p (a + i))) (p (suc (a + b))))

pub each_grid : (p : ℕ → Bool) (across down : ℕ) → each (down * across) p ≡ each down (λ c. each across (λ k. p ((c - 1) * across + k)))
unfolding each
each_grid p across zero = ap (λ m. each m p) (zero-mul across)
each_grid p across (suc down) =
    let e : suc down * across ≡ down * across + across = suc-mul down across in
    let f : suc down - 1 ≡ down = omega arith in
    ap (λ m. each m p) e
    ∙ each_more p (down * across) across
    ∙ rw f (ap (λ b. b && each across (λ k. p (down * across + k))) (each_grid p across down))

-- ---- an id from 1 to n

pub inside_low : (n i : ℕ) → T (inside n i) → 1 ≤ i
inside_low n i t = leb→le 1 i (and_left (leb 1 i) (leb i n) t)

pub inside_high : (n i : ℕ) → T (inside n i) → i ≤ n
inside_high n i t = leb→le i n (and_right (leb 1 i) (leb i n) t)

pub in_inside : (n i : ℕ) → 1 ≤ i → i ≤ n → T (inside n i)
in_inside n i low high = both (leb 1 i) (leb i n) (le→leb 1 i low) (le→leb i n high)

-- ---- a number behind a test: 0 only where the test holds

pub passed : (b : Bool) (x k : ℕ) → 0 < k → cond b x k ≡ 0 → T b × (x ≡ 0)
passed true x k h e = (tt, e)
passed false x k h e = absurd (omega arith)

pub passes : (b : Bool) (x k : ℕ) → T b → x ≡ 0 → cond b x k ≡ 0
passes true x k t e = e
passes false x k t e = absurd t
