-- "In range" as facts about each party and each row, both ways.
use mathlib.Core.Path.{◌≡◌}
use mathlib.Core.Bool.{Bool, beq}
use mathlib.Core.List.{List, [], ◌∷◌}
use Prim.Native.Nat.{ℕ, zero, suc, ◌≤◌}
use native.Mathlib.Omega.{arith}
use lib.Dec.{T, eqb, leb→le}
use Rattle.lists.specs.Tests.{every, All, each, inside}
use Rattle.lists.proofs.Choice.{every_all, all_every, in_inside}
use Rattle.protocol.specs.declared.Counts.{Counts}
use Rattle.protocol.specs.Cells.{State, row_of, phase, attempt}
use Rattle.protocol.specs.Numbers.{server_tests, database_tests, client_tests, row_tests, in_range}
use Rattle.protocol.proofs.Tests.{◌and◌, each_at, at_each}

pub record InRange (n : Counts) (s : State) : Type 0 where
  pub servers : (i : ℕ) → T (inside n.servers i) → All (server_tests n s i)
  pub databases : (d : ℕ) → T (inside n.databases d) → All (database_tests n s d)
  pub clients : (c : ℕ) → T (inside n.clients c) → All (client_tests n s c)
  pub rows : (c k : ℕ) → T (inside n.clients c) → T (inside n.attempts k) → All (row_tests n (row_of s c k))

-- a list of tests for each of m ids
module _ (m : ℕ) (tests : ℕ → List Bool) where
  each_all : T (each m (λ i. every (tests i))) → (i : ℕ) → T (inside m i) → All (tests i)
  each_all t i x = every_all (tests i) (each_at m (λ i. every (tests i)) t i x)

  all_each : ((i : ℕ) → T (inside m i) → All (tests i)) → T (each m (λ i. every (tests i)))
  all_each f = at_each m (λ i. every (tests i)) (λ i x. all_every (tests i) (f i x))

module _ (n : Counts) (s : State) where
  abbrev rows_in_range : ℕ → Bool
  rows_in_range c = each n.attempts (λ k. every (row_tests n (row_of s c k)))

  parts : List Bool
  parts =
      each n.servers (λ i. every (server_tests n s i))
      ∷ each n.databases (λ d. every (database_tests n s d))
      ∷ each n.clients (λ c. every (client_tests n s c))
      ∷ each n.clients rows_in_range
      ∷ []

  pub range_facts : T (in_range n s) → InRange n s
  unfolding in_range parts
  range_facts t =
      let p = every_all parts t in
      record {
        servers = each_all n.servers (server_tests n s) p.0;
        databases = each_all n.databases (database_tests n s) p.1.0;
        clients = each_all n.clients (client_tests n s) p.1.1.0;
        rows = λ c k x. each_all n.attempts (λ k. row_tests n (row_of s c k)) (each_at n.clients rows_in_range p.1.1.1.0 c x) k;
      }

  pub facts_range : InRange n s → T (in_range n s)
  unfolding in_range parts
  facts_range f =
      all_every parts (
      all_each n.servers (server_tests n s) f.servers
      and all_each n.databases (database_tests n s) f.databases
      and all_each n.clients (client_tests n s) f.clients
      and at_each n.clients rows_in_range (λ c x. all_each n.attempts (λ k. row_tests n (row_of s c k)) (λ k. f.rows c k x))
      and tt
      )

-- the coupling: a client that waits has an attempt
coupled : (k p : ℕ) → T (beq (eqb k 0) (eqb p 0)) → p ≡ 1 → 1 ≤ k
coupled zero p t e = absurd (rw e at t)
coupled (suc k) p t e = omega arith

pub waiting_attempt : (n : Counts) (s : State) → InRange n s → (c : ℕ) → T (inside n.clients c) → s (phase c) ≡ 1
    → T (inside n.attempts (s (attempt c)))
waiting_attempt n s f c x e =
    let t = f.clients c x in
    in_inside n.attempts (s (attempt c))
    (coupled (s (attempt c)) (s (phase c)) t.1.1.1.0 e) (leb→le (s (attempt c)) n.attempts t.1.1.0)
