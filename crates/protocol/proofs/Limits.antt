-- "In range" by name: the largest number of each cell, and that writes which fit their cells keep every cell within its limit.
use mathlib.Core.Path.{subst}
use mathlib.Core.Bool.{◌&&◌, beq}
use mathlib.Core.List.{[], ◌∷◌}
use mathlib.Core.Option.{Option, none, some}
use Prim.Native.Nat.{ℕ}
use lib.Dec.{T, eqb, leb}
use Rattle.lists.specs.Tests.{All, inside}
use Rattle.lists.proofs.Choice.{by_cond, and_left, and_right, both}
use Rattle.masks.specs.Mask.{all}
use Rattle.protocol.specs.declared.Counts.{Counts}
use Rattle.protocol.specs.Cells.{Field, owner, outcome, value, computed, sent, voted, voted_yes, heard, heard_yes, written, terminating, decided, committed, acked, known, field_exists}
use Rattle.protocol.specs.Cells.{Name, server_up, suspects, database_up, ready, client_up, phase, attempt, request, delivered, row, same, exists}
use Rattle.protocol.specs.Cells.{State, Row, row_of, Writes, store, store_all}
use Rattle.protocol.specs.Numbers.{row_tests}
use Rattle.protocol.proofs.Tests.{◌and◌, each_at, at_each}
use Rattle.protocol.proofs.Names.{same_equal}
use Rattle.protocol.proofs.Range.{InRange}

-- ---- the largest number of each cell, where it has one

abbrev pub field_limit : Counts → Field → Option ℕ
field_limit n owner = some n.servers
field_limit n outcome = some 2
field_limit n value = none
field_limit n computed = none
field_limit n sent = some (all n.servers)
field_limit n voted = some (all n.databases)
field_limit n voted_yes = some (all n.databases)
field_limit n heard = some (all n.databases)
field_limit n heard_yes = some (all n.databases)
field_limit n written = some 1
field_limit n terminating = some (all n.servers)
field_limit n decided = some (all n.databases)
field_limit n committed = some (all n.databases)
field_limit n (acked i) = some (all n.databases)
field_limit n (known i) = some (all n.databases)

abbrev pub limit : Counts → Name → Option ℕ
limit n (server_up i) = some 1
limit n (suspects i) = some (all n.servers)
limit n (database_up d) = some 1
limit n (ready d) = some 1
limit n (client_up c) = some 1
limit n (phase c) = some 3
limit n (attempt c) = some n.attempts
limit n (request c) = none
limit n (delivered c) = none
limit n (row c k f) = field_limit n f

-- the number fits a cell with this limit
abbrev pub Fits : ℕ → Option ℕ → Type 0
Fits v none = Unit {0}
Fits v (some most) = T (leb v most)

-- every cell is within its limit
abbrev pub Limited : Counts → State → Type 0
Limited n s = (m : Name) → T (exists n m) → Fits (s m) (limit n m)

-- an attempt is 0 exactly when the phase is
abbrev pub Coupled : Counts → State → Type 0
Coupled n s = (c : ℕ) → T (inside n.clients c) → T (beq (eqb (s (attempt c)) 0) (eqb (s (phase c)) 0))

-- ---- both ways between the limits and "in range"

module _ (n : Counts) (s : State) where
  row_limits : (r : Row) → All (row_tests n r) → (f : Field) → T (field_exists n f) → Fits (r f) (field_limit n f)
  row_limits r v owner x = v.0
  row_limits r v outcome x = v.1.0
  row_limits r v value x = tt
  row_limits r v computed x = tt
  row_limits r v sent x = v.1.1.0
  row_limits r v voted x = v.1.1.1.0
  row_limits r v voted_yes x = v.1.1.1.1.0
  row_limits r v heard x = v.1.1.1.1.1.0
  row_limits r v heard_yes x = v.1.1.1.1.1.1.0
  row_limits r v written x = v.1.1.1.1.1.1.1.0
  row_limits r v terminating x = v.1.1.1.1.1.1.1.1.0
  row_limits r v decided x = v.1.1.1.1.1.1.1.1.1.0
  row_limits r v committed x = v.1.1.1.1.1.1.1.1.1.1.0
  row_limits r v (acked i) x =
      each_at n.servers (λ i. leb (r (acked i)) (all n.databases)) v.1.1.1.1.1.1.1.1.1.1.1.0 i x
  row_limits r v (known i) x =
      each_at n.servers (λ i. leb (r (known i)) (all n.databases)) v.1.1.1.1.1.1.1.1.1.1.1.1.0 i x

  pub range_limits : InRange n s → Limited n s
  range_limits v (server_up i) x = (v.servers i x).0
  range_limits v (suspects i) x = (v.servers i x).1.0
  range_limits v (database_up d) x = (v.databases d x).0
  range_limits v (ready d) x = (v.databases d x).1.0
  range_limits v (client_up c) x = (v.clients c x).0
  range_limits v (phase c) x = (v.clients c x).1.0
  range_limits v (attempt c) x = (v.clients c x).1.1.0
  range_limits v (request c) x = tt
  range_limits v (delivered c) x = tt
  range_limits v (row c k f) x =
      let rest = and_right (inside n.clients c) (inside n.attempts k && field_exists n f) x in
      row_limits (row_of s c k) (v.rows c k (and_left (inside n.clients c) (inside n.attempts k && field_exists n f) x)
      (and_left (inside n.attempts k) (field_exists n f) rest)) f (and_right (inside n.attempts k) (field_exists n f) rest)

  module _ (v : Limited n s) where
    pub cell : (c k : ℕ) → T (inside n.clients c) → T (inside n.attempts k)
        → (f : Field) → T (field_exists n f) → Fits (s (row c k f)) (field_limit n f)
    cell c k x y f z =
        let rest = both (inside n.attempts k) (field_exists n f) y z in
        v (row c k f) (both (inside n.clients c) (inside n.attempts k && field_exists n f) x rest)

    pub limits_range : Coupled n s → InRange n s
    limits_range h = record {
      servers = λ i x. v (server_up i) x and v (suspects i) x and tt;
      databases = λ d x. v (database_up d) x and v (ready d) x and tt;
      clients = λ c x. v (client_up c) x and v (phase c) x and v (attempt c) x and h c x and tt;
      rows = λ c k x y.
          let at = cell c k x y in
          at owner tt and at outcome tt and at sent tt and at voted tt and at voted_yes tt and at heard tt and at heard_yes tt
          and at written tt and at terminating tt and at decided tt and at committed tt
          and at_each n.servers (λ i. leb (s (row c k (acked i))) (all n.databases)) (λ i. at (acked i))
          and at_each n.servers (λ i. leb (s (row c k (known i))) (all n.databases)) (λ i. at (known i))
          and tt;
    }

-- ---- writes within their cells' limits keep every cell within its limit

abbrev pub AllFit : Counts → Writes → Type 0
AllFit n [] = Unit {0}
AllFit n (w ∷ ws) = Fits w.1 (limit n w.0) × AllFit n ws

pub stored_limits : (n : Counts) (s : State) → Limited n s → (ws : Writes) → AllFit n ws → Limited n (store_all s ws)
stored_limits n s v [] h = v
stored_limits n s v (w ∷ ws) h =
    stored_limits n (store s w.0 w.1)
    (λ m x. by_cond (λ z. Fits z (limit n m)) (same w.0 m) w.1 (s m)
    (λ t. subst (λ m. Fits w.1 (limit n m)) (same_equal w.0 m t) h.0) (λ t. v m x)) ws h.1
