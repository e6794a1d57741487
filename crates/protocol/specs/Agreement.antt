-- Demand 2: what holds of a state that a list of accepted events led to.
use Rattle.std.specs.Prelude.{◌≡◌, List, [], ◌∷◌, ℕ, ◌≤◌, T}
use Rattle.masks.specs.Mask.{has}
use Rattle.protocol.specs.declared.Counts.{Counts}
use Rattle.protocol.specs.Cells.{State, phase, attempt, request, delivered, row, value, voted, voted_yes, decided, committed}
use Rattle.protocol.specs.Events.{Event, issue, request_arrives, compute}

-- these events occur in the list, in this order
pub data InOrder : List Event → List Event → Type 0 where
  none : InOrder [] []
  skip : {wanted list : List Event} {e : Event} → InOrder wanted list → InOrder wanted (e ∷ list)
  take : {wanted list : List Event} {e : Event} → InOrder wanted list → InOrder (e ∷ wanted) (e ∷ list)

-- the id of one of n parties or attempts
abbrev pub Id : ℕ → ℕ → Type 0
Id n id = (1 ≤ id) × (id ≤ n)

module _ (n : Counts) (list : List Event) (s : State) where
  pub record Agreement : Type 0 where
    -- A.1: a result that was delivered is decided and committed by every database
    pub A1 : (c : ℕ) → Id n.clients c → s (phase c) ≡ 2 → (d : ℕ) → Id n.databases d
        → T (has (s (row c (s (attempt c)) decided)) d) × T (has (s (row c (s (attempt c)) committed)) d)
    -- A.2: no database commits two results of one client
    pub A2 : (c k l d : ℕ) → Id n.clients c → Id n.attempts k → Id n.attempts l → Id n.databases d
        → T (has (s (row c k committed)) d) → T (has (s (row c l committed)) d) → k ≡ l
    -- A.3: no two databases decide differently on one result, and a database that committed it has decided it
    pub A3 : (c k d e : ℕ) → Id n.clients c → Id n.attempts k → Id n.databases d → Id n.databases e
        → T (has (s (row c k decided)) d) → T (has (s (row c k decided)) e) → has (s (row c k committed)) d ≡ has (s (row c k committed)) e
    pub committed_decided : (c k d : ℕ) → Id n.clients c → Id n.attempts k → Id n.databases d
        → T (has (s (row c k committed)) d) → T (has (s (row c k decided)) d)
    -- V.1: a delivered value is the one that an accepted event of kind 4 gave for that client and attempt, after an accepted kind 3 of the same attempt
    -- at the same server, itself after the client's accepted issue, whose request the client's cell still holds
    pub V1 : (c : ℕ) → Id n.clients c → s (phase c) ≡ 2
        → (i : ℕ) × Id n.servers i
        × InOrder (issue c (s (request c)) ∷ request_arrives c (s (attempt c)) i ∷ compute c (s (attempt c)) i (s (delivered c)) ∷ []) list
    -- "the one": no accepted event of kind 4 gave another value for that client and attempt
    pub V1Only : (c : ℕ) → Id n.clients c → s (phase c) ≡ 2
        → (i v : ℕ) → InOrder (compute c (s (attempt c)) i v ∷ []) list → v ≡ s (delivered c)
    -- and it is the value of that result
    pub delivers : (c : ℕ) → Id n.clients c → s (phase c) ≡ 2 → s (delivered c) ≡ s (row c (s (attempt c)) value)
    -- V.2: no database commits a result unless every database voted yes for it
    pub V2 : (c k d : ℕ) → Id n.clients c → Id n.attempts k → Id n.databases d → T (has (s (row c k committed)) d)
        → (e : ℕ) → Id n.databases e → T (has (s (row c k voted)) e) × T (has (s (row c k voted_yes)) e)
