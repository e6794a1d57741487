-- Demand 3 over tables and records: nobody is held in doubt.
use Rattle.std.specs.Prelude.{◌≡◌, not, List, [], ◌∷◌, ℕ, ◌<◌, T}
use Rattle.masks.specs.Mask.{has}
use Rattle.protocol.specs.declared.Counts.{Counts}
use Rattle.protocol.specs.declared.Event.{Event as Record}
use Rattle.protocol.specs.Cells.{server_up, database_up, client_up, phase, attempt, row, owner, voted_yes, decided, committed, known}
use Rattle.protocol.specs.Events.{Event, record_of, suspect, trust, clean, decide_arrives, ack_arrives, result_arrives, server_crashes}
use Rattle.protocol.specs.Agreement.{Id}
use Rattle.protocol.specs.Progress.{Covers, Completes}
use Rattle.table.specs.Table.{view}
use Rattle.table.specs.Jobs.{applied}
use Rattle.promises.specs.Lists.{Accepted, after}

-- the event's record does not occur in the list
abbrev pub Never : Event → List Record → Type 0
Never e [] = Unit {0}
Never e (r ∷ list) = (r ≡ record_of e → ⊥) × Never e list

-- after any accepted records, if the proviso holds of them and of the table they led to, the event is accepted, and then K holds
abbrev pub Then : (List Record → List ℕ → Type 0) → Event → (List ℕ → Type 0) → List ℕ → Type 0
Then Proviso e K t = (gap : List Record) → Accepted t gap → Proviso gap (after t gap)
    → ((applied (after t gap) (record_of e)).number ≡ 0) × K (applied (after t gap) (record_of e)).cells

-- the same for one event for each database of a list
abbrev pub ThenEach : (ℕ → List Record → List ℕ → Type 0) → (ℕ → Event) → List ℕ → (List ℕ → Type 0) → List ℕ → Type 0
ThenEach Proviso event [] K t = K t
ThenEach Proviso event (d ∷ ds) K t = Then (Proviso d) (event d) (ThenEach Proviso event ds K) t

module _ (n : Counts) where
  -- server i knows database d's acknowledgement of the result, and goes on knowing it while it does not crash
  abbrev pub Remembers : (c k i d : ℕ) → List ℕ → Type 0
  Remembers c k i d t = (more : List Record) → Accepted t more → Never (server_crashes i) more → T (has (view n (after t more) (row c k (known i))) d)

  module _ (c k : ℕ) where
    -- all databases have decided the result, all alike, and no vote on it is open
    pub record Settled (t : List ℕ) : Type 0 where
      pub decided_all : (d : ℕ) → Id n.databases d → T (has (view n t (row c k decided)) d)
      pub alike : (d e : ℕ) → Id n.databases d → Id n.databases e → has (view n t (row c k committed)) d ≡ has (view n t (row c k committed)) e
      pub none_open : (d : ℕ) → Id n.databases d → T (has (view n t (row c k voted_yes)) d) → T (not (has (view n t (row c k decided)) d)) → ⊥

    -- the client waits on the result no longer, whatever comes
    abbrev pub Freed : List ℕ → Type 0
    Freed t = (more : List Record) → Accepted t more → (view n (after t more) (phase c) ≡ 1) × (view n (after t more) (attempt c) ≡ k) → ⊥

    -- once server i's decision has reached every database, that stays so; and if i is up then and does not crash, the acknowledgements to it that it does
    -- not know yet, in any order, and then the result are accepted, the latter if the client is up just then
    pub record Decided (i : ℕ) (t : List ℕ) : Type 0 where
      pub for_good : (more : List Record) → Accepted t more → Settled (after t more)
      pub answered : view n t (server_up i) ≡ 1 → (ds : List ℕ) → Completes n.databases (view n t (row c k (known i))) ds
          → ThenEach (λ d gap q. Never (server_crashes i) gap) (ack_arrives c k i) ds (Then (λ gap q. view n q (client_up c) ≡ 1) (result_arrives c k i) Freed) t

  -- for each claimed result and every other server i that is up: it suspects the owner, if it does not crash before; it cleans the result, if it neither
  -- crashes nor trusts the owner again in between; and its decision reaches the databases, in any order, each if it is up just then
  abbrev pub Progress : List ℕ → Type 0
  Progress t = (c k i : ℕ) → Id n.clients c → Id n.attempts k → Id n.servers i
      → 0 < view n t (row c k owner) → (i ≡ view n t (row c k owner) → ⊥) → view n t (server_up i) ≡ 1 → (ds : List ℕ) → Covers n.databases ds
      → Then (λ gap q. Never (server_crashes i) gap) (suspect i (view n t (row c k owner)))
      (Then (λ gap q. Never (server_crashes i) gap × Never (trust i (view n t (row c k owner))) gap) (clean c k i)
      (ThenEach (λ d gap q. view n q (database_up d) ≡ 1) (decide_arrives c k i) ds (Decided c k i))) t
