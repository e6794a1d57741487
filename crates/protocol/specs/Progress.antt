-- Demand 3: nobody is held in doubt. Any other server that is up can suspect, clean and decide an attempt, with anything accepted in between, and the client is freed.
use Rattle.std.specs.Prelude.{◌≡◌, ◌⊎◌, List, [], ◌∷◌, ℕ, ◌<◌, T, not}
use Rattle.masks.specs.Mask.{has}
use Rattle.protocol.specs.declared.Counts.{Counts}
use Rattle.protocol.specs.Cells.{State, server_up, database_up, client_up, phase, attempt, row, owner, voted_yes, decided, committed, known}
use Rattle.protocol.specs.Events.{Event, suspect, trust, clean, decide_arrives, ack_arrives, result_arrives, server_crashes}
use Rattle.protocol.specs.Numbers.{refusal}
use Rattle.protocol.specs.Machine.{next, run, Accepted}
use Rattle.protocol.specs.Agreement.{Id}

-- ---- a plan: events to come, each after any accepted events

-- the event does not occur in the list
abbrev pub Never : Event → List Event → Type 0
Never e [] = Unit {0}
Never e (x ∷ list) = (x ≡ e → ⊥) × Never e list

-- a list of databases that names each of them and nobody else: each database once, in any order, is such a list
pub data In : ℕ → List ℕ → Type 0 where
  here : {d : ℕ} {ds : List ℕ} → In d (d ∷ ds)
  there : {d e : ℕ} {ds : List ℕ} → In d ds → In d (e ∷ ds)

pub record Covers (n : ℕ) (ds : List ℕ) : Type 0 where
  pub only : (d : ℕ) → In d ds → Id n d
  pub whole : (d : ℕ) → Id n d → In d ds

-- the same, but that those in the mask may be left out
pub record Completes (n mask : ℕ) (ds : List ℕ) : Type 0 where
  pub only : (d : ℕ) → In d ds → Id n d
  pub whole : (d : ℕ) → Id n d → In d ds ⊎ T (has mask d)

module _ (n : Counts) where
  -- after any accepted events, if the proviso holds of them and of the state they led to, the event is accepted, and then K holds
  abbrev pub Then : (List Event → State → Type 0) → Event → (State → Type 0) → State → Type 0
  Then Proviso e K s = (gap : List Event) → Accepted n s gap → Proviso gap (run n s gap)
      → (refusal n (run n s gap) e ≡ 0) × K (next n (run n s gap) e)

  -- the same for one event for each database of a list
  abbrev pub ThenEach : (ℕ → List Event → State → Type 0) → (ℕ → Event) → List ℕ → (State → Type 0) → State → Type 0
  ThenEach Proviso event [] K s = K s
  ThenEach Proviso event (d ∷ ds) K s = Then (Proviso d) (event d) (ThenEach Proviso event ds K) s

  -- server i knows database d's acknowledgement of the result, and goes on knowing it while it does not crash
  abbrev pub Remembers : (c k i d : ℕ) → State → Type 0
  Remembers c k i d s = (more : List Event) → Accepted n s more → Never (server_crashes i) more → T (has (run n s more (row c k (known i))) d)

  -- ---- what the plan leads to

  module _ (c k : ℕ) where
    -- all databases have decided the result, all alike, and no vote on it is open
    pub record Settled (s : State) : Type 0 where
      pub decided_all : (d : ℕ) → Id n.databases d → T (has (s (row c k decided)) d)
      pub alike : (d e : ℕ) → Id n.databases d → Id n.databases e → has (s (row c k committed)) d ≡ has (s (row c k committed)) e
      pub none_open : (d : ℕ) → Id n.databases d → T (has (s (row c k voted_yes)) d) → T (not (has (s (row c k decided)) d)) → ⊥

    -- the client waits on the result no longer, whatever comes
    abbrev pub Freed : State → Type 0
    Freed s = (more : List Event) → Accepted n s more → (run n s more (phase c) ≡ 1) × (run n s more (attempt c) ≡ k) → ⊥

    -- once server i's decision has reached every database, that stays so; and if i is up then and does not crash, the acknowledgements to it that it does
    -- not know yet, in any order, and then the result are accepted, the latter if the client is up just then
    pub record Decided (i : ℕ) (s : State) : Type 0 where
      pub for_good : (more : List Event) → Accepted n s more → Settled (run n s more)
      pub answered : s (server_up i) ≡ 1 → (ds : List ℕ) → Completes n.databases (s (row c k (known i))) ds
          → ThenEach (λ d gap q. Never (server_crashes i) gap) (ack_arrives c k i) ds (Then (λ gap q. q (client_up c) ≡ 1) (result_arrives c k i) Freed) s

  -- for each claimed result and every other server i that is up: it suspects the owner, if it does not crash before; it cleans the result, if it neither
  -- crashes nor trusts the owner again in between; and its decision reaches the databases, in any order, each if it is up just then
  abbrev pub Progress : State → Type 0
  Progress s = (c k i : ℕ) → Id n.clients c → Id n.attempts k → Id n.servers i
      → 0 < s (row c k owner) → (i ≡ s (row c k owner) → ⊥) → s (server_up i) ≡ 1 → (ds : List ℕ) → Covers n.databases ds
      → Then (λ gap q. Never (server_crashes i) gap) (suspect i (s (row c k owner)))
      (Then (λ gap q. Never (server_crashes i) gap × Never (trust i (s (row c k owner))) gap) (clean c k i)
      (ThenEach (λ d gap q. q (database_up d) ≡ 1) (decide_arrives c k i) ds (Decided c k i))) s

-- ---- "A vote is open when it is yes and its database has not decided since it was cast", said of the list of events from a state on

module _ (n : Counts) (c k d : ℕ) where
  -- the event casts database d's yes on the result
  abbrev pub Casts : State → Event → Type 0
  Casts s e = T (not (has (s (row c k voted_yes)) d)) × T (has (next n s e (row c k voted_yes)) d)

  -- no event of the list is its decision
  abbrev pub Undecided : State → List Event → Type 0
  Undecided s [] = Unit {0}
  Undecided s (e ∷ list) = (T (not (has (s (row c k decided)) d)) → T (has (next n s e (row c k decided)) d) → ⊥) × Undecided (next n s e) list

  abbrev pub Open : State → List Event → Type 0
  Open s [] = ⊥
  Open s (e ∷ list) = (Casts s e × Undecided (next n s e) list) ⊎ Open (next n s e) list
