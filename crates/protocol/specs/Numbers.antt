-- What each number asks: 1 the counts, 2 every cell's range, 3 the kind, 4 the fields, 5 the acting parties, 6 that the message was sent, 7 the rule's "must".
use Rattle.std.specs.Prelude.{Bool, cond, List, [], ◌∷◌, ℕ, eqb, leb}
use Rattle.std.specs.Bool.{beq}
use Rattle.std.proofs.Math.Option.{Option, none, some}
use Rattle.lists.specs.Tests.{every, each, inside}
use Rattle.masks.specs.Mask.{all}
use Rattle.protocol.specs.declared.Counts.{Counts}
use Rattle.protocol.specs.declared.Event.{Event as Record}
use Rattle.protocol.specs.Cells.{owner, outcome, sent, voted, voted_yes, heard, heard_yes, written, terminating, decided, committed, acked, known}
use Rattle.protocol.specs.Cells.{Name, server_up, suspects, database_up, ready, client_up, phase, attempt, State, Row, row_of}
use Rattle.protocol.specs.Events.{Event, issue, timeout, request_arrives, compute, prepare_arrives, vote_arrives, ready_arrives, write, suspect, trust, clean, decide_arrives, ack_arrives, result_arrives, server_crashes, database_crashes, client_crashes, database_recovers}
use Rattle.protocol.specs.Events.{Kind, kind_of, fits, record_of}
use Rattle.protocol.specs.Rules.{rule}

-- ---- 1: a count outside its range (that the table has the right length is asked where tables are)

-- C, A and D from 1 to 8 and N from 1 to 16
abbrev pub count_tests : Counts → List Bool
count_tests n = inside 8 n.clients ∷ inside 8 n.servers ∷ inside 8 n.databases ∷ inside 16 n.attempts ∷ []

-- ---- 2: a cell not in range. A mask without bits for parties that do not exist is at most the mask of all that do

module _ (n : Counts) where
  abbrev pub server_tests : State → ℕ → List Bool
  server_tests s i = leb (s (server_up i)) 1 ∷ leb (s (suspects i)) (all n.servers) ∷ []

  abbrev pub database_tests : State → ℕ → List Bool
  database_tests s d = leb (s (database_up d)) 1 ∷ leb (s (ready d)) 1 ∷ []

  -- the attempt is 0 exactly when the phase is 0; request and delivered value may hold any number
  abbrev pub client_tests : State → ℕ → List Bool
  client_tests s c =
      leb (s (client_up c)) 1
      ∷ leb (s (phase c)) 3
      ∷ leb (s (attempt c)) n.attempts
      ∷ beq (eqb (s (attempt c)) 0) (eqb (s (phase c)) 0)
      ∷ []

  -- value and computed may hold any number
  abbrev pub row_tests : Row → List Bool
  row_tests r =
      leb (r owner) n.servers
      ∷ leb (r outcome) 2
      ∷ leb (r sent) (all n.servers)
      ∷ leb (r voted) (all n.databases)
      ∷ leb (r voted_yes) (all n.databases)
      ∷ leb (r heard) (all n.databases)
      ∷ leb (r heard_yes) (all n.databases)
      ∷ leb (r written) 1
      ∷ leb (r terminating) (all n.servers)
      ∷ leb (r decided) (all n.databases)
      ∷ leb (r committed) (all n.databases)
      ∷ each n.servers (λ i. leb (r (acked i)) (all n.databases))
      ∷ each n.servers (λ i. leb (r (known i)) (all n.databases))
      ∷ []

  unfoldable pub in_range : State → Bool
  unfolding each
  in_range s = every (
      each n.servers (λ i. every (server_tests s i))
      ∷ each n.databases (λ d. every (database_tests s d))
      ∷ each n.clients (λ c. every (client_tests s c))
      ∷ each n.clients (λ c. each n.attempts (λ k. every (row_tests (row_of s c k))))
      ∷ [])

-- ---- 4: a field outside its range, or not 0 where unused: client, attempt, server, database, value

abbrev pub field_tests : Counts → Option Kind → Record → List Bool
field_tests n none r = []
field_tests n (some kind) r =
    fits n kind.client r.client
    ∷ fits n kind.attempt r.attempt
    ∷ fits n kind.server r.server
    ∷ fits n kind.database r.database
    ∷ fits n kind.value r.value
    ∷ []

abbrev pub fields : Counts → Record → List Bool
fields n r = field_tests n (kind_of r.kind) r

-- ---- 5: a party that acts is down. Client in 1, 2, 14, 17; server in 3, 4, 6 to 11, 13, 15; database in 5, 12, 16

abbrev pub acting : Event → List Name
acting (issue c v) = client_up c ∷ []
acting (timeout c) = client_up c ∷ []
acting (request_arrives c k i) = server_up i ∷ []
acting (compute c k i v) = server_up i ∷ []
acting (prepare_arrives c k d v) = database_up d ∷ []
acting (vote_arrives c k i d) = server_up i ∷ []
acting (ready_arrives c k i d) = server_up i ∷ []
acting (write c k i) = server_up i ∷ []
acting (suspect i o) = server_up i ∷ []
acting (trust i o) = server_up i ∷ []
acting (clean c k i) = server_up i ∷ []
acting (decide_arrives c k i d) = database_up d ∷ []
acting (ack_arrives c k i d) = server_up i ∷ []
acting (result_arrives c k i) = client_up c ∷ []
acting (server_crashes i) = server_up i ∷ []
acting (database_crashes d) = database_up d ∷ []
acting (client_crashes c) = client_up c ∷ []
acting (database_recovers d) = []

abbrev pub are_up : State → List Name → List Bool
are_up s [] = []
are_up s (m ∷ ms) = eqb (s m) 1 ∷ are_up s ms

-- ---- the lowest number that applies is given

-- of an event: 4, 5, 6, 7, or 0 where it is accepted
unfoldable pub refusal : Counts → State → Event → ℕ
refusal n s e =
    cond (every (fields n (record_of e)))
    (cond (every (are_up s (acting e))) (cond (every (rule n s e).sent_if) (cond (every (rule n s e).must) 0 7) 6) 5)
    4

-- of a record whose kind has this line in the table, or none: 3 to 7, or 0
abbrev pub refusal_at : Counts → State → Record → Option Kind → ℕ
refusal_at n s r none = 3
refusal_at n s r (some kind) = cond (every (field_tests n (some kind) r)) (refusal n s (kind.event r)) 4

unfoldable pub record_refusal : Counts → State → Record → ℕ
unfolding refusal
record_refusal n s r = refusal_at n s r (kind_of r.kind)
