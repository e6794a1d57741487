-- The paper's marked examples P1 to P12 and listing L1, as one table.
use Rattle.std.specs.Prelude.{Bool, true, cond, ◌&&◌, List, [], ◌∷◌, ◌++◌, map, ℕ, eqb, replicate}
use Rattle.lists.specs.Tests.{every}
use Rattle.protocol.specs.declared.Counts.{Counts}
use Rattle.protocol.specs.Cells.{Writes, State, phase, attempt, request, delivered, row, owner, outcome, value, voted_yes, committed}
use Rattle.protocol.specs.Events.{Event, record_of, issue, timeout, request_arrives, compute, prepare_arrives, vote_arrives, ready_arrives, write, suspect, clean, decide_arrives, ack_arrives, result_arrives, server_crashes, database_crashes, database_recovers}
use Rattle.table.specs.Layout.{table_length}
use Rattle.table.specs.Table.{view, set_all}
use Rattle.table.specs.Jobs.{Ran, set_up, stopped, ran}

-- ---- the form of an example

pub record Example : Type 0 where
  pub counts : Counts
  -- cells changed by hand after the setup
  pub changed : Writes
  pub events : List Event
  -- how many events are accepted, and the number given then: a refusal, or 0 at the end of the list
  pub accepted : ℕ
  pub number : ℕ
  -- cells of the table that is left
  pub cells : Writes

abbrev counts : ℕ → ℕ → ℕ → ℕ → Counts
counts C A D N = record { clients = C; servers = A; databases = D; attempts = N }

abbrev from : Counts → List Event → ℕ → ℕ → Writes → Example
from n events accepted number cells =
    record { counts = n; changed = []; events = events; accepted = accepted; number = number; cells = cells }

-- the setup, on a table of its length, and then the list
unfoldable pub played : Example → Ran
unfolding set_up ran table_length
played x =
    let done = set_up (replicate (table_length x.counts) 0) x.counts in
    let run = ran (set_all x.counts done.cells x.changed) (map record_of x.events) in
    cond (eqb done.number 0) run (stopped done.number done.cells)

abbrev agree : State → Writes → Bool
agree s [] = true
agree s (w ∷ ws) = eqb (s w.0) w.1 && agree s ws

unfoldable pub holds : Example → Bool
unfolding played view
holds x =
    let run = played x in
    every (eqb run.accepted x.accepted ∷ eqb run.refusal x.number ∷ agree (view x.counts run.cells) x.cells ∷ [])

-- ---- the examples

abbrev setup : Counts
setup = counts 1 2 1 2

abbrev L1 : List Event
L1 =
    issue 1 700
    ∷ request_arrives 1 1 1
    ∷ compute 1 1 1 55
    ∷ suspect 2 1
    ∷ clean 1 1 2
    ∷ decide_arrives 1 1 2 1
    ∷ prepare_arrives 1 1 1 1
    ∷ ack_arrives 1 1 2 1
    ∷ result_arrives 1 1 2
    ∷ []

-- phase, attempt and delivered value of client 1, and owner, outcome, value, yes votes and commits of its first result
abbrev state : ℕ → ℕ → ℕ → ℕ → ℕ → ℕ → ℕ → ℕ → Writes
state p k v o result w y commits =
    (phase 1, p)
    ∷ (attempt 1, k)
    ∷ (delivered 1, v)
    ∷ (row 1 1 owner, o)
    ∷ (row 1 1 outcome, result)
    ∷ (row 1 1 value, w)
    ∷ (row 1 1 voted_yes, y)
    ∷ (row 1 1 committed, commits)
    ∷ []

-- issue 700, request to server 1, compute 55, the database says so, then what follows
abbrev up_to : ℕ → List Event → List Event
up_to says rest = issue 1 700 ∷ request_arrives 1 1 1 ∷ compute 1 1 1 55 ∷ prepare_arrives 1 1 1 says ∷ rest

abbrev ending : List Event
ending = write 1 1 1 ∷ decide_arrives 1 1 1 1 ∷ ack_arrives 1 1 1 1 ∷ result_arrives 1 1 1 ∷ []

unfoldable pub examples : List Example
examples =
    -- P1: L1's first nine events
    from setup L1 9 0 (state 1 2 0 1 2 0 0 0)
    -- P2: its tenth, and L1's last state
    ∷ from setup (L1 ++ (request_arrives 1 2 2 ∷ [])) 9 6 (state 1 2 0 1 2 0 0 0)
    -- P3: a commit: phase 2, value 55
    ∷ from setup (up_to 1 (vote_arrives 1 1 1 1 ∷ ending)) 9 0 (state 2 1 55 1 1 55 1 1)
    -- P4: P3 without the vote: write gives 7
    ∷ from setup (up_to 1 ending) 4 7 []
    -- P5: P3 with vote no: abort, attempt 2
    ∷ from setup (up_to 2 (vote_arrives 1 1 1 1 ∷ ending)) 9 0 (state 1 2 0 1 2 0 0 0)
    -- P6: database 1 crashes and recovers before the vote arrives, ready arrives first: abort
    ∷ from setup (up_to 1 (database_crashes 1 ∷ database_recovers 1 ∷ ready_arrives 1 1 1 1 ∷ vote_arrives 1 1 1 1 ∷ ending)) 12 0 (state 1 2 0 1 2 0 1 0)
    -- P7: issue with value 0 (4) and 65535 (0)
    ∷ from setup (issue 1 0 ∷ []) 0 4 []
    ∷ from setup (issue 1 65535 ∷ []) 1 0 ((request 1, 65535) ∷ [])
    -- P8: server 2 suspects itself (7)
    ∷ from setup (suspect 2 2 ∷ []) 0 7 []
    -- P9: second crash of server 1 (5)
    ∷ from setup (server_crashes 1 ∷ server_crashes 1 ∷ []) 1 5 []
    -- P10: P5 from setup 1 2 1 1: phase 3, attempt 1
    ∷ from (counts 1 2 1 1) (up_to 2 (vote_arrives 1 1 1 1 ∷ ending)) 9 0 (state 3 1 0 1 2 0 0 0)
    -- P11: A = 9: 1
    ∷ from (counts 1 9 1 2) [] 0 1 []
    -- P12: an attempt 0 with phase 1: 2
    ∷ record { counts = setup; changed = (phase 1, 1) ∷ []; events = timeout 1 ∷ []; accepted = 0; number = 2; cells = [] }
    ∷ []
