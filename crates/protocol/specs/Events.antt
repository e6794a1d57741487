-- The 18 events, the six numbers of a record, and the table of kinds.
use Rattle.std.specs.Prelude.{Bool, cond, List, [], ◌∷◌, ℕ, zero, suc, eqb}
use Rattle.std.proofs.Math.Option.{Option, none}
use Rattle.std.proofs.Math.ListN.{get_elem?}
use Rattle.lists.specs.Tests.{inside}
use Rattle.protocol.specs.declared.Counts.{Counts}
use Rattle.protocol.specs.declared.Event.{Event as Record}

-- what happens: the events in the order of their kinds, each with the fields that it uses
pub data Event : Type 0 where
  issue : (client value : ℕ) → Event
  timeout : (client : ℕ) → Event
  request_arrives : (client attempt server : ℕ) → Event
  compute : (client attempt server value : ℕ) → Event
  prepare_arrives : (client attempt database value : ℕ) → Event
  vote_arrives : (client attempt server database : ℕ) → Event
  ready_arrives : (client attempt server database : ℕ) → Event
  write : (client attempt server : ℕ) → Event
  suspect : (server value : ℕ) → Event
  trust : (server value : ℕ) → Event
  clean : (client attempt server : ℕ) → Event
  decide_arrives : (client attempt server database : ℕ) → Event
  ack_arrives : (client attempt server database : ℕ) → Event
  result_arrives : (client attempt server : ℕ) → Event
  server_crashes : (server : ℕ) → Event
  database_crashes : (database : ℕ) → Event
  client_crashes : (client : ℕ) → Event
  database_recovers : (database : ℕ) → Event

-- the record of an event: kind, client, attempt, server, database, value; what it does not use is 0
abbrev pub record_of_numbers : ℕ → ℕ → ℕ → ℕ → ℕ → ℕ → Record
record_of_numbers kind client attempt server database value =
    record { kind = kind; client = client; attempt = attempt; server = server; database = database; value = value }

abbrev pub record_of : Event → Record
record_of (issue c v) = record_of_numbers 1 c 0 0 0 v
record_of (timeout c) = record_of_numbers 2 c 0 0 0 0
record_of (request_arrives c k i) = record_of_numbers 3 c k i 0 0
record_of (compute c k i v) = record_of_numbers 4 c k i 0 v
record_of (prepare_arrives c k d v) = record_of_numbers 5 c k 0 d v
record_of (vote_arrives c k i d) = record_of_numbers 6 c k i d 0
record_of (ready_arrives c k i d) = record_of_numbers 7 c k i d 0
record_of (write c k i) = record_of_numbers 8 c k i 0 0
record_of (suspect i o) = record_of_numbers 9 0 0 i 0 o
record_of (trust i o) = record_of_numbers 10 0 0 i 0 o
record_of (clean c k i) = record_of_numbers 11 c k i 0 0
record_of (decide_arrives c k i d) = record_of_numbers 12 c k i d 0
record_of (ack_arrives c k i d) = record_of_numbers 13 c k i d 0
record_of (result_arrives c k i) = record_of_numbers 14 c k i 0 0
record_of (server_crashes i) = record_of_numbers 15 0 0 i 0 0
record_of (database_crashes d) = record_of_numbers 16 0 0 0 d 0
record_of (client_crashes c) = record_of_numbers 17 c 0 0 0 0
record_of (database_recovers d) = record_of_numbers 18 0 0 0 d 0

-- ---- the table of kinds: which fields are used, and their largest values

-- what a field may hold: nothing, a client, an attempt, a server, a database, any number but 0, 1 for yes or 2 for no
abbrev pub unused : ℕ
unused = 0

abbrev pub a_client : ℕ
a_client = 1

abbrev pub an_attempt : ℕ
an_attempt = 2

abbrev pub a_server : ℕ
a_server = 3

abbrev pub a_database : ℕ
a_database = 4

abbrev pub a_number : ℕ
a_number = 5

abbrev pub yes_or_no : ℕ
yes_or_no = 6

-- the largest value of a field that is used
abbrev pub largest : Counts → ℕ → ℕ
largest n zero = 0
largest n (suc zero) = n.clients
largest n (suc (suc zero)) = n.attempts
largest n (suc (suc (suc zero))) = n.servers
largest n (suc (suc (suc (suc zero)))) = n.databases
largest n (suc (suc (suc (suc (suc zero))))) = 65535
largest n (suc (suc (suc (suc (suc (suc limit)))))) = 2

-- 0 where the field is unused, else from 1 to its largest value
abbrev pub fits : Counts → ℕ → ℕ → Bool
fits n limit field = cond (eqb limit unused) (eqb field 0) (inside (largest n limit) field)

-- a line of the table: the event, and what its five fields may hold
pub record Kind : Type 0 where
  pub event : Record → Event
  pub client : ℕ
  pub attempt : ℕ
  pub server : ℕ
  pub database : ℕ
  pub value : ℕ

abbrev line : (Record → Event) → ℕ → ℕ → ℕ → ℕ → ℕ → Kind
line event client attempt server database value =
    record { event = event; client = client; attempt = attempt; server = server; database = database; value = value }

abbrev pub kinds : List Kind
kinds =
    line (λ r. issue r.client r.value) a_client unused unused unused a_number
    ∷ line (λ r. timeout r.client) a_client unused unused unused unused
    ∷ line (λ r. request_arrives r.client r.attempt r.server) a_client an_attempt a_server unused unused
    ∷ line (λ r. compute r.client r.attempt r.server r.value) a_client an_attempt a_server unused a_number
    ∷ line (λ r. prepare_arrives r.client r.attempt r.database r.value) a_client an_attempt unused a_database yes_or_no
    ∷ line (λ r. vote_arrives r.client r.attempt r.server r.database) a_client an_attempt a_server a_database unused
    ∷ line (λ r. ready_arrives r.client r.attempt r.server r.database) a_client an_attempt a_server a_database unused
    ∷ line (λ r. write r.client r.attempt r.server) a_client an_attempt a_server unused unused
    ∷ line (λ r. suspect r.server r.value) unused unused a_server unused a_server
    ∷ line (λ r. trust r.server r.value) unused unused a_server unused a_server
    ∷ line (λ r. clean r.client r.attempt r.server) a_client an_attempt a_server unused unused
    ∷ line (λ r. decide_arrives r.client r.attempt r.server r.database) a_client an_attempt a_server a_database unused
    ∷ line (λ r. ack_arrives r.client r.attempt r.server r.database) a_client an_attempt a_server a_database unused
    ∷ line (λ r. result_arrives r.client r.attempt r.server) a_client an_attempt a_server unused unused
    ∷ line (λ r. server_crashes r.server) unused unused a_server unused unused
    ∷ line (λ r. database_crashes r.database) unused unused unused a_database unused
    ∷ line (λ r. client_crashes r.client) a_client unused unused unused unused
    ∷ line (λ r. database_recovers r.database) unused unused unused a_database unused
    ∷ []

-- the line of a kind; kinds are counted from 1, and any other number has none
abbrev pub kind_of : ℕ → Option Kind
kind_of zero = none
kind_of (suc before) = get_elem? kinds before
