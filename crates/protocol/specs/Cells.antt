-- The table's cells by name, a state as the number in each, and writes to it.
use Rattle.std.specs.Prelude.{Bool, true, false, cond, ◌&&◌, List, [], ◌∷◌, ℕ, eqb}
use Rattle.lists.specs.Tests.{inside}
use Rattle.protocol.specs.declared.Counts.{Counts}

-- ---- names

-- the cells of one result's row, in the table's order
pub data Field : Type 0 where
  -- the register of claims, and the register of decisions
  owner outcome value : Field
  computed : Field
  -- servers the request was sent to
  sent : Field
  -- databases that voted, and those that voted yes
  voted voted_yes : Field
  -- databases the owner has heard, and those heard as yes
  heard heard_yes : Field
  written : Field
  -- servers terminating
  terminating : Field
  -- databases that decided, and those that committed
  decided committed : Field
  -- the databases whose acknowledgement was sent to a server, and those whose acknowledgement it knows
  acked known : ℕ → Field

-- a cell of the table behind its header: of a server, a database, a client, or of the row of the result (client, attempt)
pub data Name : Type 0 where
  server_up suspects : ℕ → Name
  database_up ready : ℕ → Name
  client_up phase attempt request delivered : ℕ → Name
  row : ℕ → ℕ → Field → Name

-- ---- names told apart: a tag, and the server, attempt and party that go with it

abbrev pub field_tag : Field → ℕ
field_tag owner = 0
field_tag outcome = 1
field_tag value = 2
field_tag computed = 3
field_tag sent = 4
field_tag voted = 5
field_tag voted_yes = 6
field_tag heard = 7
field_tag heard_yes = 8
field_tag written = 9
field_tag terminating = 10
field_tag decided = 11
field_tag committed = 12
field_tag (acked server) = 13
field_tag (known server) = 14

abbrev pub field_server : Field → ℕ
field_server owner = 0
field_server outcome = 0
field_server value = 0
field_server computed = 0
field_server sent = 0
field_server voted = 0
field_server voted_yes = 0
field_server heard = 0
field_server heard_yes = 0
field_server written = 0
field_server terminating = 0
field_server decided = 0
field_server committed = 0
field_server (acked server) = server
field_server (known server) = server

abbrev pub same_field : Field → Field → Bool
same_field f g = eqb (field_tag f) (field_tag g) && eqb (field_server f) (field_server g)

abbrev pub tag : Name → ℕ
tag (server_up i) = 15
tag (suspects i) = 16
tag (database_up d) = 17
tag (ready d) = 18
tag (client_up c) = 19
tag (phase c) = 20
tag (attempt c) = 21
tag (request c) = 22
tag (delivered c) = 23
tag (row c k f) = field_tag f

abbrev pub server_of : Name → ℕ
server_of (server_up i) = 0
server_of (suspects i) = 0
server_of (database_up d) = 0
server_of (ready d) = 0
server_of (client_up c) = 0
server_of (phase c) = 0
server_of (attempt c) = 0
server_of (request c) = 0
server_of (delivered c) = 0
server_of (row c k f) = field_server f

abbrev pub attempt_of : Name → ℕ
attempt_of (server_up i) = 0
attempt_of (suspects i) = 0
attempt_of (database_up d) = 0
attempt_of (ready d) = 0
attempt_of (client_up c) = 0
attempt_of (phase c) = 0
attempt_of (attempt c) = 0
attempt_of (request c) = 0
attempt_of (delivered c) = 0
attempt_of (row c k f) = k

abbrev pub party_of : Name → ℕ
party_of (server_up i) = i
party_of (suspects i) = i
party_of (database_up d) = d
party_of (ready d) = d
party_of (client_up c) = c
party_of (phase c) = c
party_of (attempt c) = c
party_of (request c) = c
party_of (delivered c) = c
party_of (row c k f) = c

abbrev pub same : Name → Name → Bool
same m k = eqb (tag m) (tag k) && (eqb (server_of m) (server_of k) && (eqb (attempt_of m) (attempt_of k) && eqb (party_of m) (party_of k)))

-- ---- which names there are in a setup

abbrev pub field_exists : Counts → Field → Bool
field_exists n owner = true
field_exists n outcome = true
field_exists n value = true
field_exists n computed = true
field_exists n sent = true
field_exists n voted = true
field_exists n voted_yes = true
field_exists n heard = true
field_exists n heard_yes = true
field_exists n written = true
field_exists n terminating = true
field_exists n decided = true
field_exists n committed = true
field_exists n (acked server) = inside n.servers server
field_exists n (known server) = inside n.servers server

abbrev pub exists : Counts → Name → Bool
exists n (server_up i) = inside n.servers i
exists n (suspects i) = inside n.servers i
exists n (database_up d) = inside n.databases d
exists n (ready d) = inside n.databases d
exists n (client_up c) = inside n.clients c
exists n (phase c) = inside n.clients c
exists n (attempt c) = inside n.clients c
exists n (request c) = inside n.clients c
exists n (delivered c) = inside n.clients c
exists n (row c k f) = inside n.clients c && (inside n.attempts k && field_exists n f)

-- ---- states and rows

abbrev pub State : Type 0
State = Name → ℕ

abbrev pub Row : Type 0
Row = Field → ℕ

-- the row of a result
abbrev pub row_of : State → ℕ → ℕ → Row
row_of s c k f = s (row c k f)

-- ---- writes, one after the other

abbrev pub Writes : Type 0
Writes = List (Name × ℕ)

abbrev pub store : State → Name → ℕ → State
store s m v k = cond (same m k) v (s k)

abbrev pub store_all : State → Writes → State
store_all s [] = s
store_all s (w ∷ ws) = store_all (store s w.0 w.1) ws

abbrev pub RowWrites : Type 0
RowWrites = List (Field × ℕ)

abbrev pub store_field : Row → Field → ℕ → Row
store_field r f v g = cond (same_field f g) v (r g)

abbrev pub store_fields : Row → RowWrites → Row
store_fields r [] = r
store_fields r (w ∷ ws) = store_fields (store_field r w.0 w.1) ws

-- writes to the row of one result
abbrev pub in_row : ℕ → ℕ → RowWrites → Writes
in_row c k [] = []
in_row c k (w ∷ ws) = (row c k w.0, w.1) ∷ in_row c k ws

-- ---- the fresh state: every up cell 1 and all else 0

abbrev pub is_up : Name → Bool
is_up (server_up i) = true
is_up (suspects i) = false
is_up (database_up d) = true
is_up (ready d) = false
is_up (client_up c) = true
is_up (phase c) = false
is_up (attempt c) = false
is_up (request c) = false
is_up (delivered c) = false
is_up (row c k f) = false

unfoldable pub fresh : Counts → State
fresh n m = cond (is_up m && exists n m) 1 0
