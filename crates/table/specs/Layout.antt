-- Where each cell lies. The one place that says so: no number of an offset stands anywhere else.
use Rattle.std.specs.Prelude.{ℕ, ◌+◌, ◌-◌, ◌*◌}
use Rattle.protocol.specs.declared.Counts.{Counts}
use Rattle.protocol.specs.Cells.{Field, owner, outcome, value, computed, sent, voted, voted_yes, heard, heard_yes, written, terminating, decided, committed, acked, known}
use Rattle.protocol.specs.Cells.{Name, server_up, suspects, database_up, ready, client_up, phase, attempt, request, delivered, row}

-- ---- a row

-- owner; outcome; value; computed; sent; voted; yes; heard; heard as yes; written; terminating; decided; committed; then A masks of acknowledgements
-- sent, then A masks of acknowledgements known (ids count from 1)
abbrev pub slot : Counts → Field → ℕ
slot n owner = 0
slot n outcome = 1
slot n value = 2
slot n computed = 3
slot n sent = 4
slot n voted = 5
slot n voted_yes = 6
slot n heard = 7
slot n heard_yes = 8
slot n written = 9
slot n terminating = 10
slot n decided = 11
slot n committed = 12
slot n (acked i) = 12 + i
slot n (known i) = 12 + n.servers + i

abbrev pub row_length : Counts → ℕ
row_length n = 13 + 2 * n.servers

-- ---- the table: the header, then servers, databases, clients, and results, client 1's attempts first

abbrev pub header_length : ℕ
header_length = 4

abbrev pub servers_start : Counts → ℕ
servers_start n = header_length

abbrev pub databases_start : Counts → ℕ
databases_start n = servers_start n + 2 * n.servers

abbrev pub clients_start : Counts → ℕ
clients_start n = databases_start n + 2 * n.databases

abbrev pub rows_start : Counts → ℕ
rows_start n = clients_start n + 5 * n.clients

-- how many rows stand before that of a result
unfoldable pub rows_before : Counts → ℕ → ℕ → ℕ
rows_before n c k = (c - 1) * n.attempts + (k - 1)

-- where the row of a result starts
unfoldable pub row_start : Counts → ℕ → ℕ → ℕ
unfolding rows_before
row_start n c k = rows_start n + rows_before n c k * row_length n

unfoldable pub place : Counts → Name → ℕ
unfolding row_start
place n (server_up i) = servers_start n + 2 * (i - 1)
place n (suspects i) = servers_start n + 2 * (i - 1) + 1
place n (database_up d) = databases_start n + 2 * (d - 1)
place n (ready d) = databases_start n + 2 * (d - 1) + 1
place n (client_up c) = clients_start n + 5 * (c - 1)
place n (phase c) = clients_start n + 5 * (c - 1) + 1
place n (attempt c) = clients_start n + 5 * (c - 1) + 2
place n (request c) = clients_start n + 5 * (c - 1) + 3
place n (delivered c) = clients_start n + 5 * (c - 1) + 4
place n (row c k f) = row_start n c k + slot n f

-- 4 + 2A + 2D + 5C + C·N·(13 + 2A)
unfoldable pub table_length : Counts → ℕ
table_length n = rows_start n + n.clients * n.attempts * row_length n
