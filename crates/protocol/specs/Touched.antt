-- "Only the row of one result and the party cells named below change at an event": which these are.
use Rattle.std.specs.Prelude.{List, [], ◌∷◌, ◌⊎◌, ◌≡◌, ℕ, suc}
use Rattle.protocol.specs.Cells.{Field, Name, server_up, suspects, database_up, ready, client_up, phase, attempt, request, delivered, row, State}
use Rattle.protocol.specs.Events.{Event, issue, timeout, request_arrives, compute, prepare_arrives, vote_arrives, ready_arrives, write, suspect, trust, clean, decide_arrives, ack_arrives, result_arrives, server_crashes, database_crashes, client_crashes, database_recovers}

-- the party cells that the rule of an event names
abbrev pub party_cells : Event → List Name
party_cells (issue c v) = phase c ∷ attempt c ∷ request c ∷ []
party_cells (timeout c) = []
party_cells (request_arrives c k i) = []
party_cells (compute c k i v) = []
party_cells (prepare_arrives c k d v) = []
party_cells (vote_arrives c k i d) = []
party_cells (ready_arrives c k i d) = []
party_cells (write c k i) = []
party_cells (suspect i o) = suspects i ∷ []
party_cells (trust i o) = suspects i ∷ []
party_cells (clean c k i) = []
party_cells (decide_arrives c k i d) = []
party_cells (ack_arrives c k i d) = []
party_cells (result_arrives c k i) = phase c ∷ attempt c ∷ delivered c ∷ []
party_cells (server_crashes i) = server_up i ∷ []
party_cells (database_crashes d) = database_up d ∷ []
party_cells (client_crashes c) = client_up c ∷ []
party_cells (database_recovers d) = database_up d ∷ ready d ∷ []

-- the rows that an event may change: none, or that of one result
pub data ChangedRow : Type 0 where
  no_row : ChangedRow
  one_row : (client attempt : ℕ) → ChangedRow

-- it need not be the row that the event names: a timeout's is that of the client's current attempt, a result's that of the next one
abbrev pub row_changed : State → Event → ChangedRow
row_changed s (issue c v) = one_row c 1
row_changed s (timeout c) = one_row c (s (attempt c))
row_changed s (request_arrives c k i) = one_row c k
row_changed s (compute c k i v) = one_row c k
row_changed s (prepare_arrives c k d v) = one_row c k
row_changed s (vote_arrives c k i d) = one_row c k
row_changed s (ready_arrives c k i d) = one_row c k
row_changed s (write c k i) = one_row c k
row_changed s (suspect i o) = no_row
row_changed s (trust i o) = no_row
row_changed s (clean c k i) = one_row c k
row_changed s (decide_arrives c k i d) = one_row c k
row_changed s (ack_arrives c k i d) = one_row c k
row_changed s (result_arrives c k i) = one_row c (suc k)
row_changed s (server_crashes i) = no_row
row_changed s (database_crashes d) = no_row
row_changed s (client_crashes c) = no_row
row_changed s (database_recovers d) = no_row

-- ---- the cells of both

abbrev pub Among : Name → List Name → Type 0
Among m [] = ⊥
Among m (k ∷ ks) = (m ≡ k) ⊎ Among m ks

abbrev pub InRow : Name → ChangedRow → Type 0
InRow m no_row = ⊥
InRow m (one_row c k) = (f : Field) × (m ≡ row c k f)

abbrev pub MayChange : State → Event → Name → Type 0
MayChange s e m = Among m (party_cells e) ⊎ InRow m (row_changed s e)
