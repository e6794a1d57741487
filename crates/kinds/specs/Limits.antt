-- What a line of the table of kinds asks of the five fields of an event.
use Rattle.std.specs.Prelude.{Bool, List, [], ◌∷◌, map, ℕ, get_or}
use Rattle.protocol.specs.declared.Counts.{Counts}
use Rattle.protocol.specs.declared.Event.{Event}
use Rattle.protocol.specs.Events.{unused, a_client, an_attempt, a_server, a_database, a_number, yes_or_no, largest, fits}
use Rattle.kinds.specs.declared.Limit.{Limit}
use Rattle.kinds.specs.declared.Limit.TheVariants.{Unused, Client, Attempt, Server, Database, Number, YesOrNo}

-- what a field may hold, as the paper's table has it
abbrev pub limit_number : Limit → ℕ
limit_number Unused = unused
limit_number Client = a_client
limit_number Attempt = an_attempt
limit_number Server = a_server
limit_number Database = a_database
limit_number Number = a_number
limit_number YesOrNo = yes_or_no

-- the largest values, in the order of what a field may hold
abbrev pub most_of : Counts → List ℕ
most_of n = map (largest n) (unused ∷ a_client ∷ an_attempt ∷ a_server ∷ a_database ∷ a_number ∷ yes_or_no ∷ [])

-- the five tests: client, attempt, server, database, value
abbrev pub limited : Counts → List Limit → Event → List Bool
limited n line e =
    fits n (limit_number (get_or line 0 Unused)) e.client
    ∷ fits n (limit_number (get_or line 1 Unused)) e.attempt
    ∷ fits n (limit_number (get_or line 2 Unused)) e.server
    ∷ fits n (limit_number (get_or line 3 Unused)) e.database
    ∷ fits n (limit_number (get_or line 4 Unused)) e.value
    ∷ []
