-- The first line and an event line, read, and the lines of clients and results, as text.
use Rattle.std.specs.Prelude.{List, [], ◌∷◌, ℕ, zero, suc, ◌≤◌}
use Rattle.std.proofs.Math.Option.{Option, none, some}
use Rattle.protocol.specs.declared.Counts.{Counts}
use Rattle.protocol.specs.declared.Event.{Event}
use Rattle.text.specs.Writing.{space, newline, line}
use Rattle.text.specs.Reading.{most, read_number}

-- ---- reading: what a line says, and what stands behind it

-- what was read, and then what is made of it and of the text behind it
abbrev pub and_then : {A X : Type 0} → Option (A × List ℕ) → (A → List ℕ → Option X) → Option X
and_then none next = none
and_then (some found) next = next found.0 found.1

-- C A D N
unfoldable pub read_counts : List ℕ → Option (Counts × List ℕ)
read_counts text =
    and_then (read_number space text) (λ clients servers-on.
    and_then (read_number space servers-on) (λ servers databases-on.
    and_then (read_number space databases-on) (λ databases attempts-on.
    and_then (read_number newline attempts-on) (λ attempts behind.
    some (record { clients = clients; servers = servers; databases = databases; attempts = attempts }, behind)))))

-- kind client attempt server database value
unfoldable pub read_event : List ℕ → Option (Event × List ℕ)
read_event text =
    and_then (read_number space text) (λ kind client-on.
    and_then (read_number space client-on) (λ client attempt-on.
    and_then (read_number space attempt-on) (λ attempt server-on.
    and_then (read_number space server-on) (λ server database-on.
    and_then (read_number space database-on) (λ database value-on.
    and_then (read_number newline value-on) (λ value behind.
    some (record { kind = kind; client = client; attempt = attempt; server = server; database = database; value = value }, behind)))))))

-- the byte that ends a number of a line, by how many numbers stand behind it
abbrev pub end_before : ℕ → ℕ
end_before zero = newline
end_before (suc others) = space

-- so many numbers, a space between and a newline at the end
unfoldable pub read_numbers : ℕ → List ℕ → Option (List ℕ × List ℕ)
read_numbers zero text = some ([], text)
read_numbers (suc others) text =
    and_then (read_number (end_before others) text) (λ number onward.
    and_then (read_numbers others onward) (λ numbers behind.
    some (number ∷ numbers, behind)))

-- ---- writing

-- the letters C and R
abbrev pub client_letter : ℕ
client_letter = 67

abbrev pub result_letter : ℕ
result_letter = 82

-- C client phase attempt value
unfoldable pub client_text : ℕ → ℕ → ℕ → ℕ → List ℕ
client_text client phase attempt delivered = client_letter ∷ space ∷ line (client ∷ phase ∷ attempt ∷ delivered ∷ [])

-- R client attempt owner outcome value yes-votes commits
unfoldable pub result_text : ℕ → ℕ → ℕ → ℕ → ℕ → ℕ → ℕ → List ℕ
result_text client attempt owner outcome value votes commits =
    result_letter ∷ space ∷ line (client ∷ attempt ∷ owner ∷ outcome ∷ value ∷ votes ∷ commits ∷ [])

-- ---- the text that a first line and an event line are, and that their numbers are those of a line

abbrev pub counts_text : Counts → List ℕ
counts_text n = line (n.clients ∷ n.servers ∷ n.databases ∷ n.attempts ∷ [])

pub record CountsFit (n : Counts) : Type 0 where
  pub clients : n.clients ≤ most
  pub servers : n.servers ≤ most
  pub databases : n.databases ≤ most
  pub attempts : n.attempts ≤ most

abbrev pub event_text : Event → List ℕ
event_text e = line (e.kind ∷ e.client ∷ e.attempt ∷ e.server ∷ e.database ∷ e.value ∷ [])

pub record EventFits (e : Event) : Type 0 where
  pub kind : e.kind ≤ most
  pub client : e.client ≤ most
  pub attempt : e.attempt ≤ most
  pub server : e.server ≤ most
  pub database : e.database ≤ most
  pub value : e.value ≤ most
