-- An input behind its first line: event records one after another, then the end or a malformed line.
use Rattle.std.specs.Prelude.{List, [], ◌∷◌, ℕ, zero, suc, length}
use Rattle.std.proofs.Math.Option.{Option, none, some}
use Rattle.protocol.specs.declared.Event.{Event}
use Rattle.lines.specs.Lines.{read_event}

pub data Script : Type 0 where
  ended malformed : Script
  event : Event → Script → Script

-- a line that was read, and what is made of the text behind it
abbrev pub line_then : Option (Event × List ℕ) → (List ℕ → Script) → Script
line_then none next = malformed
line_then (some found) next = event found.0 (next found.1)

-- at most so many lines
unfoldable pub script_within : ℕ → List ℕ → Script
script_within zero text = ended
script_within (suc lines) [] = ended
script_within (suc lines) (b ∷ text) = line_then (read_event (b ∷ text)) (script_within lines)

-- all lines: there are at most as many as bytes
unfoldable pub script : List ℕ → Script
script text = script_within (length text) text
