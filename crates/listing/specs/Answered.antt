-- The listing beside the list job: a list of records as a script and as text, and the lines that an answer of the list job prints.
use Rattle.std.specs.Prelude.{List, [], ◌∷◌, ◌++◌, ℕ, zero, suc}
use Rattle.protocol.specs.declared.Event.{Event}
use Rattle.text.specs.Writing.{line}
use Rattle.lines.specs.Lines.{event_text, EventFits}
use Rattle.listing.specs.Script.{Script, event}

-- records one after another, then what follows them
abbrev pub script_of : List Event → Script → Script
script_of [] behind = behind
script_of (e ∷ list) behind = event e (script_of list behind)

-- their lines, and that each is one
abbrev pub texts : List Event → List ℕ
texts [] = []
texts (e ∷ list) = event_text e ++ texts list

abbrev pub RecordsFit : List Event → Type 0
RecordsFit [] = Unit {0}
RecordsFit (e ∷ list) = EventFits e × RecordsFit list

-- from a place on: `k 0` for each accepted event, and the line of the refusal, if there is one
unfoldable pub answer_lines : ℕ → ℕ → ℕ → List ℕ
answer_lines place zero zero = []
answer_lines place zero (suc refusal) = line (place ∷ suc refusal ∷ [])
answer_lines place (suc accepted) refusal = line (place ∷ 0 ∷ []) ++ answer_lines (suc place) accepted refusal
