-- What the rules ask of a row, as the code has it: the row as a struct, and the number that a rule gives.
use Rattle.std.specs.Prelude.{cond, List, ℕ}
use Rattle.lists.specs.Tests.{every}
use Rattle.registers.specs.Register.{held, outcome_of, value_of}
use Rattle.protocol.specs.declared.Counts.{Counts}
use Rattle.protocol.specs.Cells.{owner, outcome, value, computed, sent, voted, voted_yes, heard, heard_yes, written, terminating, decided, committed, acked, known}
use Rattle.protocol.specs.Cells.{Row as Cells}
use Rattle.protocol.specs.Rules.{RowRule}
use Rattle.table.specs.Table.{row_view}
use Rattle.gates.specs.declared.Row.{Row}

-- the struct that the lent cells hold
abbrev pub loaded : Counts → List ℕ → Row
loaded n l = record {
  owner = row_view n l owner;
  decision = held (row_view n l outcome) (row_view n l value);
  computed = row_view n l computed;
  sent = row_view n l sent;
  voted = row_view n l voted;
  voted_yes = row_view n l voted_yes;
  heard = row_view n l heard;
  heard_yes = row_view n l heard_yes;
  written = row_view n l written;
  terminating = row_view n l terminating;
  decided = row_view n l decided;
  committed = row_view n l committed;
}

-- the cells of the struct by name; it does not hold the acknowledgements
abbrev pub as_row : Row → Cells
as_row r owner = r.owner
as_row r outcome = outcome_of r.decision
as_row r value = value_of r.decision
as_row r computed = r.computed
as_row r sent = r.sent
as_row r voted = r.voted
as_row r voted_yes = r.voted_yes
as_row r heard = r.heard
as_row r heard_yes = r.heard_yes
as_row r written = r.written
as_row r terminating = r.terminating
as_row r decided = r.decided
as_row r committed = r.committed
as_row r (acked i) = 0
as_row r (known i) = 0

-- the number that a rule gives: 6 if the message was not sent, 7 if a must does not hold, else 0
abbrev pub given : RowRule → ℕ
given rule = cond (every rule.sent_if) (cond (every rule.must) 0 7) 6
