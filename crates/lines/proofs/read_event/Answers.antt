-- `lines::read_event` meets its contract.
use mathlib.Core.Option.{none, some}
use Rattle.lines.proofs.Numbers.{event_from}
use Rattle.lines.proofs.read_event.Goals as goal

pub returns-in_err-kind : goal.returns-in_err-kind
returns-in_err-kind c = rw c.from_residual.ensures (event_from _ none c.in_err-kind.ensures)

pub returns : goal.returns
returns c = event_from _ (some _) c.in_ok-kind.ensures
