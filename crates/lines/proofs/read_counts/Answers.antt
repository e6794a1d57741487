-- `lines::read_counts` meets its contract.
use mathlib.Core.Option.{none, some}
use Rattle.lines.proofs.Numbers.{counts_from}
use Rattle.lines.proofs.read_counts.Goals as goal

pub returns-in_err-clients : goal.returns-in_err-clients
returns-in_err-clients c = rw c.from_residual.ensures (counts_from _ none c.in_err-clients.ensures)

pub returns : goal.returns
returns c = counts_from _ (some _) c.in_ok-clients.ensures
