-- What the loops of `lines::put_line` keep, and why they end.
use lib.ListN.{drop}
use Rattle.lines.proofs.Numbers.{Left}
use Rattle.lines.proofs.put_line.Given as goal

abbrev pub invariant-loop-number : goal.invariant-loop-number
invariant-loop-number l = Left l.initial.page l.others l.page (drop l.number-index l.others)
