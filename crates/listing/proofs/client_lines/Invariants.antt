-- What the loops of `listing::client_lines` keep, and why they end.
use Prim.Native.Nat.{◌-◌}
use Rattle.table.specs.Table.{view}
use Rattle.text.specs.Lent.{Continues}
use Rattle.listing.specs.Listing.{client_line, for_each}
use Rattle.listing.proofs.client_lines.Given as goal

abbrev pub invariant-loop-client : goal.invariant-loop-client
invariant-loop-client l = Continues l.initial.page l.page (for_each (l.client - 1) (client_line (view l.table.counts l.table.cells.now)))
