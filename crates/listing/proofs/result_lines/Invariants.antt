-- What the loops of `listing::result_lines` keep, and why they end.
use Prim.Native.Nat.{◌-◌}
use Rattle.protocol.specs.Cells.{row_of}
use Rattle.table.specs.Table.{view}
use Rattle.text.specs.Lent.{Continues}
use Rattle.listing.specs.Listing.{result_line, for_each}
use Rattle.listing.proofs.result_lines.Given as goal

abbrev pub invariant-loop-client : goal.invariant-loop-client
invariant-loop-client l =
    Continues l.initial.page l.page (for_each (l.client - 1) (λ c. for_each l.table.counts.attempts (λ k. result_line c k (row_of (view l.table.counts l.table.cells.now) c k))))
