-- What the loops of `listing::attempt_lines` keep, and why they end.
use Prim.Native.Nat.{◌-◌}
use Rattle.protocol.specs.Cells.{row_of}
use Rattle.table.specs.Table.{view}
use Rattle.text.specs.Lent.{Continues}
use Rattle.listing.specs.Listing.{result_line, for_each}
use Rattle.listing.proofs.attempt_lines.Given as goal

abbrev pub invariant-loop-attempt : goal.invariant-loop-attempt
invariant-loop-attempt l =
    Continues l.initial.page l.page (for_each (l.attempt - 1) (λ k. result_line l.client k (row_of (view l.table.counts l.table.cells.now) l.client k)))
