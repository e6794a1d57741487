-- `rows::acknowledge` meets its contract.
use native.Mathlib.Omega.{arith}
use Rattle.lists.proofs.Choice.{in_inside}
use Rattle.protocol.specs.Cells.{acked}
use Rattle.rows.proofs.Laws.{marked_at}
use Rattle.rows.proofs.acknowledge.Goals as goal

pub offset_bounds-row-sent : goal.offset_bounds-row-sent
offset_bounds-row-sent c = omega (arith, c.acked_at-sent.ensures c.args.counts, c.requires)

pub bounds-row-sent : goal.bounds-row-sent
bounds-row-sent c = omega (arith, c.acked_at-sent.ensures c.args.counts, c.requires)

pub offset_bounds-row-sent-2 : goal.offset_bounds-row-sent-2
offset_bounds-row-sent-2 c = omega (arith, c.acked_at-sent.ensures c.args.counts, c.requires)

pub bounds-row-sent-2 : goal.bounds-row-sent-2
bounds-row-sent-2 c = omega (arith, c.acked_at-sent.ensures c.args.counts, c.requires)

pub returns : goal.returns
returns c =
    let n = c.args.counts in
    marked_at n c.args.row.now (acked c.args.server) c.args.database _ _ (in_inside n.servers c.args.server c.requires.server_there.0 c.requires.server_there.1)
    (c.acked_at-sent.ensures n) c.with.ensures
