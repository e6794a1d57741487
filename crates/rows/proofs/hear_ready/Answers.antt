-- `rows::hear_ready` meets its contract.
use Rattle.table.specs.Table.{row_view}
use Rattle.protocol.specs.Rules.{ready_rule}
use Rattle.rows.proofs.Laws.{went}
use Rattle.rows.proofs.hear_ready.Goals as goal

pub returns : goal.returns
returns c =
    went c.args.counts c.args.row.now (ready_rule c.args.server c.args.database c.args.ready (row_view c.args.counts c.args.row.now)) _
    c.in_ok-ready.ensures (rw (c.owner_listens-listening.ensures, c.load-cells.ensures c.args.counts) at (c.hear.ensures c.args.counts))
