-- `rows::prepare` meets its contract.
use Rattle.table.specs.Table.{row_view}
use Rattle.protocol.specs.Rules.{prepare_rule}
use Rattle.rows.proofs.Laws.{went, stayed}
use Rattle.rows.proofs.prepare.Goals as goal

pub returns-in_err-prepare : goal.returns-in_err-prepare
returns-in_err-prepare c =
    stayed c.args.counts c.args.row.now (prepare_rule c.args.database c.args.value (row_view c.args.counts c.args.row.now)) _ _
    c.from_residual.ensures.1 (rw (c.load.ensures c.args.counts) at c.in_err-prepare.ensures)

pub returns : goal.returns
returns c =
    went c.args.counts c.args.row.now (prepare_rule c.args.database c.args.value (row_view c.args.counts c.args.row.now)) _
    (rw (c.load.ensures c.args.counts) at c.in_ok-prepare.ensures) (c.cast.ensures c.args.counts)
