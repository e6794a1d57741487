-- `rows::request` meets its contract.
use Rattle.table.specs.Table.{row_view}
use Rattle.protocol.specs.Rules.{request_rule}
use Rattle.rows.proofs.Laws.{went, stayed}
use Rattle.rows.proofs.request.Goals as goal

pub returns-in_err-request : goal.returns-in_err-request
returns-in_err-request c =
    stayed c.args.counts c.args.row.now (request_rule c.args.server (row_view c.args.counts c.args.row.now)) _ _
    c.from_residual.ensures.1 (rw (c.load.ensures c.args.counts) at c.in_err-request.ensures)

pub returns : goal.returns
returns c =
    went c.args.counts c.args.row.now (request_rule c.args.server (row_view c.args.counts c.args.row.now)) _
    (rw (c.load.ensures c.args.counts) at c.in_ok-request.ensures) (c.claim.ensures c.args.counts)
