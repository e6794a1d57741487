-- `rows::write` meets its contract.
use Rattle.table.specs.Table.{row_view}
use Rattle.protocol.specs.Rules.{write_rule}
use Rattle.rows.proofs.Laws.{went, stayed}
use Rattle.rows.proofs.write.Goals as goal

pub returns-in_err-write : goal.returns-in_err-write
returns-in_err-write c =
    stayed c.args.counts c.args.row.now (write_rule c.args.counts.databases c.args.server (row_view c.args.counts c.args.row.now)) _ _
    c.from_residual.ensures.1 (rw (c.load-cells.ensures c.args.counts) at c.in_err-write.ensures)

pub returns : goal.returns
returns c =
    went c.args.counts c.args.row.now (write_rule c.args.counts.databases c.args.server (row_view c.args.counts c.args.row.now)) _
    (rw (c.load-cells.ensures c.args.counts) at c.in_ok-write.ensures) (rw (c.verdict.ensures, c.load-cells.ensures c.args.counts) at (c.settle.ensures c.args.counts))
