-- `rows::vote` meets its contract.
use Rattle.table.specs.Table.{row_view}
use Rattle.protocol.specs.Rules.{vote_rule}
use Rattle.rows.proofs.Laws.{went, stayed}
use Rattle.rows.proofs.vote.Goals as goal

pub returns-in_err-vote : goal.returns-in_err-vote
returns-in_err-vote c =
    stayed c.args.counts c.args.row.now (vote_rule c.args.server c.args.database (row_view c.args.counts c.args.row.now)) _ _
    c.from_residual.ensures.1 (rw (c.load-cells.ensures c.args.counts) at c.in_err-vote.ensures)

pub returns : goal.returns
returns c =
    went c.args.counts c.args.row.now (vote_rule c.args.server c.args.database (row_view c.args.counts c.args.row.now)) _
    (rw (c.load-cells.ensures c.args.counts) at c.in_ok-vote.ensures) (rw (c.has-yes.ensures, c.listens.ensures, c.load-cells.ensures c.args.counts) at (c.hear.ensures c.args.counts))
