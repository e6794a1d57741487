-- `rows::clean` meets its contract.
use Rattle.table.specs.Table.{row_view}
use Rattle.protocol.specs.Rules.{clean_rule}
use Rattle.rows.proofs.Laws.{went, stayed}
use Rattle.rows.proofs.clean.Goals as goal

pub clean-requires : goal.clean-requires
clean-requires c = rw (c.load.ensures c.args.counts) c.requires.owner_in_mask

pub returns-in_err-clean : goal.returns-in_err-clean
returns-in_err-clean c =
    stayed c.args.counts c.args.row.now (clean_rule c.args.server c.args.suspected (row_view c.args.counts c.args.row.now)) _ _
    c.from_residual.ensures.1 (rw (c.load.ensures c.args.counts) at c.in_err-clean.ensures)

pub returns : goal.returns
returns c =
    went c.args.counts c.args.row.now (clean_rule c.args.server c.args.suspected (row_view c.args.counts c.args.row.now)) _
    (rw (c.load.ensures c.args.counts) at c.in_ok-clean.ensures) (c.sweep.ensures c.args.counts)
