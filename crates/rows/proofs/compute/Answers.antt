-- `rows::compute` meets its contract.
use mathlib.Core.Path.{refl}
use Rattle.table.specs.Table.{row_view}
use Rattle.protocol.specs.Rules.{compute_rule}
use Rattle.rows.proofs.Laws.{went, stayed}
use Rattle.rows.proofs.compute.Goals as goal

pub returns-in_err-compute : goal.returns-in_err-compute
returns-in_err-compute c =
    stayed c.args.counts c.args.row.now (compute_rule c.args.server c.args.value (row_view c.args.counts c.args.row.now)) _ _
    c.from_residual.ensures.1 (rw (c.load.ensures c.args.counts) at c.in_err-compute.ensures)

pub returns : goal.returns
returns c =
    went c.args.counts c.args.row.now (compute_rule c.args.server c.args.value (row_view c.args.counts c.args.row.now)) _
    (rw (c.load.ensures c.args.counts) at c.in_ok-compute.ensures) refl
