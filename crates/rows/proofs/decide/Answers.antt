-- `rows::decide` meets its contract.
use mathlib.Core.Path.{◌∙◌}
use Rattle.lists.proofs.Choice.{in_inside}
use Rattle.protocol.specs.Rules.{decide_rule}
use Rattle.table.specs.Table.{row_view}
use Rattle.rows.proofs.Laws.{went, stayed, acknowledged, decide_given}
use Rattle.rows.proofs.decide.Goals as goal

pub returns-in_err-decide : goal.returns-in_err-decide
returns-in_err-decide c =
    let n = c.args.counts in
    let l = c.args.row.now in
    stayed n l (decide_rule c.args.server c.args.database (row_view n l)) _ _ c.from_residual.ensures.1
    ((rw (c.load.ensures n) at c.in_err-decide.ensures) ∙ decide_given n l c.args.server c.args.database)

pub returns : goal.returns
returns c =
    let n = c.args.counts in
    let l = c.args.row.now in
    let there = in_inside n.servers c.args.server c.requires.server_there.0 c.requires.server_there.1 in
    went n l (decide_rule c.args.server c.args.database (row_view n l)) _
    ((rw (c.load.ensures n) at c.in_ok-decide.ensures) ∙ decide_given n l c.args.server c.args.database)
    (acknowledged n l _ _ c.args.server c.args.database there (c.obey.ensures n) c.acknowledge.ensures)
