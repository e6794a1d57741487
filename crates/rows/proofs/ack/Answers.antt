-- `rows::ack` meets its contract.
use mathlib.Core.Path.{◌∙◌}
use native.Mathlib.Omega.{arith}
use Rattle.lists.proofs.Choice.{in_inside}
use Rattle.protocol.specs.Cells.{known}
use Rattle.protocol.specs.Rules.{ack_rule}
use Rattle.table.specs.Table.{row_view}
use Rattle.rows.proofs.Laws.{went, stayed, marked_at, ack_given}
use Rattle.rows.proofs.ack.Goals as goal

pub offset_bounds-row-sent : goal.offset_bounds-row-sent
offset_bounds-row-sent c = omega (arith, c.acked_at-sent.ensures c.args.counts, c.requires)

pub bounds-row-sent : goal.bounds-row-sent
bounds-row-sent c = omega (arith, c.acked_at-sent.ensures c.args.counts, c.requires)

pub returns-in_err-sent_if : goal.returns-in_err-sent_if
returns-in_err-sent_if c =
    let n = c.args.counts in
    let l = c.args.row.now in
    let there = in_inside n.servers c.args.server c.requires.server_there.0 c.requires.server_there.1 in
    stayed n l (ack_rule c.args.server c.args.database (row_view n l)) _ _ c.from_residual.ensures.1
    (c.in_err-sent_if.ensures ∙ ack_given n l c.args.server c.args.database _ _ there (c.acked_at-sent.ensures n) c.has.ensures)

pub returns : goal.returns
returns c =
    let n = c.args.counts in
    let l = c.args.row.now in
    let there = in_inside n.servers c.args.server c.requires.server_there.0 c.requires.server_there.1 in
    went n l (ack_rule c.args.server c.args.database (row_view n l)) _
    (c.in_ok-sent_if.ensures ∙ ack_given n l c.args.server c.args.database _ _ there (c.acked_at-sent.ensures n) c.has.ensures)
    (marked_at n l (known c.args.server) c.args.database _ _ there c.known_at-known.ensures c.with.ensures)
