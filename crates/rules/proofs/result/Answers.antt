-- `rules::result` meets its contract.
use mathlib.Core.Path.{◌∙◌}
use native.Mathlib.Omega.{arith}
use Rattle.protocol.specs.Rules.{result_rule}
use Rattle.table.specs.Table.{view}
use Rattle.rules.proofs.Laws.{row_room, range_width, result_number, went, stayed}
use Rattle.rules.proofs.result.Goals as goal

pub offset_bounds-table-row_range : goal.offset_bounds-table-row_range
offset_bounds-table-row_range c = omega (arith, row_room c.args.counts c.args.table.now c.requires.held.long c.requires.held.ranged c.args.client c.args.attempt c.requires.result_there.0 c.requires.result_there.1, c.row_range.ensures)

pub slice_bounds-result-end : goal.slice_bounds-result-end
slice_bounds-result-end c = omega (arith, row_room c.args.counts c.args.table.now c.requires.held.long c.requires.held.ranged c.args.client c.args.attempt c.requires.result_there.0 c.requires.result_there.1, c.row_range.ensures)

pub returns-in_err-result : goal.returns-in_err-result
returns-in_err-result c =
    let n = c.args.counts in
    let t = c.args.table.now in
    stayed n t (result_rule n (view n t) c.args.client c.args.attempt c.args.server) _ _ c.from_residual.ensures.1
    (c.in_err-result.ensures ∙ result_number n t c.args.client c.args.attempt c.requires.held.long c.requires.result_there.0 c.requires.result_there.1 _ _ c.row_range.ensures.start (range_width _ _ _ _ c.row_range.ensures.start c.row_range.ensures.end) c.args.server)

pub returns : goal.returns
returns c =
    let n = c.args.counts in
    let t = c.args.table.now in
    went n t (result_rule n (view n t) c.args.client c.args.attempt c.args.server) _
    (c.in_ok-result.ensures ∙ result_number n t c.args.client c.args.attempt c.requires.held.long c.requires.result_there.0 c.requires.result_there.1 _ _ c.row_range.ensures.start (range_width _ _ _ _ c.row_range.ensures.start c.row_range.ensures.end) c.args.server) c.conclude.ensures
