-- `rules::at_row` meets its contract.
use mathlib.Core.Path.{ap, ◌∙◌}
use native.Mathlib.Omega.{arith}
use Rattle.protocol.specs.Cells.{ready, suspects, row_of}
use Rattle.protocol.specs.Rules.{at_result}
use Rattle.table.specs.Table.{view}
use Rattle.rules.specs.Rules.{ruled, row_rule}
use Rattle.rules.proofs.Laws.{row_room, range_width, lent_owner, lent_rule, row_rule_asks, row_rule_exists}
use Rattle.rules.proofs.at_row.Goals as goal

pub offset_bounds-table-row_range : goal.offset_bounds-table-row_range
offset_bounds-table-row_range c = omega (arith, row_room c.args.counts c.args.table.now c.requires.held.long c.requires.held.ranged c.args.event.client c.args.event.attempt c.requires.follows.client c.requires.follows.attempt, c.row_range.ensures)

pub slice_bounds-row-end : goal.slice_bounds-row-end
slice_bounds-row-end c = omega (arith, row_room c.args.counts c.args.table.now c.requires.held.long c.requires.held.ranged c.args.event.client c.args.event.attempt c.requires.follows.client c.requires.follows.attempt, c.row_range.ensures)

pub follow_row-requires-clause-owner_in_mask : goal.follow_row-requires-clause-owner_in_mask
follow_row-requires-clause-owner_in_mask c =
    lent_owner c.args.counts c.args.table.now c.args.event.client c.args.event.attempt c.requires.held.long c.requires.follows.client c.requires.follows.attempt _ _
    c.row_range.ensures.start (range_width _ _ _ _ c.row_range.ensures.start c.row_range.ensures.end) c.requires.held.range c.requires.held.ranged.servers8

pub returns : goal.returns
returns c =
    let n = c.args.counts in
    let t = c.args.table.now in
    let e = c.args.event in
    let s = view n t in
    let asked = c.asked_of_party-asked.result in
    lent_rule n t e.client e.attempt c.requires.held.long c.requires.follows.client c.requires.follows.attempt (row_rule n e asked asked)
    (row_rule_exists n e asked asked c.requires.follows.kind c.requires.follows.fits) _ _ _ _ c.row_range.ensures.start (range_width _ _ _ _ c.row_range.ensures.start c.row_range.ensures.end) c.follow_row.ensures
    ∙ ap (λ r. ruled n t (at_result e.client e.attempt r))
    (row_rule_asks n e asked (s (ready e.database)) (s (suspects e.server)) (row_of s e.client e.attempt) c.asked_of_party-asked.ensures.ready c.asked_of_party-asked.ensures.suspected)
