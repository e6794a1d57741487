-- `rules::call_all` meets its contract.
use native.Mathlib.Omega.{arith}
use mathlib.Core.List.{[], ◌∷◌}
use Rattle.masks.specs.Mask.{all}
use Rattle.protocol.specs.Cells.{sent}
use Rattle.rules.proofs.Laws.{row_room, range_width, lent_effect}
use Rattle.rules.proofs.call_all.Goals as goal

pub offset_bounds-table-row_range : goal.offset_bounds-table-row_range
offset_bounds-table-row_range c = omega (arith, row_room c.args.counts c.args.table.now c.requires.long c.requires.ranged c.args.client c.args.attempt c.requires.client c.requires.attempt, c.row_range.ensures)

pub slice_bounds-call_all-end : goal.slice_bounds-call_all-end
slice_bounds-call_all-end c = omega (arith, row_room c.args.counts c.args.table.now c.requires.long c.requires.ranged c.args.client c.args.attempt c.requires.client c.requires.attempt, c.row_range.ensures)

pub returns : goal.returns
returns c =
    let n = c.args.counts in
    lent_effect n c.args.table.now c.args.client c.args.attempt c.requires.long c.requires.client c.requires.attempt (λ r. (sent, all n.servers) ∷ []) (λ r. (tt, tt)) _ _ _
    c.row_range.ensures.start (range_width _ _ _ _ c.row_range.ensures.start c.row_range.ensures.end) c.call_all.ensures
