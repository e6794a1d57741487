-- `ranges::LentRow::server_masks_fit` meets its contract.
use mathlib.Core.Path.{ap, ◌∙◌}
use mathlib.Core.List.{[], ◌∷◌}
use lib.Bits.{bit_or}
use lib.Dec.{leb}
use lib.ListN.{get_or}
use Rattle.ranges.proofs.Laws.{joined_fit}
use Rattle.ranges.proofs.LentRow.server_masks_fit.Goals as goal

pub returns : goal.returns
returns c =
    let l = c.args.self.now.cells.now in
    ap (leb (bit_or (get_or l 4 0) (get_or l 10 0))) c.all.ensures ∙ joined_fit c.args.self.now.counts.servers (get_or l 4 0) (get_or l 10 0 ∷ [])
