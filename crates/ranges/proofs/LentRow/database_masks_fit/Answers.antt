-- `ranges::LentRow::database_masks_fit` meets its contract.
use mathlib.Core.Path.{refl, ap, ◌∙◌}
use lib.Dec.{leb}
use Rattle.masks.specs.Mask.{all}
use Rattle.ranges.proofs.Laws.{database_masks_lem}
use Rattle.ranges.proofs.LentRow.database_masks_fit.Goals as goal

pub returns : goal.returns
returns c =
    let n = c.args.self.now.counts in
    ap (leb c.joined.result) c.all.ensures ∙ ap (λ m. leb m (all n.databases)) c.joined.ensures ∙ database_masks_lem n c.args.self.now.cells.now c.args.self.now.whole _ refl
