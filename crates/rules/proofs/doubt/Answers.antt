-- `rules::doubt` meets its contract.
use mathlib.Core.Path.{sym, ap, ◌∙◌}
use Prim.Native.Nat.{◌+◌}
use lib.ListN.{set}
use Rattle.masks.specs.Mask.{put}
use Rattle.protocol.specs.Cells.{suspects}
use Rattle.table.specs.Table.{view}
use Rattle.layout.proofs.Laws.{suspects_place}
use Rattle.rules.proofs.Laws.{cell_at}
use Rattle.rules.proofs.doubt.Goals as goal

pub returns : goal.returns
returns c =
    let n = c.args.counts in
    let t = c.args.table.now in
    let at = ap (λ p. p + 1) (c.server_at-at.ensures n) ∙ sym (suspects_place n c.args.server) in
    ap (set t _) (c.put.ensures ∙ ap (λ m. put m c.args.other c.args.doubted) (cell_at n t (suspects c.args.server) _ c.requires.server_there at))
    ∙ ap (λ p. set t p (put (view n t (suspects c.args.server)) c.args.other c.args.doubted)) at
