-- `rules::recover` meets its contract.
use mathlib.Core.Path.{sym, ap, ◌∙◌}
use Prim.Native.Nat.{◌+◌}
use lib.Dec.{eqb}
use lib.ListN.{set}
use Rattle.protocol.specs.Cells.{database_up}
use Rattle.protocol.specs.Rules.{recover_rule}
use Rattle.table.specs.Layout.{place}
use Rattle.table.specs.Table.{view}
use Rattle.layout.proofs.Laws.{ready_place}
use Rattle.rules.proofs.Laws.{went, stayed, one_must, cell_at}
use Rattle.rules.proofs.recover.Goals as goal

pub returns-in_err-must : goal.returns-in_err-must
returns-in_err-must c =
    let n = c.args.counts in
    let t = c.args.table.now in
    stayed n t (recover_rule (view n t) c.args.database) _ _ c.from_residual.ensures.1
    (c.in_err-must.ensures ∙ one_must _ _ (ap (λ x. eqb x 0) (cell_at n t (database_up c.args.database) _ c.requires.database_there c.database_at-at.ensures)))

pub returns : goal.returns
returns c =
    let n = c.args.counts in
    let t = c.args.table.now in
    let at = c.database_at-at.ensures in
    went n t (recover_rule (view n t) c.args.database) _
    (c.in_ok-must.ensures ∙ one_must _ _ (ap (λ x. eqb x 0) (cell_at n t (database_up c.args.database) _ c.requires.database_there at)))
    (ap (λ p. set (set t p 1) (p + 1) 1) at ∙ ap (λ p. set (set t (place n (database_up c.args.database)) 1) p 1) (sym (ready_place n c.args.database)))
