-- `rows::offer` meets its contract.
use mathlib.Core.Path.{sym, ap, ◌∙◌}
use Rattle.std.specs.Prelude.{Some}
use Rattle.registers.specs.Register.{holding}
use Rattle.rows.proofs.Laws.{lent_offer, lent_holds, lent_taken}
use Rattle.rows.proofs.offer.Goals as goal

pub returns-in-Ok-clause-cells : goal.returns-in-Ok-clause-cells
returns-in-Ok-clause-cells c = λ n. lent_offer c.args.row.now c.requires _ _ _ c.offer.ensures

pub returns-in-Err-clause-cells : goal.returns-in-Err-clause-cells
returns-in-Err-clause-cells c = λ n. lent_offer c.args.row.now c.requires _ _ _ c.offer.ensures

pub returns-in-Ok-clause-in_hand : goal.returns-in-Ok-clause-in_hand
returns-in-Ok-clause-in_hand c =
    λ n. sym (lent_taken c.args.row.now c.requires (Some c.args.decision) _ _ _ c.offer.ensures c.in-Ok.is) ∙ ap holding (sym c.in-Ok.is)
    ∙ lent_holds c.args.row.now c.requires (Some c.args.decision) _ _ c.offer.ensures

pub returns-in-Err-clause-in_hand : goal.returns-in-Err-clause-in_hand
returns-in-Err-clause-in_hand c = λ n. ap holding (sym c.in-Err.is) ∙ lent_holds c.args.row.now c.requires (Some c.args.decision) _ _ c.offer.ensures
