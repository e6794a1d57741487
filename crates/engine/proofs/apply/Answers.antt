-- `engine::apply` meets its contract.
use mathlib.Core.Path.{sym, ap, ◌∙◌}
use lib.Dec.{eqb}
use Rattle.protocol.proofs.Answers.{not_accepted, passed_on}
use Rattle.table.proofs.Soundness.{sound_when}
use Rattle.engine.proofs.Laws.{unsound_so}
use Rattle.engine.proofs.apply.Goals as goal

pub returns-in_err-look_over : goal.returns-in_err-look_over
returns-in_err-look_over c =
    let number = passed_on c.from_residual.result _ c.from_residual.ensures.1 in
    unsound_so c.args.table.now c.args.event _ (number ∙ c.in_err-look_over.ensures) (ap (λ x. eqb x 0) number ∙ not_accepted _)

pub apply_sound-requires : goal.apply_sound-requires
apply_sound-requires c = (sound_when _).0 (sym c.in_ok-look_over.ensures)
