-- `runner::vrolkant_run` meets its contract: what the list says of its loop is in `Listed`. Each part of an answer is found among what is said, because
-- a part that is not there is then refused at once, without a comparison of all that both sides compute to.
use mathlib.Core.Path.{refl, sym, ap, ◌∙◌}
use Rattle.std.specs.Prelude.{Err}
use Rattle.protocol.proofs.Answers.{refusal_numbered}
use Rattle.table.proofs.Soundness.{sound_when}
use Rattle.runner.proofs.Listed.{starts, unsound, ended, refuses, accepts}
use Rattle.runner.proofs.vrolkant_run.Goals as goal

pub returns-in-Err : goal.returns-in-Err
returns-in-Err c =
    let number = c.from.ensures in
    let said = unsound c.args.table.now c.args.events.now _ (number ∙ c.in-Err.ensures) (λ zero. refusal_numbered (Err _) refl (sym number ∙ zero)) in
    (assumption said, assumption said, assumption said)

pub loop-accepted-init : goal.loop-accepted-init
loop-accepted-init c = starts c.args.table.now c.args.events.now ((sound_when _).0 (sym c.in_default.ensures))

pub apply_sound-requires : goal.apply_sound-requires
apply_sound-requires c = c.loop-accepted.invariant.3

pub returns-in-Err-apply_sound : goal.returns-in-Err-apply_sound
returns-in-Err-apply_sound c =
    let number = c.from-in-Err-apply_sound.ensures in
    let said = refuses c.args.table.now c.args.events.now c.loop-accepted.accepted c.loop-accepted.table _ c.loop-accepted-test.true _ _
    (ap (λ x. record { number = x; cells = c.apply_sound.new.table }) number ∙ c.in-Err-apply_sound.ensures)
    ((sound_when _).0 (sym c.in_default.ensures)) c.loop-accepted.invariant (λ zero. refusal_numbered (Err _) refl (sym number ∙ zero)) in
    (assumption said, assumption said, assumption said)

pub loop-accepted-preserved : goal.loop-accepted-preserved
loop-accepted-preserved c =
    accepts c.args.table.now c.args.events.now c.loop-accepted.accepted c.loop-accepted.table _ c.loop-accepted-test.true _ _
    c.in_default-apply_sound.ensures c.loop-accepted.invariant refl c.apply_sound.auto.table

pub returns : goal.returns
returns c =
    let said = ended c.args.table.now c.args.events.now c.loop-accepted.accepted c.loop-accepted.table
    ((sound_when _).0 (sym c.in_default.ensures)) c.loop-accepted.invariant c.loop-accepted-test.false in
    (assumption said, assumption said, assumption said)
