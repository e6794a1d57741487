-- `listing::play` meets its contract.
use mathlib.Core.Path.{sym, ap, ◌∙◌}
use Rattle.protocol.proofs.Answers.{refusal_numbered, accepted_numbered}
use native.Mathlib.Omega.{arith}
use Rattle.std.proofs.Common.{rules}
use Rattle.lines.proofs.Inverse.{event_shorter}
use Rattle.listing.proofs.Playing.{at_end, at_malformed, at_refused, at_accepted}
use Rattle.listing.proofs.play.Goals as goal

pub returns-in_default : goal.returns-in_default
returns-in_default c =
    let said = at_malformed _ _ _ _ _ _ _ c.loop-rest.invariant.1 (search rules) c.in_default.ensures _ c.put_place.ensures in
    record { text_after = said.text_after; table_after = said.table_after }

pub returns-then-is_err : goal.returns-then-is_err
returns-then-is_err c =
    let number = c.number.ensures ∙ ap (λ d. d.number) c.apply_sound-answer.ensures in
    let refused = refusal_numbered _ (sym c.is_err.ensures.value ∙ c.if-is_err.true) in
    let said = at_refused _ _ _ _ _ _ _ c.loop-rest.invariant.1 _ _ c.in-Some.ensures _ _
    (rw number at c.put_place-in-loop-rest.ensures) (ap (λ d. d.cells) c.apply_sound-answer.ensures) (λ zero. refused (ap (λ d. d.number) c.apply_sound-answer.ensures ∙ zero)) in
    record { text_after = said.text_after; table_after = said.table_after }

pub loop-rest-smaller : goal.loop-rest-smaller
loop-rest-smaller c = omega (arith, event_shorter _ _ _ (sym c.in-Some.ensures))

pub loop-rest-preserved : goal.loop-rest-preserved
loop-rest-preserved c =
    let number = c.number.ensures ∙ ap (λ d. d.number) c.apply_sound-answer.ensures in
    let accepted = accepted_numbered _ (sym c.is_err.ensures.value ∙ c.if-is_err.false) in (
      c.apply_sound-answer.auto.table ∙ c.loop-rest.invariant.0,
      at_accepted _ _ _ _ _ _ _ c.loop-rest.invariant.1 _ _ c.in-Some.ensures _ _
          (rw number at c.put_place-in-loop-rest.ensures) (ap (λ d. d.cells) c.apply_sound-answer.ensures) (ap (λ d. d.number) (sym c.apply_sound-answer.ensures) ∙ accepted),
    )

pub returns : goal.returns
returns c =
    let said = at_end _ _ _ _ _ _ _ c.loop-rest.invariant.1 (search rules) in
    record { text_after = said.text_after; table_after = said.table_after }
