-- `text::read_number` meets its contract.
use mathlib.Core.Path.{◌≡◌, sym, ◌∙◌}
use Rattle.std.proofs.Common.{rules}
use Prim.Native.Nat.{◌<◌, ◌≤◌}
use Rattle.text.specs.Reading.{most}
use Rattle.text.proofs.Digits.{no_byte, no_digit, lone_zero, too_large, several}
use Rattle.text.proofs.read_number.Goals as goal

pub returns-in_err-first : goal.returns-in_err-first
returns-in_err-first c = rw c.from_residual.ensures (no_byte _ _ c.in_err-first.ensures.cases)

pub returns-then-not-is_ascii_digit : goal.returns-then-not-is_ascii_digit
returns-then-not-is_ascii_digit c = rw c.in_ok-first.ensures.cases.0 (no_digit _ _ _ (sym c.is_ascii_digit.ensures.value ∙ c.if-not-is_ascii_digit.true))

pub returns-then-first-eq48 : goal.returns-then-first-eq48
returns-then-first-eq48 c = rw c.in_ok-first.ensures.cases.0 (c.read_end.ensures ∙ lone_zero _ _ _ c.if-first-eq48.true)

pub returns-in_err-ok : goal.returns-in_err-ok
returns-in_err-ok c =
    let above : most < c.read_digits-value.result.0 = search rules in
    let digit = sym c.is_ascii_digit.ensures.value ∙ c.if-not-is_ascii_digit.false in
    rw (c.from_residual-in_err-ok.ensures, c.in_ok-first.ensures.cases.0)
    (too_large _ _ _ _ (rw c.in_ok-first.ensures.cases.0 at c.read_digits-value.ensures) digit c.if-first-eq48.false above)

pub returns : goal.returns
returns c =
    let fits : c.read_digits-value.result.0 ≤ most = search rules in
    let same : c.in_ok-ok.field-0 ≡ c.read_digits-value.result.0 = search rules in
    let digit = sym c.is_ascii_digit.ensures.value ∙ c.if-not-is_ascii_digit.false in
    c.read_end-2.ensures
    ∙ rw (same, c.in_ok-first.ensures.cases.0)
    (several _ _ _ _ (rw c.in_ok-first.ensures.cases.0 at c.read_digits-value.ensures) digit c.if-first-eq48.false fits)
