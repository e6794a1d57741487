-- `text::read_digits` meets its contract.
use mathlib.Core.Path.{sym, ◌∙◌}
use native.Mathlib.Omega.{arith}
use Rattle.text.proofs.Digits.{digit_taken, taken_bounds, digits_end, digits_none}
use Rattle.text.proofs.read_digits.Goals as goal

pub returns-then-not-reads_on : goal.returns-then-not-reads_on
returns-then-not-reads_on c =
    sym (c.loop-byte.invariant.1 ∙ rw c.in-Some.ensures.cases.0 (digits_end _ _ _ (sym c.reads_on.ensures ∙ c.if-not-reads_on.true)))

pub loop-byte-preserved : goal.loop-byte-preserved
loop-byte-preserved c =
    let goes = sym c.reads_on.ensures ∙ c.if-not-reads_on.false in
    let bounds = taken_bounds c.loop-byte.value c.in-Some.byte.now c.in-Some.behind.now goes in
    (omega arith, c.loop-byte.invariant.1 ∙ rw c.in-Some.ensures.cases.0 (digit_taken _ _ _ goes))

pub returns : goal.returns
returns c = sym (c.loop-byte.invariant.1 ∙ digits_none _ _ c.in_default.ensures.cases)
