-- `masks::without` meets its contract: the digit it clears is the party's, and it clears it only where it is set.
use mathlib.Core.Path.{sym, ◌∙◌}
use native.Mathlib.Omega.{arith}
use Rattle.masks.proofs.Laws.{without_code, without_none}
use Rattle.masks.proofs.without.Goals as goal

pub returns-then-has : goal.returns-then-has
returns-then-has c =
    let args = c.args in
    without_code args.mask args.party (sym c.has.ensures ∙ c.if-has.true) (omega arith)

pub returns-else-has : goal.returns-else-has
returns-else-has c =
    let args = c.args in
    without_none args.mask args.party (sym c.has.ensures ∙ c.if-has.false)
