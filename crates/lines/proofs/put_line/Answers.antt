-- `lines::put_line` meets its contract.
use mathlib.Core.Path.{refl}
use native.Mathlib.Omega.{arith}
use Rattle.lines.proofs.Numbers.{one_put, all_put, nothing_put}
use Rattle.lines.proofs.put_line.Goals as goal

pub returns-in_default : goal.returns-in_default
returns-in_default c = nothing_put _ _ _ c.in_default.ensures.cases c.put.ensures

pub loop-number-init : goal.loop-number-init
loop-number-init c = record { text_after = refl; same_room = refl }

pub loop-number-preserved : goal.loop-number-preserved
loop-number-preserved c = one_put _ _ _ _ _ c.loop-number.invariant (omega arith) c.put_number.ensures

pub returns : goal.returns
returns c = all_put _ _ _ _ _ _ _ c.loop-number.invariant c.loop-number-test.false c.in-Some.ensures.cases.0 c.put_number-2.ensures
