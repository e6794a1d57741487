-- `listing::attempt_lines` meets its contract.
use native.Mathlib.Omega.{arith}
use Rattle.listing.proofs.Endings.{one_put}
use Rattle.listing.proofs.attempt_lines.Goals as goal

pub loop-attempt-preserved : goal.loop-attempt-preserved
loop-attempt-preserved c = one_put _ _ _ _ _ _ (omega arith) (omega arith) c.loop-attempt.invariant c.result_line.ensures

pub returns-2 : goal.returns-2
returns-2 c = one_put _ _ _ _ _ _ (omega arith) (omega arith) c.loop-attempt.invariant c.result_line.ensures
