-- `listing::client_lines` meets its contract.
use native.Mathlib.Omega.{arith}
use Rattle.listing.proofs.Endings.{one_put}
use Rattle.listing.proofs.client_lines.Goals as goal

pub loop-client-preserved : goal.loop-client-preserved
loop-client-preserved c = one_put _ _ _ _ _ _ (omega arith) (omega arith) c.loop-client.invariant c.client_line.ensures

pub returns-2 : goal.returns-2
returns-2 c = one_put _ _ _ _ _ _ (omega arith) (omega arith) c.loop-client.invariant c.client_line.ensures
