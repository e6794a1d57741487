-- `lent::put_cells` meets its contract.
use Rattle.lent.proofs.Room.{none_put, one_put, put_within}
use Rattle.lent.proofs.put_cells.Goals as goal

pub loop-place-init : goal.loop-place-init
loop-place-init c = none_put _

pub loop-place-preserved : goal.loop-place-preserved
loop-place-preserved c = one_put _ _ _ _ c.loop-place.invariant c.put_number.ensures

pub returns-clause-within : goal.returns-clause-within
returns-clause-within c = put_within _ _ _ c.loop-place.invariant.1
