-- `masks::put` meets its contract: each of its two calls is one side of what `put` chooses.
use Rattle.masks.specs.Mask.{put}
use Rattle.masks.proofs.put.Goals as goal

pub returns-then-on : goal.returns-then-on
unfolding put
returns-then-on c = rw c.if-on.true c.with.ensures

pub returns-else-on : goal.returns-else-on
unfolding put
returns-else-on c = rw c.if-on.false c.without.ensures
