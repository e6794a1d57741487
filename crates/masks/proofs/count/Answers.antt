-- `masks::count` meets its contract: a mask of 16 digits has at most 16 ones, which fit.
use mathlib.Core.Path.{refl}
use Rattle.masks.specs.Mask.{count}
use Rattle.masks.proofs.count.Goals as goal

pub returns : goal.returns
unfolding count
returns c = refl
