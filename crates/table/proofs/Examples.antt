-- The marked examples hold, by computation over the definitions.
use mathlib.Core.Path.{◌≡◌, refl}
use mathlib.Core.Bool.{true}
use mathlib.Core.List.{map}
use Rattle.lists.specs.Tests.{every}
use Rattle.masks.specs.Mask.{has, with, without, put, all, has_all, count}
use Rattle.registers.specs.Register.{claimed, offered_outcome, offered_value}
use Rattle.table.specs.Examples.{holds, examples}

pub examples_hold : every (map holds examples) ≡ true
unfolding holds examples has with without put all has_all count claimed offered_outcome offered_value
examples_hold = refl
