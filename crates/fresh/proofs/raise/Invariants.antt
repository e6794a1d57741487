-- What the loop of `fresh::raise` keeps.
use mathlib.Core.Path.{◌≡◌}
use Rattle.fresh.specs.Writes.{raised}
use Rattle.fresh.proofs.raise.Given as goal

abbrev pub invariant-loop-party : goal.invariant-loop-party
invariant-loop-party l = l.table ≡ raised l.party l.start l.width l.fn.table
