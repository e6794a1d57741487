-- What the list job's loop keeps: the events behind it are accepted, and what is left to say of the rest is what is said of the whole.
use Rattle.runner.proofs.Listed.{Facts}
use Rattle.runner.proofs.vrolkant_run.Given as goal

abbrev pub invariant-loop-accepted : goal.invariant-loop-accepted
invariant-loop-accepted l = Facts l.initial.table l.events l.accepted l.table
