-- What the loop of `printing::read_input` keeps, and why it ends: each turn fills some of the room, or is the last.
use Rattle.std.proofs.Common.{length, take, ◌-◌, ◌≤◌}
use Rattle.std.specs.Io.KnownBytes.{Consumes}
use Rattle.printing.proofs.read_input.Given as goal

-- what fills the front of the room is what the input gave
abbrev pub invariant-loop-filled : goal.invariant-loop-filled
invariant-loop-filled g l = (l.filled ≤ length l.room)
    × Consumes (g.F.Read.remaining l.initial.input) (g.F.Read.remaining l.input) (take l.filled l.room)

abbrev pub decreases-loop-filled : goal.decreases-loop-filled
decreases-loop-filled g l = length l.room - l.filled
