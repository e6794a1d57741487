-- What the loops of `lines::read_numbers` keep, and why they end.
use mathlib.Core.Path.{◌≡◌}
use Prim.Native.Nat.{◌-◌}
use lib.ListN.{length, take}
use Rattle.lines.specs.Lines.{read_numbers}
use Rattle.lines.proofs.Numbers.{behind_numbers}
use Rattle.lines.proofs.read_numbers.Given as goal

abbrev pub invariant-loop-place : goal.invariant-loop-place
invariant-loop-place g l =
    (length l.numbers ≡ l.place-end)
    × (read_numbers l.place-end l.fn.input ≡ behind_numbers (take l.place l.numbers) (read_numbers (l.place-end - l.place) l.rest))
