-- What an answer of the reader says: what was found, and what stands behind it.
use Rattle.std.specs.Prelude.{List, ℕ, Some, None}
use Rattle.std.specs.Prelude.{Option as Answer}
use Rattle.std.specs.Borrow.{Bor}
use Rattle.std.proofs.Math.Option.{Option, none, some}

abbrev pub seen : {A : Type 0} → Answer (A × (Bor (List ℕ))) → Option (A × List ℕ)
seen None = none
seen (Some found) = some (found.0, found.1.now)
