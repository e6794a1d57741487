-- The marked examples P1 to P12, as one table under one statement.
use mathlib.Core.Path.{◌≡◌}
use mathlib.Core.Bool.{true}
use mathlib.Core.List.{map}
use Rattle.lists.specs.Tests.{every}
use Rattle.table.specs.Examples.{holds, examples}
use Rattle.table.proofs.Examples.{examples_hold}

pub marked_examples : every (map holds examples) ≡ true
marked_examples = examples_hold
