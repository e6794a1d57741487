-- The tests of a row in three groups: what each of three functions asks.
use Rattle.std.specs.Prelude.{Bool, List, [], ◌∷◌, leb}
use Rattle.lists.specs.Tests.{each}
use Rattle.masks.specs.Mask.{all}
use Rattle.protocol.specs.declared.Counts.{Counts}
use Rattle.protocol.specs.Cells.{Row, owner, outcome, sent, voted, voted_yes, heard, heard_yes, written, terminating, decided, committed, acked, known}

abbrev pub number_tests : Counts → Row → List Bool
number_tests n r = leb (r owner) n.servers ∷ leb (r outcome) 2 ∷ leb (r written) 1 ∷ []

abbrev pub server_mask_tests : Counts → Row → List Bool
server_mask_tests n r = leb (r sent) (all n.servers) ∷ leb (r terminating) (all n.servers) ∷ []

abbrev pub database_mask_tests : Counts → Row → List Bool
database_mask_tests n r =
    leb (r voted) (all n.databases)
    ∷ leb (r voted_yes) (all n.databases)
    ∷ leb (r heard) (all n.databases)
    ∷ leb (r heard_yes) (all n.databases)
    ∷ leb (r decided) (all n.databases)
    ∷ leb (r committed) (all n.databases)
    ∷ each n.servers (λ i. leb (r (acked i)) (all n.databases))
    ∷ each n.servers (λ i. leb (r (known i)) (all n.databases))
    ∷ []
