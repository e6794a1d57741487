-- What the loops of `listing::play` keep, and why they end.
use mathlib.Core.Path.{◌≡◌}
use lib.ListN.{length}
use Rattle.listing.proofs.Playing.{Playing}
use Rattle.listing.proofs.play.Given as goal

abbrev pub invariant-loop-rest : goal.invariant-loop-rest
invariant-loop-rest l =
    (length l.table ≡ length l.initial.table) × Playing l.input l.initial.page l.initial.table l.page l.table l.place l.rest

abbrev pub decreases-loop-rest : goal.decreases-loop-rest
decreases-loop-rest l = length l.rest
