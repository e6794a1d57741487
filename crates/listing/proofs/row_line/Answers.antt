-- `listing::row_line` meets its contract.
use mathlib.Core.Path.{refl}
use borrow.Author.Tests.{eq-eqb}
use Rattle.text.specs.Writing.{puts}
use Rattle.listing.proofs.row_line.Goals as goal

pub returns-then-row-eq0 : goal.returns-then-row-eq0
unfolding puts
returns-then-row-eq0 c n = record { text_after = rw (eq-eqb _ _ c.if-row-eq0.true); same_room = refl }
