-- `text::Page::put_digit` meets its contract.
use mathlib.Core.Path.{refl}
use Rattle.text.specs.Writing.{puts}
use borrow.Author.Tests.{lt-leb}
use Rattle.text.proofs.Page.put_digit.Goals as goal

pub returns-else-number-place : goal.returns-else-number-place
unfolding puts
returns-else-number-place c = record { text_after = rw (lt-leb _ _ c.if-number-place.false); same_room = refl }
