-- `text::Page::put` meets its contract.
use mathlib.Core.Path.{refl}
use Rattle.text.proofs.Pages.{put_room, put_full}
use Rattle.text.proofs.Page.put.Goals as goal

pub returns-then-self : goal.returns-then-self
returns-then-self c = record { text_after = put_room _ _ _ c.if-self.true; same_room = refl }

pub returns-else-self : goal.returns-else-self
returns-else-self c = record { text_after = put_full _ _ _ c.if-self.false; same_room = refl }
