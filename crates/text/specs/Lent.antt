-- A page of lent room, and text put behind what is written there.
use Rattle.std.specs.Prelude.{List, ℕ, ◌≡◌}
use Rattle.text.specs.declared.Page.{Page}
use Rattle.text.specs.Writing as writing
use Rattle.text.specs.Writing.{puts}

-- the room's cells, and how many of them are written
abbrev pub shown : Page → writing.Page
shown page = record { cells = page.room.now; at = page.end }

-- a page goes on with a text, in the same lent room
pub record Continues (old new : Page) (text : List ℕ) : Type 0 where
  pub text_after : shown new ≡ puts (shown old) text
  pub same_room : new.room.ghost_name ≡ old.room.ghost_name
