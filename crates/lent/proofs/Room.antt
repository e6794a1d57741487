-- Text that is put piece by piece is one text, and from a place within the lent room on it ends within the room.
use mathlib.Core.Path.{refl, sym, subst}
use mathlib.Core.List.{List, [], ◌∷◌, ◌++◌}
use Prim.Native.Nat.{ℕ, ◌≤◌}
use native.Mathlib.Omega.{arith}
use lib.Dec.{ltb, ltb→lt}
use lib.ListN.{length, length-set}
use Rattle.lists.proofs.Choice.{by_cond}
use Rattle.text.specs.declared.Page.{Page as LentPage}
use Rattle.text.specs.Writing.{Page, put_byte, puts}
use Rattle.text.specs.Lent.{shown, Continues}
use Rattle.text.proofs.Pages.{continues}

-- ---- pieces

pub none_put : (page : LentPage) → (text : List ℕ) × Continues page page text
unfolding puts
none_put page = ([], record { text_after = refl; same_room = refl })

pub one_put : (first page next : LentPage) (piece : List ℕ) → ((text : List ℕ) × Continues first page text) → Continues page next piece → (text : List ℕ) × Continues first next text
one_put first page next piece so_far put = (so_far.0 ++ piece, continues _ _ _ _ _ so_far.1 put)

-- ---- the room

abbrev Within : Page → Type 0
Within page = page.at ≤ length page.cells

byte_within : (page : Page) (b : ℕ) → Within page → Within (put_byte page b)
byte_within page b h =
    by_cond Within (ltb page.at (length page.cells)) _ page
    (λ room. simp length-set (omega (arith, ltb→lt page.at (length page.cells) room))) (λ full. h)

puts_within : (page : Page) (text : List ℕ) → Within page → Within (puts page text)
unfolding puts
puts_within page [] h = h
puts_within page (b ∷ text) h = puts_within (put_byte page b) text (byte_within page b h)

-- the same of a page that goes on with a text
pub put_within : (old new : LentPage) (text : List ℕ) → Continues old new text → old.end ≤ length old.room.now → new.end ≤ length new.room.now
put_within old new text goes-on h = subst Within (sym goes-on.text_after) (puts_within (shown old) text h)
