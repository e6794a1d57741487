-- Text put into lent room piece by piece is put as one, and what is left there then.
use mathlib.Core.Path.{◌≡◌, refl, sym, ap, ◌∙◌}
use mathlib.Core.List.{List, [], ◌∷◌, ◌++◌, append_assoc}
use Prim.Native.Nat.{ℕ, ◌+◌, ◌≤◌, ◌<◌, min}
use native.Mathlib.Omega.{arith}
use lib.ListN.{length, set, length-append}
use lib.Seq.{drop-nil, set-append_seam}
use borrow.Author.Tests.{lt-ltb, le-ltb}
use Rattle.text.specs.declared.Page.{Page as LentPage}
use Rattle.text.specs.Writing.{Page, put_byte, puts, over}
use Rattle.text.specs.Lent.{shown, Continues}

pub puts_append : (page : Page) (a b : List ℕ) → puts page (a ++ b) ≡ puts (puts page a) b
unfolding puts
puts_append page [] b = refl
puts_append page (x ∷ a) b = puts_append (put_byte page x) a b

-- one piece behind another
pub follows : (first second third : Page) (a b : List ℕ) → second ≡ puts first a → third ≡ puts second b → third ≡ puts first (a ++ b)
follows first second third a b e f = f ∙ (ap (λ (page : Page). puts page b) e ∙ sym (puts_append first a b))

pub continues : (first second third : LentPage) (a b : List ℕ) → Continues first second a → Continues second third b → Continues first third (a ++ b)
continues first second third a b e f =
    record {
      text_after = follows (shown first) (shown second) (shown third) a b e.text_after f.text_after;
      same_room = f.same_room ∙ e.same_room;
    }

-- one byte, where there is room and where there is none
pub put_room : (cells : List ℕ) (at b : ℕ) → at < length cells → record { cells = set cells at b; at = at + 1 } ≡ puts (record { cells = cells; at = at }) (b ∷ [])
unfolding puts
put_room cells at b h = rw (lt-ltb at (length cells) h)

pub put_full : (cells : List ℕ) (at b : ℕ) → length cells ≤ at → record { cells = cells; at = at } ≡ puts (record { cells = cells; at = at }) (b ∷ [])
unfolding puts
put_full cells at b h = rw (le-ltb at (length cells) h)

-- ---- a text put at the start of the room

same_page : {cells cells' : List ℕ} {at at' : ℕ} → cells ≡ cells' → at ≡ at' → ◌≡◌ {A = Page} (record { cells = cells; at = at }) (record { cells = cells'; at = at' })
same_page p q = λ j. record { cells = p j; at = q j }

-- the same behind what stands there already
over_behind : (text before cells : List ℕ)
    → puts (record { cells = before ++ cells; at = length before }) text
    ≡ record { cells = before ++ over cells text; at = length before + min (length text) (length cells) }
unfolding puts
over_behind [] before [] = same_page refl (omega arith)
over_behind [] before (x ∷ cells) = same_page refl (omega arith)
over_behind (b ∷ text) before [] =
    let full : length (before ++ []) ≤ length before = simp length-append (omega arith) in
    rw (le-ltb (length before) (length (before ++ [])) full) (over_behind text before [] ∙ same_page (ap (λ cells. before ++ cells) (drop-nil (length text))) (omega arith))
over_behind (b ∷ text) before (x ∷ cells) =
    let room : length before < length (before ++ (x ∷ cells)) = simp length-append (omega arith) in
    let one : length before + 1 ≡ length (before ++ (b ∷ [])) = simp length-append in
    rw (lt-ltb (length before) (length (before ++ (x ∷ cells))) room, set-append_seam before x cells b, one, ← append_assoc before (b ∷ []) cells)
    (over_behind text (before ++ (b ∷ [])) cells ∙ same_page (append_assoc before (b ∷ []) (over cells text)) (omega arith))

-- the whole text where there is room for it, else what there is room for
pub puts_over : (cells text : List ℕ) → puts (record { cells = cells; at = 0 }) text ≡ record { cells = over cells text; at = min (length text) (length cells) }
puts_over cells text = over_behind text [] cells ∙ same_page refl (omega arith)
