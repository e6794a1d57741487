-- Events played line by line: what is written and left so far, and the lines that are left, give the whole.
use mathlib.Core.Path.{◌≡◌, refl, sym, ap, ◌∙◌}
use mathlib.Core.List.{List, [], ◌∷◌, ◌++◌, append-nil}
use mathlib.Core.Option.{none, some}
use Prim.Native.Nat.{ℕ, suc, ◌+◌, ◌*◌, ◌≤◌}
use native.Mathlib.Numerals.{add-one}
use native.Mathlib.Omega.{arith}
use lib.Dec.{T}
use lib.ListN.{length}
use Rattle.std.proofs.lemmas.List.{nil_from_length}
use borrow.Author.Tests.{ne_eqb}
use Rattle.protocol.specs.declared.Event.{Event}
use Rattle.table.specs.Table.{sound}
use Rattle.table.specs.Jobs.{applied}
use Rattle.table.proofs.Soundness.{sound_left}
use Rattle.text.specs.declared.Page.{Page}
use Rattle.text.specs.Writing.{puts, line}
use Rattle.text.specs.Lent.{shown, Continues}
use Rattle.text.proofs.Pages.{puts_append}
use Rattle.lines.specs.Lines.{read_event}
use Rattle.lines.proofs.Inverse.{event_shorter}
use Rattle.listing.specs.Script.{Script, malformed, event, script}
use Rattle.listing.specs.Listing.{Played, played}
use Rattle.listing.proofs.Script.{script_end, script_malformed, script_event}

-- ---- one line

module _ (place : ℕ) (cells : List ℕ) (e : Event) (more : Script) where
  pub accepted_text : (applied cells e).number ≡ 0
      → (played place cells (event e more)).text ≡ line (place ∷ (applied cells e).number ∷ []) ++ (played (suc place) (applied cells e).cells more).text
  unfolding played
  accepted_text h = rw h

  pub accepted_cells : (applied cells e).number ≡ 0 → (played place cells (event e more)).cells ≡ (played (suc place) (applied cells e).cells more).cells
  unfolding played
  accepted_cells h = rw h

  pub refused_text : ((applied cells e).number ≡ 0 → ⊥) → (played place cells (event e more)).text ≡ line (place ∷ (applied cells e).number ∷ [])
  unfolding played
  refused_text h = rw (ne_eqb (applied cells e).number 0 h) (append-nil _)

  pub refused_cells : ((applied cells e).number ≡ 0 → ⊥) → (played place cells (event e more)).cells ≡ (applied cells e).cells
  unfolding played
  refused_cells h = rw (ne_eqb (applied cells e).number 0 h)

-- ---- the loop over the lines

module _ (input : List ℕ) (first : Page) (cells₀ : List ℕ) where
  abbrev whole : Played
  whole = played 1 cells₀ (script input)

  -- the listing's events end with this page and these cells
  pub record Ends (page : Page) (cells : List ℕ) : Type 0 where
    pub text_after : Continues first page whole.text
    pub table_after : cells ≡ whole.cells

  -- so do they from this page and these cells on, a sound table, with the lines that are left
  pub record Playing (page : Page) (cells : List ℕ) (place : ℕ) (rest : List ℕ) : Type 0 where
    pub low : 1 ≤ place
    pub few : 12 * place + length rest ≤ length input + 12
    pub text : puts (shown page) (played place cells (script rest)).text ≡ puts (shown first) whole.text
    pub same_room : page.room.ghost_name ≡ first.room.ghost_name
    pub left : (played place cells (script rest)).cells ≡ whole.cells
    pub is_sound : T (sound cells)

  pub begins : T (sound cells₀) → Playing first cells₀ 1 input
  begins is_sound = record { low = omega arith; few = omega arith; text = refl; same_room = refl; left = refl; is_sound = is_sound }

  module _ (page : Page) (cells : List ℕ) (place : ℕ) (rest : List ℕ) (so_far : Playing page cells place rest) where
    pub at_end : length rest ≡ 0 → Ends page cells
    unfolding played puts
    at_end e =
        let none_left = ap script (nil_from_length rest e) ∙ script_end in
        record {
          text_after = record { text_after = rw none_left at so_far.text; same_room = so_far.same_room };
          table_after = rw none_left at so_far.left;
        }

    pub at_malformed : 1 ≤ length rest → none ≡ read_event rest → (last : Page) → Continues page last (line (place ∷ 8 ∷ [])) → Ends last cells
    unfolding played
    at_malformed h e last w =
        let bad : script rest ≡ malformed = script_malformed rest h (sym e) in
        record {
          text_after = record { text_after = w.text_after ∙ (rw bad at so_far.text); same_room = w.same_room ∙ so_far.same_room };
          table_after = rw bad at so_far.left;
        }

    module _ (e : Event) (behind : List ℕ) (reads : some (e, behind) ≡ read_event rest) (page' : Page) (cells' : List ℕ)
        (writes : Continues page page' (line (place ∷ (applied cells e).number ∷ []))) (leaves : cells' ≡ (applied cells e).cells)
      where
        follows_event : script rest ≡ event e (script behind)
        follows_event = script_event rest e behind (sym reads)

        pub at_refused : ((applied cells e).number ≡ 0 → ⊥) → Ends page' cells'
        at_refused h =
            record {
              text_after = record {
                text_after = writes.text_after
                    ∙ (ap (puts (shown page)) (sym (refused_text place cells e (script behind) h)) ∙ (rw follows_event at so_far.text));
                same_room = writes.same_room ∙ so_far.same_room;
              };
              table_after = leaves ∙ (sym (refused_cells place cells e (script behind) h) ∙ (rw follows_event at so_far.left));
            }

        pub at_accepted : (applied cells e).number ≡ 0 → Playing page' cells' (place + 1) behind
        at_accepted ok =
            let more = script behind in
            record {
              low = omega arith;
              few = omega (arith, so_far.few, event_shorter rest e behind (sym reads));
              text = rw (add-one, leaves, writes.text_after)
                  (sym (puts_append (shown page) (line (place ∷ (applied cells e).number ∷ [])) (played (suc place) (applied cells e).cells more).text)
                  ∙ (ap (puts (shown page)) (sym (accepted_text place cells e more ok)) ∙ (rw follows_event at so_far.text)));
              same_room = writes.same_room ∙ so_far.same_room;
              left = rw (add-one, leaves) (sym (accepted_cells place cells e more ok) ∙ (rw follows_event at so_far.left));
              is_sound = rw leaves (sound_left cells e ok);
            }
