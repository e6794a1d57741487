-- The whole listing, by what becomes of its first line, and its parts one behind another.
use mathlib.Core.Path.{◌≡◌, sym, ap, ◌∙◌}
use mathlib.Core.Bool.{true, false}
use mathlib.Core.List.{List, [], ◌∷◌}
use mathlib.Core.Option.{none, some}
use Prim.Native.Nat.{ℕ, ◌≤◌, ◌<◌, min}
use lib.Dec.{T, eqb}
use lib.ListN.{length}
use borrow.Author.Tests.{eq-eqb, le-leb, lt-leb}
use Rattle.lists.specs.Tests.{every}
use Rattle.lists.proofs.Choice.{both, true_T}
use Rattle.protocol.specs.declared.Counts.{Counts}
use Rattle.protocol.specs.Cells.{row_of}
use Rattle.protocol.specs.Numbers.{count_tests}
use Rattle.table.specs.Layout.{table_length}
use Rattle.table.specs.Table.{view, sound, fresh_table}
use Rattle.table.specs.Jobs.{set_up}
use Rattle.table.proofs.Fresh.{fresh_sound, set_up_number_lem, set_up_lem}
use Rattle.table.proofs.Places.{length_most}
use Rattle.table.proofs.Soundness.{sound_when}
use native.Mathlib.Omega.{arith}
use Rattle.layout.specs.Ranged.{Ranged}
use Rattle.layout.proofs.Laws.{ranged_tests}
use Rattle.text.specs.declared.Page.{Page}
use Rattle.text.specs.Writing.{puts, line, over}
use Rattle.text.specs.Lent.{shown, Continues}
use Rattle.text.proofs.Pages.{continues, puts_over}
use Rattle.lines.specs.Lines.{read_counts}
use Rattle.listing.specs.Script.{Script, script}
use Rattle.listing.specs.Listing.{longest, played, client_line, result_line, for_each, ending, listed, listing}

-- a table of the right length is set up
pub set_up_fresh : (n : Counts) (t : List ℕ) → length t ≡ table_length n → Ranged n → (number : ℕ) (cells : List ℕ)
    → record { number = number; cells = cells } ≡ set_up t n → cells ≡ fresh_table n
set_up_fresh n t long ranged number cells e =
    let fits = both (eqb (length t) (table_length n)) (every (count_tests n)) (true_T _ (eq-eqb (length t) (table_length n) long)) (ranged_tests n ranged) in
    ap (λ done. done.cells) e ∙ set_up_lem t n ((set_up_number_lem t n).1 fits)

pub set_up_sound : (n : Counts) (t : List ℕ) → length t ≡ table_length n → Ranged n → (number : ℕ) (cells : List ℕ)
    → record { number = number; cells = cells } ≡ set_up t n → T (sound cells)
set_up_sound n t long ranged number cells e =
    rw (set_up_fresh n t long ranged number cells e) ((sound_when (fresh_table n)).0 (fresh_sound n (ranged_tests n ranged)))

-- the largest table has room for each
pub cells_enough : (n : Counts) (size : ℕ) → true ≡ every (count_tests n) → size ≡ table_length n → size ≤ 3788
cells_enough n size fits same = omega (arith, length_most n (true_T _ (sym fits)))

-- the events, the clients and the results
pub parts_listed : (n : Counts) (s : Script) (cells left : List ℕ) (first second third last : Page) → cells ≡ fresh_table n
    → Continues first second (played 1 cells s).text → left ≡ (played 1 cells s).cells
    → Continues second third (for_each n.clients (client_line (view n left)))
    → Continues third last (for_each n.clients (λ c. for_each n.attempts (λ k. result_line c k (row_of (view n left) c k))))
    → Continues first last (listed n (played 1 (fresh_table n) s))
unfolding ending
parts_listed n s cells left first second third last start events leaves clients results =
    rw (leaves, start) at (continues _ _ _ _ _ events (continues _ _ _ _ _ clients results))

-- ---- the first line

module _ (input : List ℕ) where
  pub too_long : longest < length input → listing input ≡ line (0 ∷ 8 ∷ [])
  unfolding listing
  too_long h = rw (lt-leb (length input) longest h)

  module _ (h : length input ≤ longest) where
    pub no_counts : read_counts input ≡ none → listing input ≡ line (0 ∷ 8 ∷ [])
    unfolding listing
    no_counts e = rw (le-leb (length input) longest h, e)

    module _ (n : Counts) (rest : List ℕ) (reads : read_counts input ≡ some (n, rest)) where
      pub counts_refused : every (count_tests n) ≡ false → listing input ≡ line (0 ∷ 1 ∷ [])
      unfolding listing
      counts_refused e = rw (le-leb (length input) longest h, reads, e)

      pub counts_listed : every (count_tests n) ≡ true → listing input ≡ listed n (played 1 (fresh_table n) (script rest))
      unfolding listing
      counts_listed e = rw (le-leb (length input) longest h, reads, e)

-- what is printed from the start of a page, in the room that there is
module _ (input : List ℕ) (first last : Page) (start : first.end ≡ 0) (written : Continues first last (listing input)) where
  printed : shown last ≡ record { cells = over first.room.now (listing input); at = min (length (listing input)) (length first.room.now) }
  printed =
      written.text_after
      ∙ ap (λ (at : ℕ). puts (record { cells = first.room.now; at = at }) (listing input)) start
      ∙ puts_over first.room.now (listing input)

  pub printed_count : last.end ≡ min (length (listing input)) (length first.room.now)
  printed_count = ap (λ page. page.at) printed

  pub printed_cells : last.room.now ≡ over first.room.now (listing input)
  printed_cells = ap (λ page. page.cells) printed
