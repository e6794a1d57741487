-- What the listing program prints.
use Rattle.std.specs.Prelude.{cond, List, [], ◌∷◌, ◌++◌, ℕ, zero, suc, leb, eqb, length}
use Rattle.std.proofs.Math.Option.{Option, none, some}
use Rattle.lists.specs.Tests.{every}
use Rattle.masks.specs.Mask.{count}
use Rattle.protocol.specs.declared.Counts.{Counts}
use Rattle.protocol.specs.Cells.{State, Row, row_of, phase, attempt, delivered, owner, outcome, value, voted_yes, committed}
use Rattle.protocol.specs.Numbers.{count_tests}
use Rattle.table.specs.Table.{view, fresh_table}
use Rattle.table.specs.Jobs.{applied}
use Rattle.text.specs.Writing.{line}
use Rattle.lines.specs.Lines.{read_counts, client_text, result_text}
use Rattle.listing.specs.Script.{Script, ended, malformed, event, script}

-- the most bytes of an input
abbrev pub longest : ℕ
longest = 65536

-- ---- for each event its place and number, up to the first refusal (8 included)

pub record Played : Type 0 where
  pub text : List ℕ
  pub cells : List ℕ

-- from a place on; an input has fewer than 5,500 lines, so a place has at most four digits
unfoldable pub played : ℕ → List ℕ → Script → Played
played place cells ended = record { text = []; cells = cells }
played place cells malformed = record { text = line (place ∷ 8 ∷ []); cells = cells }
played place cells (event e more) =
    let done = applied cells e in
    let rest = played (suc place) done.cells more in
    record {
      text = line (place ∷ done.number ∷ []) ++ cond (eqb done.number 0) rest.text [];
      cells = cond (eqb done.number 0) rest.cells done.cells;
    }

-- ---- at the end: the clients, then the results with an owner, in table order

-- the texts of 1 to n, one behind another
unfoldable pub for_each : ℕ → (ℕ → List ℕ) → List ℕ
for_each zero text = []
for_each (suc n) text = for_each n text ++ text (suc n)

abbrev pub client_line : State → ℕ → List ℕ
client_line s c = client_text c (s (phase c)) (s (attempt c)) (s (delivered c))

abbrev pub result_line : ℕ → ℕ → Row → List ℕ
result_line c k r = cond (eqb (r owner) 0) [] (result_text c k (r owner) (r outcome) (r value) (count (r voted_yes)) (count (r committed)))

unfoldable pub ending : Counts → State → List ℕ
unfolding for_each
ending n s =
    for_each n.clients (client_line s) ++ for_each n.clients (λ c. for_each n.attempts (λ k. result_line c k (row_of s c k)))

-- ---- the whole listing

abbrev pub listed : Counts → Played → List ℕ
listed n run = run.text ++ ending n (view n run.cells)

abbrev pub listing_from : Option (Counts × List ℕ) → List ℕ
listing_from none = line (0 ∷ 8 ∷ [])
listing_from (some found) =
    cond (every (count_tests found.0)) (listed found.0 (played 1 (fresh_table found.0) (script found.1))) (line (0 ∷ 1 ∷ []))

unfoldable pub listing : List ℕ → List ℕ
listing input = cond (leb (length input) longest) (listing_from (read_counts input)) (line (0 ∷ 8 ∷ []))
