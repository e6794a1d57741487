-- The listing always has room in 65,536 bytes.
use mathlib.Core.Path.{◌≡◌, refl, ap}
use mathlib.Core.Bool.{Bool, true, false, cond}
use mathlib.Core.List.{List, [], ◌∷◌}
use mathlib.Core.Option.{Option, none, some}
use Prim.Native.Nat.{ℕ, zero, suc, ◌+◌, ◌*◌, ◌≤◌}
use native.Mathlib.Omega.{arith}
use lib.Dec.{T, leb, leb→le, eqb}
use lib.ListN.{length, length-append}
use Rattle.lists.specs.Tests.{every}
use Rattle.lists.proofs.Choice.{by_cond}
use Rattle.masks.specs.Mask.{count}
use Rattle.protocol.specs.declared.Counts.{Counts}
use Rattle.protocol.specs.Cells.{State, Row, row_of, phase, attempt, delivered, owner, outcome, value, voted_yes, committed}
use Rattle.protocol.specs.Numbers.{count_tests}
use Rattle.table.specs.Table.{view, fresh_table}
use Rattle.table.specs.Jobs.{applied}
use Rattle.table.proofs.Exactly.{at_most_seven}
use Rattle.layout.specs.Ranged.{Ranged}
use Rattle.layout.proofs.Laws.{tests_ranged}
use Rattle.text.specs.Writing.{line}
use Rattle.text.proofs.Inverse.{decimal_short, written_one, line_short}
use Rattle.lines.specs.Lines.{read_counts, read_event, client_text, result_text}
use Rattle.lines.proofs.Inverse.{counts_shorter, event_shorter}
use Rattle.listing.specs.Script.{Script, ended, malformed, event, script_within, script}
use Rattle.listing.specs.Listing.{longest, played, for_each, client_line, result_line, ending, listed, listing_from, listing}
use Rattle.listing.proofs.Script.{by_line}

-- ---- a line for each event: at most eight bytes for twelve that were read

-- a malformed line counts: it is answered too
lines : Script → ℕ
lines ended = 0
lines malformed = 1
lines (event e more) = suc (lines more)

-- only a malformed line may be shorter than twelve bytes, and none follows it
lines_within : (limit : ℕ) (text : List ℕ) → 12 * lines (script_within limit text) ≤ length text + 12
unfolding script_within lines
lines_within zero text = omega arith
lines_within (suc limit) [] = omega arith
lines_within (suc limit) (b ∷ text) =
    by_line (λ (read : Script). 12 * lines read ≤ length (b ∷ text) + 12) (read_event (b ∷ text)) (script_within limit)
    (omega arith)
    (λ e rest read.
    let further = lines_within limit rest in
    let shorter = event_shorter (b ∷ text) e rest read in
    omega arith)

-- a place has five digits at most, and a number one
place_short : (place number : ℕ) → number ≤ 9 → length (line (place ∷ number ∷ [])) ≤ 8
unfolding line
place_short place number small =
    let digit = ap length (written_one number (omega arith)) in
    simp length-append (omega (arith, decimal_short place))

kept_short : (kept : Bool) (text : List ℕ) → length (cond kept text []) ≤ length text
kept_short true text = omega arith
kept_short false text = omega arith

played_short : (place : ℕ) (cells : List ℕ) (read : Script) → length (played place cells read).text ≤ 8 * lines read
unfolding played lines
played_short place cells ended = omega arith
played_short place cells malformed = place_short place 8 (omega arith)
played_short place cells (event e more) =
    let done = applied cells e in
    let answer = place_short place done.number (omega (arith, at_most_seven cells e)) in
    let further = played_short (suc place) done.cells more in
    simp length-append (omega (arith, kept_short (eqb done.number 0) (played (suc place) done.cells more).text))

-- ---- the lines of the end: at most 8 clients and 8 * 16 results

client_short : (s : State) (c : ℕ) → length (client_line s c) ≤ 27
unfolding client_text
client_short s c = omega (arith, line_short (c ∷ s (phase c) ∷ s (attempt c) ∷ s (delivered c) ∷ []))

result_short : (c k : ℕ) (r : Row) → length (result_line c k r) ≤ 45
unfolding result_text
result_short c k r =
    by_cond (λ (text : List ℕ). length text ≤ 45) (eqb (r owner) 0) [] _
    (λ t. omega arith)
    (λ t. omega (arith, line_short (c ∷ k ∷ r owner ∷ r outcome ∷ r value ∷ count (r voted_yes) ∷ count (r committed) ∷ [])))

each_short : (n size : ℕ) (text : ℕ → List ℕ) → ((i : ℕ) → length (text i) ≤ size) → length (for_each n text) ≤ n * size
unfolding for_each
each_short zero size text short = omega arith
each_short (suc n) size text short = simp length-append (omega (arith, each_short n size text short, short (suc n)))

module _ (n : Counts) (s : State) (r : Ranged n) where
  results_short : (c : ℕ) → length (for_each n.attempts (λ k. result_line c k (row_of s c k))) ≤ 16 * 45
  results_short c =
      omega (
        arith,
        each_short n.attempts 45 (λ k. result_line c k (row_of s c k)) (λ k. result_short c k (row_of s c k)),
        r.attempts16,
      )

  ending_short : length (ending n s) ≤ 8 * 27 + 8 * (16 * 45)
  unfolding ending
  ending_short =
      simp length-append
      (omega (
        arith,
        each_short n.clients 27 (client_line s) (client_short s),
        each_short n.clients (16 * 45) (λ c. for_each n.attempts (λ k. result_line c k (row_of s c k))) results_short,
        r.clients8,
      ))

-- ---- the whole

listed_short : (n : Counts) (cells text : List ℕ) → T (every (count_tests n)) → length text ≤ longest
    → length (listed n (played 1 cells (script text))) ≤ 65536
unfolding script
listed_short n cells text tests short =
    let run = played 1 cells (script text) in
    simp length-append
    (omega (
      arith,
      lines_within (length text) text,
      played_short 1 cells (script text),
      ending_short n (view n run.cells) (tests_ranged n tests),
    ))

pub listing_fits : (input : List ℕ) → length (listing input) ≤ 65536
unfolding listing
listing_fits input =
    by_cond (λ (text : List ℕ). length text ≤ 65536) (leb (length input) longest) _ _
    (λ t. from (read_counts input) refl (leb→le (length input) longest t))
    (λ t. omega (arith, place_short 0 8 (omega arith)))
  where
    from : (read : Option (Counts × List ℕ)) → read_counts input ≡ read → length input ≤ longest → length (listing_from read) ≤ 65536
    from none e short = omega (arith, place_short 0 8 (omega arith))
    from (some found) e short =
        by_cond (λ (text : List ℕ). length text ≤ 65536) (every (count_tests found.0)) _ _
        (λ t. listed_short found.0 (fresh_table found.0) found.1 t (omega (arith, counts_shorter input found.0 found.1 e)))
        (λ t. omega (arith, place_short 0 1 (omega arith)))
