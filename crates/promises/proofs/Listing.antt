-- The listing: what is read of an input, what becomes of its first line, that it prints what the list job answers, and that all of it is printed.
use mathlib.Core.Logic.{◌↔◌}
use mathlib.Core.Path.{◌≡◌, refl}
use mathlib.Core.Bool.{true, false}
use mathlib.Core.List.{List, [], ◌∷◌, ◌++◌, append-nil}
use mathlib.Core.Option.{none, some}
use Prim.Native.Nat.{ℕ, ◌≤◌, ◌<◌, min}
use native.Mathlib.Omega.{arith}
use lib.Dec.{T}
use lib.ListN.{length, take}
use lib.Seq.{take_all, take-append_seam}
use Rattle.lists.specs.Tests.{every}
use Rattle.lists.proofs.Choice.{true_T}
use Rattle.protocol.specs.declared.Counts.{Counts}
use Rattle.protocol.specs.declared.Event.{Event as Record}
use Rattle.protocol.specs.Numbers.{count_tests}
use Rattle.table.specs.Table.{view, sound, fresh_table}
use Rattle.table.specs.Jobs.{ran}
use Rattle.table.proofs.Soundness as soundness
use Rattle.table.proofs.Fresh.{fresh_sound}
use Rattle.text.specs.Writing.{decimal, line, over}
use Rattle.text.specs.Reading.{most, is_digit, read_number}
use Rattle.text.proofs.Inverse.{read_written, written_read}
use Rattle.lines.specs.Lines.{read_counts, read_event, counts_text, CountsFit, event_text, EventFits}
use Rattle.lines.proofs.Inverse as lines
use Rattle.listing.specs.Script.{ended, malformed, event, script}
use Rattle.listing.specs.Listing.{longest, played, ending, listed, listing}
use Rattle.listing.specs.Answered.{script_of, texts, RecordsFit, answer_lines}
use Rattle.listing.proofs.Script.{script_end, script_malformed, script_event}
use Rattle.listing.proofs.Answered as answers
use Rattle.listing.proofs.Whole as whole
use Rattle.listing.proofs.Length as room
use Rattle.promises.specs.Lists.{Accepted, after}
use Rattle.promises.proofs.Demand1.{zero_at_end}

-- ---- "all are decimals up to 65535 (anything else is malformed), one space between, no leading zeros, each line ended by a newline"

-- a number is read exactly where the text is its decimal and the byte that has to end it, which may be any but a digit
pub number_exactly : (end : ℕ) → is_digit end ≡ false → (text : List ℕ) (n : ℕ) (rest : List ℕ)
    → (read_number end text ≡ some (n, rest)) ↔ ((n ≤ most) × (text ≡ decimal n ++ (end ∷ rest)))
number_exactly end other text n rest = (written_read end text n rest, λ is. rw is.1 (read_written n end rest is.0 other))

module _ (text : List ℕ) where
  -- the first line, and an event line: read exactly where the text is that of the numbers, malformed exactly where it is that of none
  pub counts_exactly : (n : Counts) (rest : List ℕ) → (read_counts text ≡ some (n, rest)) ↔ (CountsFit n × (text ≡ counts_text n ++ rest))
  counts_exactly n rest = (lines.counts_written text n rest, λ is. rw is.1 (lines.counts_read n rest is.0))

  pub counts_malformed : (read_counts text ≡ none) ↔ ((n : Counts) (rest : List ℕ) → CountsFit n → text ≡ counts_text n ++ rest → ⊥)
  counts_malformed = lines.counts_malformed text

  pub event_exactly : (e : Record) (rest : List ℕ) → (read_event text ≡ some (e, rest)) ↔ (EventFits e × (text ≡ event_text e ++ rest))
  event_exactly e rest = (lines.event_written text e rest, λ is. rw is.1 (lines.event_read e rest is.0))

  pub event_malformed : (read_event text ≡ none) ↔ ((e : Record) (rest : List ℕ) → EventFits e → text ≡ event_text e ++ rest → ⊥)
  event_malformed = lines.event_malformed text

-- the lines behind the first, one after another, to the end of the input
pub no_line : script [] ≡ ended
no_line = script_end

pub malformed_line : (text : List ℕ) → 1 ≤ length text → read_event text ≡ none → script text ≡ malformed
malformed_line = script_malformed

pub next_line : (text : List ℕ) (e : Record) (rest : List ℕ) → read_event text ≡ some (e, rest) → script text ≡ event e (script rest)
next_line = script_event

-- ---- "an input too long prints `0 8`", "a malformed or missing first line prints `0 8`, counts outside their range print `0 1`; then nothing more"

module _ (input : List ℕ) where
  pub too_long : longest < length input → listing input ≡ line (0 ∷ 8 ∷ [])
  too_long = whole.too_long input

  module _ (fits : length input ≤ longest) where
    pub first_malformed : read_counts input ≡ none → listing input ≡ line (0 ∷ 8 ∷ [])
    first_malformed = whole.no_counts input fits

    module _ (n : Counts) (rest : List ℕ) (reads : read_counts input ≡ some (n, rest)) where
      pub counts_refused : every (count_tests n) ≡ false → listing input ≡ line (0 ∷ 1 ∷ [])
      counts_refused = whole.counts_refused input fits n rest reads

      -- else the events are played from the fresh table, and the clients and results follow
      pub counts_accepted : every (count_tests n) ≡ true → listing input ≡ listed n (played 1 (fresh_table n) (script rest))
      counts_accepted = whole.counts_listed input fits n rest reads

-- ---- "for each event `k r`, its place and number, up to the first refusal": what is printed for records is what the list job answers on them, and
-- the clients and results printed are those of the table that it leaves, so that demands 2 and 3 speak of them

pub list_job_printed : (t : List ℕ) → T (sound t) → (list : List Record) (place : ℕ)
    → ((played place t (script_of list ended)).text ≡ answer_lines place (ran t list).accepted (ran t list).refusal)
    × ((played place t (script_of list ended)).cells ≡ after t list)
list_job_printed t is_sound list place = answers.answered list t place ((soundness.sound_when t).1 is_sound)

-- so for every setup in range and every list of records whose text is not too long: the answers of the list job from the fresh table, then the clients
-- and results of the table that it leaves
pub records_listed : (n : Counts) (list : List Record) → every (count_tests n) ≡ true → RecordsFit list → length (counts_text n ++ texts list) ≤ longest
    → (let answer = ran (fresh_table n) list in
    listing (counts_text n ++ texts list) ≡ answer_lines 1 answer.accepted answer.refusal ++ ending n (view n answer.cells))
records_listed n list tests fit long =
    rw (append-nil (texts list)) at (answers.records_end n list [] tests fit (rw (append-nil (texts list)) long) refl)

-- "up to the first refusal (8 included)": where a malformed line follows records that are all accepted, its line is `k 8`, and the clients and results of the
-- table that they leave follow; where one of the records is refused, nothing behind it is looked at
module _ (n : Counts) (list : List Record) (rest : List ℕ) (tests : every (count_tests n) ≡ true) (fit : RecordsFit list)
    (long : length (counts_text n ++ (texts list ++ rest)) ≤ longest) where
  pub malformed_listed : Accepted (fresh_table n) list → 1 ≤ length rest → read_event rest ≡ none
      → listing (counts_text n ++ (texts list ++ rest)) ≡ answer_lines 1 (length list) 8 ++ ending n (view n (after (fresh_table n) list))
  malformed_listed accepted more bad =
      let whole = (zero_at_end (fresh_table n) list ((soundness.sound_when (fresh_table n)).0 (fresh_sound n (true_T (every (count_tests n)) tests)))).0 accepted in
      rw whole at (answers.malformed_behind n list rest tests fit long more bad accepted)

  pub refused_listed : (Accepted (fresh_table n) list → ⊥)
      → (let answer = ran (fresh_table n) list in
      listing (counts_text n ++ (texts list ++ rest)) ≡ answer_lines 1 answer.accepted answer.refusal ++ ending n (view n answer.cells))
  refused_listed = answers.refused_before n list rest tests fit long

-- ---- all of it is printed: no listing is longer than the room that the program lends

pub listing_fits : (input : List ℕ) → length (listing input) ≤ 65536
listing_fits = room.listing_fits

pub printed_whole : (input out : List ℕ) → length out ≡ 65536 → take (min (length (listing input)) (length out)) (over out (listing input)) ≡ listing input
printed_whole input out long =
    let fits = listing_fits input in
    let count : min (length (listing input)) (length out) ≡ length (listing input) = omega arith in
    rw (count, take_all (length out) (listing input) (omega arith)) (take-append_seam (listing input) _)
