-- A listing of records prints what the list job answers, and ends with the cells that it leaves; so does one in which a malformed line follows them.
use mathlib.Core.Path.{◌≡◌, refl, sym, ap, ap₂, ◌∙◌}
use mathlib.Core.Bool.{true, cond}
use mathlib.Core.List.{List, [], ◌∷◌, ◌++◌, append_assoc}
use mathlib.Core.Option.{none}
use Prim.Native.Nat.{ℕ, zero, suc, ◌≤◌}
use native.Mathlib.Omega.{arith}
use borrow.Author.Tests.{ne_eqb}
use lib.Dec.{eqb, eqb→eq}
use lib.ListN.{length}
use Rattle.lists.specs.Tests.{every}
use Rattle.lists.proofs.Choice.{by_cond, by_eq, true_T}
use Rattle.protocol.specs.declared.Counts.{Counts}
use Rattle.protocol.specs.declared.Event.{Event}
use Rattle.protocol.specs.Numbers.{count_tests}
use Rattle.table.specs.Table.{view, fresh_table}
use Rattle.table.specs.Jobs.{table_number, applied, Ran, stopped, ran}
use Rattle.table.proofs.Fresh.{fresh_sound}
use Rattle.table.proofs.Soundness.{sound_kept, refused_untouched}
use Rattle.table.proofs.Runs.{ran_empty, ran_accepted, ran_refused}
use Rattle.layout.specs.Ranged.{Ranged}
use Rattle.layout.proofs.Laws.{tests_ranged}
use Rattle.text.specs.Writing.{line}
use Rattle.lines.specs.Lines.{read_event, counts_text, CountsFit, event_text}
use Rattle.lines.proofs.Inverse.{counts_read, event_read}
use Rattle.listing.specs.Script.{Script, ended, malformed, event, script}
use Rattle.listing.specs.Listing.{longest, Played, played, ending, listed, listing}
use Rattle.listing.specs.Answered.{script_of, texts, RecordsFit, answer_lines}
use Rattle.listing.proofs.Script.{script_end, script_malformed, script_event}
use Rattle.listing.proofs.Whole.{counts_listed}
use Rattle.listing.proofs.Playing.{accepted_text, accepted_cells, refused_text, refused_cells}

-- what is printed and left from a place on is the answer's lines and cells
abbrev pub Answers : ℕ → Played → Ran → Type 0
Answers place run answer = (run.text ≡ answer_lines place answer.accepted answer.refusal) × (run.cells ≡ answer.cells)

refused_line : (place number : ℕ) → (number ≡ 0 → ⊥) → line (place ∷ number ∷ []) ≡ answer_lines place 0 number
unfolding answer_lines
refused_line place zero refused = absurd (refused refl)
refused_line place (suc number) refused = refl

-- ---- records, and what follows them: nothing, or a malformed line

-- the answer of the list job, but that the number is that of what follows where the list was accepted whole
abbrev ending_in : ℕ → Ran → Ran
ending_in number answer = record { accepted = answer.accepted; refusal = cond (eqb answer.refusal 0) number answer.refusal; cells = answer.cells }

-- what follows prints the line of this number, or none where it is 0, and changes nothing
abbrev Prints : Script → ℕ → Type 0
Prints behind number = (place : ℕ) (t : List ℕ) → Answers place (played place t behind) (stopped number t)

ended_prints : Prints ended 0
unfolding played answer_lines
ended_prints place t = (refl, refl)

malformed_prints : Prints malformed 8
unfolding played answer_lines
malformed_prints place t = (refl, refl)

-- where the list is refused, what follows is not looked at
answered_then : (behind : Script) (number : ℕ) (list : List Event) (t : List ℕ) (place : ℕ) → table_number t ≡ 0 → ((ran t list).refusal ≡ 0 → Prints behind number)
    → Answers place (played place t (script_of list behind)) (ending_in number (ran t list))
unfolding answer_lines applied
answered_then behind number [] t place sound whole =
    rw (ran_empty t, sound) (whole (ap (λ ends. ends.refusal) (ran_empty t) ∙ sound) place t)
answered_then behind number (e ∷ list) t place sound whole =
    by_eq (applied t e).number 0
    (λ accepted.
    let one_more = ran_accepted t e list accepted in
    let next = answered_then behind number list (applied t e).cells (suc place) (sound_kept t e accepted) (λ z. whole (ap (λ ends. ends.refusal) one_more ∙ z)) in
    rw one_more (
      accepted_text place t e (script_of list behind) accepted
          ∙ ap₂ {C = List ℕ} (λ number text. line (place ∷ number ∷ []) ++ text) accepted next.0,
      accepted_cells place t e (script_of list behind) accepted ∙ next.1,
    ))
    (λ refused.
    rw (ran_refused t e list refused, ne_eqb (applied t e).number 0 refused) (
      refused_text place t e (script_of list behind) refused ∙ refused_line place (applied t e).number refused,
      refused_cells place t e (script_of list behind) refused ∙ refused_untouched t e refused,
    ))

own_number : (number : ℕ) → cond (eqb number 0) 0 number ≡ number
own_number number = by_cond (λ x. x ≡ number) (eqb number 0) 0 number (λ t. sym (eqb→eq number 0 t)) (λ t. refl)

pub answered : (list : List Event) (t : List ℕ) (place : ℕ) → table_number t ≡ 0 → Answers place (played place t (script_of list ended)) (ran t list)
answered list t place sound = rw (own_number (ran t list).refusal) at (answered_then ended 0 list t place sound (λ z. ended_prints))

-- ---- an input that is the text of a setup and of records, and of what follows them

script_texts : (list : List Event) (rest : List ℕ) → RecordsFit list → script (texts list ++ rest) ≡ script_of list (script rest)
script_texts [] rest fit = refl
script_texts (e ∷ list) rest fit =
    ap script (append_assoc (event_text e) (texts list) rest)
    ∙ script_event (event_text e ++ (texts list ++ rest)) e (texts list ++ rest) (event_read e (texts list ++ rest) fit.0)
    ∙ ap (event e) (script_texts list rest fit.1)

counts_fit : (n : Counts) → Ranged n → CountsFit n
counts_fit n r = record { clients = omega (arith, r.clients8); servers = omega (arith, r.servers8); databases = omega (arith, r.databases8); attempts = omega (arith, r.attempts16) }

module _ (n : Counts) (list : List Event) (rest : List ℕ) (tests : every (count_tests n) ≡ true) (fit : RecordsFit list)
    (long : length (counts_text n ++ (texts list ++ rest)) ≤ longest) where
  abbrev answer : Ran
  answer = ran (fresh_table n) list

  -- what is listed of an answer
  abbrev listed_of : Ran → List ℕ
  listed_of ends = answer_lines 1 ends.accepted ends.refusal ++ ending n (view n ends.cells)

  listed_so : (ends : Ran) → Answers 1 (played 1 (fresh_table n) (script_of list (script rest))) ends → listing (counts_text n ++ (texts list ++ rest)) ≡ listed_of ends
  listed_so ends same =
      let counts = true_T (every (count_tests n)) tests in
      let text = texts list ++ rest in
      counts_listed (counts_text n ++ text) long n text (counts_read n text (counts_fit n (tests_ranged n counts))) tests
      ∙ ap (λ s. listed n (played 1 (fresh_table n) s)) (script_texts list rest fit)
      ∙ ap₂ {C = List ℕ} (λ lines cells. lines ++ ending n (view n cells)) same.0 same.1

  sound : table_number (fresh_table n) ≡ 0
  sound = fresh_sound n (true_T (every (count_tests n)) tests)

  -- nothing follows, or a malformed line, or anything at all where the list is refused
  pub records_end : rest ≡ [] → listing (counts_text n ++ (texts list ++ rest)) ≡ listed_of answer
  records_end empty = listed_so answer (rw (ap script empty ∙ script_end) (answered list (fresh_table n) 1 sound))

  pub malformed_behind : 1 ≤ length rest → read_event rest ≡ none → answer.refusal ≡ 0
      → listing (counts_text n ++ (texts list ++ rest)) ≡ answer_lines 1 answer.accepted 8 ++ ending n (view n answer.cells)
  malformed_behind more bad accepted =
      rw accepted at (listed_so (ending_in 8 answer) (rw (script_malformed rest more bad) (answered_then malformed 8 list (fresh_table n) 1 sound (λ z. malformed_prints))))

  pub refused_before : (answer.refusal ≡ 0 → ⊥) → listing (counts_text n ++ (texts list ++ rest)) ≡ listed_of answer
  refused_before refused =
      rw (own_number answer.refusal) at (listed_so (ending_in 0 answer) (answered_then (script rest) 0 list (fresh_table n) 1 sound (λ z. absurd (refused z))))
