-- The numbers of a line one after another: read into an array, and put on a page.
use mathlib.Core.Path.{◌≡◌, refl, sym, ap, ◌∙◌}
use mathlib.Core.List.{List, [], ◌∷◌, ◌++◌, append-nil, append_assoc}
use mathlib.Core.Option.{Option, none, some}
use Prim.Native.Nat.{ℕ, suc, ◌+◌, ◌-◌, ◌<◌, ◌≤◌}
use native.Mathlib.Omega.{arith}
use native.Mathlib.Numerals.{add-one}
use lib.ListN.{length, get_or, set, take, drop, drop_of_length-le}
use Rattle.std.proofs.lemmas.List.{nil_from_length, take_all}
use lib.Seq.{drop-cons, take-suc-set}
use Rattle.text.specs.declared.Page.{Page}
use Rattle.text.specs.Writing.{space, newline, decimal, line, puts}
use Rattle.text.specs.Reading.{read_number}
use Rattle.text.specs.Lent.{shown, Continues}
use Rattle.text.proofs.Pages.{puts_append}
use Rattle.protocol.specs.declared.Counts.{Counts}
use Rattle.protocol.specs.declared.Event.{Event}
use Rattle.lines.specs.Lines.{and_then, end_before, read_numbers, read_counts, read_event}

-- ---- reading

-- with some numbers in front
abbrev pub behind_numbers : List ℕ → Option (List ℕ × List ℕ) → Option (List ℕ × List ℕ)
behind_numbers front read = and_then read (λ numbers rest. some (front ++ numbers, rest))

module _ (count place : ℕ) where
  pub all_read : (numbers rest : List ℕ) → length numbers ≡ count → count ≤ place
      → some (numbers, rest) ≡ behind_numbers (take place numbers) (read_numbers (count - place) rest)
  unfolding read_numbers
  all_read numbers rest long full =
      let none_left : count - place ≡ 0 = omega arith in
      rw (none_left, take_all place numbers (omega arith), append-nil numbers) refl

  module _ (others : ℕ) (left : count - place ≡ suc others) (rest : List ℕ) where
    pub none_read : read_number (end_before others) rest ≡ none → (front : List ℕ) → none ≡ behind_numbers front (read_numbers (count - place) rest)
    unfolding read_numbers
    none_read e front = rw (left, e)

    pub one_read : (number : ℕ) (onward : List ℕ) → read_number (end_before others) rest ≡ some (number, onward)
        → (numbers : List ℕ) → place < length numbers
        → behind_numbers (take place numbers) (read_numbers (count - place) rest)
        ≡ behind_numbers (take (place + 1) (set numbers place number)) (read_numbers (count - (place + 1)) onward)
    unfolding read_numbers
    one_read number onward e numbers inside =
        let fewer : count - (place + 1) ≡ others = omega arith in
        rw (fewer, left, e, add-one, take-suc-set numbers place number inside) (moved (take place numbers) number (read_numbers others onward))
      where
        moved : (front : List ℕ) (number : ℕ) (read : Option (List ℕ × List ℕ))
            → behind_numbers front (and_then read (λ numbers behind. some (number ∷ numbers, behind))) ≡ behind_numbers (front ++ (number ∷ [])) read
        moved front number none = refl
        moved front number (some found) = ap (λ (numbers : List ℕ). some (numbers, found.1)) (sym (append_assoc front (number ∷ []) found.0))

-- the numbers of a line, and then what is made of them
first_then : {X : Type 0} (others : ℕ) (text : List ℕ) (next : List ℕ → List ℕ → Option X)
    → and_then (read_numbers (suc others) text) next
    ≡ and_then (read_number (end_before others) text) (λ number onward. and_then (read_numbers others onward) (λ numbers. next (number ∷ numbers)))
unfolding read_numbers
first_then others text next = go (read_number (end_before others) text)
  where
    one : (number : ℕ) (read : Option (List ℕ × List ℕ)) → and_then (and_then read (λ numbers behind. some (number ∷ numbers, behind))) next ≡ and_then read (λ numbers. next (number ∷ numbers))
    one number none = refl
    one number (some found) = refl

    go : (read : Option (ℕ × List ℕ)) → and_then (and_then read (λ number onward. and_then (read_numbers others onward) (λ numbers behind. some (number ∷ numbers, behind)))) next
        ≡ and_then read (λ number onward. and_then (read_numbers others onward) (λ numbers. next (number ∷ numbers)))
    go none = refl
    go (some found) = one found.0 (read_numbers others found.1)

then_same : {A X : Type 0} (read : Option (A × List ℕ)) (f g : A → List ℕ → Option X) → ((a : A) (rest : List ℕ) → f a rest ≡ g a rest) → and_then read f ≡ and_then read g
then_same none f g same = refl
then_same (some found) f g same = same found.0 found.1

-- ---- the two lines that are read

-- the counts and the record that the numbers of a line are
abbrev pub counts_of : List ℕ → Counts
counts_of found = record { clients = get_or found 0 0; servers = get_or found 1 0; databases = get_or found 2 0; attempts = get_or found 3 0 }

abbrev pub event_of : List ℕ → Event
event_of found =
    record {
      kind = get_or found 0 0;
      client = get_or found 1 0;
      attempt = get_or found 2 0;
      server = get_or found 3 0;
      database = get_or found 4 0;
      value = get_or found 5 0;
    }

counts_are : (text : List ℕ) → and_then (read_numbers 4 text) (λ found behind. some (counts_of found, behind)) ≡ read_counts text
unfolding read_numbers read_counts
counts_are text =
    first_then 3 text _ ∙ then_same _ _ _ (λ clients onward.
    first_then 2 onward _ ∙ then_same _ _ _ (λ servers onward.
    first_then 1 onward _ ∙ then_same _ _ _ (λ databases onward.
    first_then 0 onward _)))

event_is : (text : List ℕ) → and_then (read_numbers 6 text) (λ found behind. some (event_of found, behind)) ≡ read_event text
unfolding read_numbers read_event
event_is text =
    first_then 5 text _ ∙ then_same _ _ _ (λ kind onward.
    first_then 4 onward _ ∙ then_same _ _ _ (λ client onward.
    first_then 3 onward _ ∙ then_same _ _ _ (λ attempt onward.
    first_then 2 onward _ ∙ then_same _ _ _ (λ server onward.
    first_then 1 onward _ ∙ then_same _ _ _ (λ database onward.
    first_then 0 onward _)))))

module _ (text : List ℕ) (read : Option (List ℕ × List ℕ)) where
  pub counts_from : read ≡ read_numbers 4 text → and_then read (λ found behind. some (counts_of found, behind)) ≡ read_counts text
  counts_from e = ap (λ read. and_then read (λ found behind. some (counts_of found, behind))) e ∙ counts_are text

  pub event_from : read ≡ read_numbers 6 text → and_then read (λ found behind. some (event_of found, behind)) ≡ read_event text
  event_from e = ap (λ read. and_then read (λ found behind. some (event_of found, behind))) e ∙ event_is text

-- ---- writing

-- numbers with a space behind each
abbrev pub spaced : List ℕ → List ℕ
spaced [] = []
spaced (n ∷ more) = (decimal n ++ (space ∷ [])) ++ spaced more

pub line_last : (ns : List ℕ) (last : ℕ) → line (ns ++ (last ∷ [])) ≡ spaced ns ++ (decimal last ++ (newline ∷ []))
unfolding line
line_last [] last = refl
line_last (n ∷ []) last = rw append-nil refl
line_last (n ∷ m ∷ more) last =
    ap (λ (behind : List ℕ). (decimal n ++ (space ∷ [])) ++ behind) (line_last (m ∷ more) last)
    ∙ sym (append_assoc (decimal n ++ (space ∷ [])) (spaced (m ∷ more)) (decimal last ++ (newline ∷ [])))

-- what is put with the numbers that are left is what was to be put, in the same room
pub record Left (first : Page) (numbers : List ℕ) (page : Page) (left : List ℕ) : Type 0 where
  pub text_after : puts (shown page) (spaced left) ≡ puts (shown first) (spaced numbers)
  pub same_room : page.room.ghost_name ≡ first.room.ghost_name

module _ (first : Page) (numbers : List ℕ) (page : Page) where
  pub one_put : (i : ℕ) (next : Page) → Left first numbers page (drop i numbers) → i < length numbers
      → Continues page next (decimal (get_or numbers i 0) ++ (space ∷ [])) → Left first numbers next (drop (i + 1) numbers)
  one_put i next so_far inside put =
      let n = get_or numbers i 0 in
      record {
        text_after = rw (add-one, put.text_after)
            (sym (puts_append (shown page) (decimal n ++ (space ∷ [])) (spaced (drop (suc i) numbers))) ∙ rw (drop-cons numbers i 0 inside) at so_far.text_after);
        same_room = put.same_room ∙ so_far.same_room;
      }

  pub all_put : (i last : ℕ) (whole : List ℕ) (next : Page) → Left first numbers page (drop i numbers) → length numbers ≤ i → whole ≡ numbers ++ (last ∷ [])
      → Continues page next (decimal last ++ (newline ∷ [])) → Continues first next (line whole)
  unfolding puts
  all_put i last whole next so_far beyond e put =
      let ended : drop i numbers ≡ [] = drop_of_length-le numbers beyond in
      let so_far_text = rw ended at so_far.text_after in
      record {
        text_after = put.text_after
            ∙ ap (λ p. puts p (decimal last ++ (newline ∷ []))) so_far_text
            ∙ sym (puts_append (shown first) (spaced numbers) (decimal last ++ (newline ∷ [])))
            ∙ ap (puts (shown first)) (sym (ap line e ∙ line_last numbers last));
        same_room = put.same_room ∙ so_far.same_room;
      }

pub nothing_put : (first page : Page) (whole : List ℕ) → length whole ≡ 0 → Continues first page (newline ∷ []) → Continues first page (line whole)
unfolding line
nothing_put first page whole empty put = rw (nil_from_length whole empty) put
