-- How the parts of the one-event job make up its meaning: the table's numbers, then the record's, then the rule's.
use mathlib.Core.Path.{◌≡◌, refl, sym, ap, subst, ◌∙◌}
use mathlib.Core.Bool.{true, false, cond, ◌&&◌, and-false, and-true}
use mathlib.Core.List.{List, [], ◌∷◌}
use mathlib.Core.Logic.{◌⊎◌, inl, inr}
use mathlib.Core.Option.{Option, none, some}
use Prim.Native.Nat.{ℕ, ◌≤◌, ◌<◌}
use native.Mathlib.Omega.{arith}
use borrow.Author.Tests.{eq-eqb, ne_eqb}
use lib.Dec.{T, eqb, eqb→eq}
use lib.ListN.{length, get_or}
use Rattle.lists.specs.Tests.{every, inside}
use Rattle.lists.proofs.Choice.{true_T, false_T, every_all, all_every, inside_high}
use Rattle.protocol.specs.declared.Counts.{Counts}
use Rattle.protocol.specs.declared.Event.{Event}
use Rattle.protocol.specs.Events.{Kind as Line, kind_of, record_of}
use Rattle.protocol.specs.Numbers.{count_tests, in_range, field_tests, fields, acting, are_up, refusal, refusal_at, record_refusal}
use Rattle.protocol.specs.Rules.{rule}
use Rattle.protocol.proofs.Records.{event_record}
use Rattle.table.specs.Layout.{table_length}
use Rattle.table.specs.Table.{counts_of, view, size_tests, sound, fresh_table, set_all}
use Rattle.table.specs.Jobs.{Done, set_up_number, set_up, table_number, number_of, writes_at, after, applied}
use Rattle.table.proofs.Accepts.{table_sound}
use Rattle.table.proofs.Soundness.{sound_when}
use Rattle.layout.specs.Ranged.{Ranged}
use Rattle.layout.proofs.Laws.{tests_ranged}
use Rattle.rules.specs.Rules.{Held, rule_number, ruled, of_row, row_ruled, Follows}
use Rattle.rules.proofs.Laws.{at_kind}
use Rattle.protocol.specs.declared.Kind.{Kind}
use Rattle.protocol.specs.declared.Kind.TheVariants.{Issue, Timeout, RequestArrives, Compute, PrepareArrives, VoteArrives, ReadyArrives, Write, Suspect, Trust, Clean, DecideArrives, AckArrives, ResultArrives, ServerCrashes, DatabaseCrashes, ClientCrashes}
use Rattle.protocol.specs.Kinds.{kind_number}
use Rattle.protocol.specs.Cells.{client_up, server_up, database_up}
use Rattle.engine.specs.Engine.{followed_at, followed, up_at, parties_up, answered}

-- ---- numbers 1 and 2: the cells alone

-- a table that is not sound: its number is given, and every cell stays
pub unsound_so : (t : List ℕ) (e : Event) (number : ℕ) → number ≡ table_number t → eqb number 0 ≡ false → ◌≡◌ {A = Done} (record { number = number; cells = t }) (applied t e)
unfolding applied number_of
unsound_so t e number is unsound = rw (← is, unsound, unsound)

pub wrong_size : (t : List ℕ) → every (size_tests (counts_of t) t) ≡ false → table_number t ≡ 1
unfolding table_number
wrong_size t f = rw f

pub out_of_range : (t : List ℕ) → every (size_tests (counts_of t) t) ≡ true → in_range (counts_of t) (view (counts_of t) t) ≡ false → table_number t ≡ 2
unfolding table_number
out_of_range t f g = rw (f, g)

pub sound_number : (t : List ℕ) → every (size_tests (counts_of t) t) ≡ true → in_range (counts_of t) (view (counts_of t) t) ≡ true → table_number t ≡ 0
unfolding table_number
sound_number t f g = rw (f, g)

pub other_length : (n : Counts) (t : List ℕ) → (length t ≡ table_length n → ⊥) → every (size_tests n t) ≡ false
other_length n t ne = rw (ne_eqb (length t) (table_length n) ne)

pub too_short : (n : Counts) (t : List ℕ) → length t < 4 → every (size_tests n t) ≡ false
unfolding table_length
too_short n t h = other_length n t (λ e. omega arith)

pub wrong_counts : (n : Counts) (t : List ℕ) → every (count_tests n) ≡ false → every (size_tests n t) ≡ false
wrong_counts n t f = ap (λ b. eqb (length t) (table_length n) && b) f ∙ and-false (eqb (length t) (table_length n))

pub right_size : (n : Counts) (t : List ℕ) → length t ≡ table_length n → every (count_tests n) ≡ true → every (size_tests n t) ≡ true
right_size n t e f = rw (eq-eqb (length t) (table_length n) e) f

-- the same with the counts that were read from the header
module _ (t : List ℕ) (n : Counts) (is : n ≡ counts_of t) where
  pub counts_refused : every (count_tests n) ≡ false → table_number t ≡ 1
  counts_refused f = wrong_size t (wrong_counts (counts_of t) t (rw is at f))

  pub length_refused : (length t ≡ table_length n → ⊥) → table_number t ≡ 1
  length_refused f = wrong_size t (other_length (counts_of t) t (rw is at f))

  module _ (long : length t ≡ table_length n) (counts : every (count_tests n) ≡ true) where
    sized : every (size_tests (counts_of t) t) ≡ true
    sized = right_size (counts_of t) t (rw is at long) (rw is at counts)

    pub range_refused : in_range n (view n t) ≡ false → table_number t ≡ 2
    range_refused f = out_of_range t sized (subst (λ m. in_range m (view m t) ≡ false) is f)

    pub none_refused : in_range n (view n t) ≡ true → table_number t ≡ 0
    none_refused f = sound_number t sized (subst (λ m. in_range m (view m t) ≡ true) is f)

  -- on a sound table the job is what is given of the record
  module _ (is_sound : T (sound t)) where
    pub sound_held : Held n t
    sound_held =
        let facts = table_sound t ((sound_when t).1 is_sound) in
        subst (λ m. Held m t) (sym is) (record {
          long = eqb→eq (length t) (table_length (counts_of t)) facts.size.0;
          ranged = tests_ranged (counts_of t) (all_every (count_tests (counts_of t)) facts.size.1);
          range = facts.range;
        })

    -- its three facts, each by itself, as a search asks for them
    pub sound_long : length t ≡ table_length n
    sound_long = sound_held.long

    pub sound_ranged : Ranged n
    sound_ranged = sound_held.ranged

    pub sound_range : T (in_range n (view n t))
    sound_range = sound_held.range

    pub goes_on : (e : Event) → answered n t e ≡ applied t e
    unfolding applied number_of answered
    goes_on e = subst (λ m. answered m t e ≡ applied t e) (sym is) (rw ((sound_when t).1 is_sound))

pub has_header : (t : List ℕ) → T (sound t) → 4 ≤ length t
unfolding table_length
has_header t is_sound = omega (arith, (sound_held t (counts_of t) refl is_sound).long)

-- ---- numbers 3 to 7: the record

module _ (n : Counts) (t : List ℕ) (e : Event) where
  -- a record whose kind has this line in the table, and whose fields are as it says
  module _ (kind : Line) (line : kind_of e.kind ≡ some kind) (fit : every (fields n e) ≡ true) where
    event : Rattle.protocol.specs.Events.Event
    event = kind.event e

    tests : every (field_tests n (some kind) e) ≡ true
    tests = rw line at fit

    again : record_of event ≡ e
    unfolding event
    again = event_record n e kind line (every_all (field_tests n (some kind) e) (true_T _ tests))

    -- the field check of the record is that of its event, so what is left is who is up, and the rule
    number_is : record_refusal n (view n t) e ≡ cond (every (are_up (view n t) (acting event))) (rule_number (rule n (view n t) event)) 5
    unfolding record_refusal refusal event
    number_is =
        ap (refusal_at n (view n t) e) line
        ∙ rw (tests, ap (λ x. every (fields n x)) again ∙ fit)

    cells_are : after n t e ≡ set_all n t (rule n (view n t) event).writes
    unfolding after event
    cells_are = ap (λ k. set_all n t (writes_at n (view n t) e k)) line

    up_is : parties_up n t e ≡ every (are_up (view n t) (acting event))
    unfolding parties_up event
    up_is = ap (up_at n t e) line

    down_here : parties_up n t e ≡ false → ◌≡◌ {A = Done} (record { number = 5; cells = t }) (answered n t e)
    unfolding answered
    down_here down = rw (number_is, sym up_is ∙ down)

    ruled_here : parties_up n t e ≡ true → followed n t e ≡ answered n t e
    unfolding answered followed event
    ruled_here up = ap (followed_at n t e) line ∙ rw (number_is, sym up_is ∙ up, cells_are)

  by_line : {P : Type 0} → (kind_of e.kind ≡ none → P) → ((kind : Line) → kind_of e.kind ≡ some kind → P) → P
  by_line {P} unlisted listed = at (kind_of e.kind) refl
    where
      at : (k : Option Line) → kind_of e.kind ≡ k → P
      at none line = unlisted line
      at (some kind) line = listed kind line

  -- 3 is given where the kind has no line; then there is no field and no party to ask
  pub unknown_kind : kind_of e.kind ≡ none → ◌≡◌ {A = Done} (record { number = 3; cells = t }) (answered n t e)
  unfolding answered record_refusal
  unknown_kind line = rw line

  pub wrong_field : every (fields n e) ≡ false → ◌≡◌ {A = Done} (record { number = 4; cells = t }) (answered n t e)
  unfolding answered record_refusal
  wrong_field f = by_line (λ line. absurd (false_T true (rw line at f))) (λ kind line. rw (line, rw line at f))

  pub party_down : every (fields n e) ≡ true → parties_up n t e ≡ false → ◌≡◌ {A = Done} (record { number = 5; cells = t }) (answered n t e)
  unfolding parties_up
  party_down fit down = by_line (λ line. absurd (false_T true (sym (ap (up_at n t e) line) ∙ down))) (λ kind line. down_here kind line fit down)

  pub ruled_so : every (fields n e) ≡ true → parties_up n t e ≡ true → followed n t e ≡ answered n t e
  unfolding answered followed record_refusal
  ruled_so fit up = by_line (λ line. rw line) (λ kind line. ruled_here kind line fit up)

-- ---- a record of a row's kind: its result, and no server or database beyond the last

none_most : (m id : ℕ) → T (eqb id 0) → id ≤ m
none_most m id t = omega (arith, eqb→eq id 0 t)

module _ (n : Counts) (e : Event) (k : ℕ) (is : e.kind ≡ k) (of_rows : of_row k ≡ true) (fits : every (fields n e) ≡ true)
    (c : T (inside n.clients e.client)) (a : T (inside n.attempts e.attempt)) where
  pub by_server : T (inside n.servers e.server) → T (eqb e.database 0) → Follows n e
  by_server i d = record {
    kind = ap of_row is ∙ of_rows;
    fits = fits;
    client = c;
    attempt = a;
    server = inside_high n.servers e.server i;
    database = none_most n.databases e.database d;
  }

  pub by_database : T (eqb e.server 0) → T (inside n.databases e.database) → Follows n e
  by_database i d = record {
    kind = ap of_row is ∙ of_rows;
    fits = fits;
    client = c;
    attempt = a;
    server = none_most n.servers e.server i;
    database = inside_high n.databases e.database d;
  }

  pub by_both_parties : T (inside n.servers e.server) → T (inside n.databases e.database) → Follows n e
  by_both_parties i d = record {
    kind = ap of_row is ∙ of_rows;
    fits = fits;
    client = c;
    attempt = a;
    server = inside_high n.servers e.server i;
    database = inside_high n.databases e.database d;
  }

-- ---- an event by its kind: what a match tells of an arm that takes some kinds together

abbrev pub OneOf : Kind → List Kind → Type 0
OneOf kind [] = Unit {0}
OneOf kind (k ∷ []) = kind ≡ k
OneOf kind (k ∷ m ∷ more) = (kind ≡ k) ⊎ OneOf kind (m ∷ more)

abbrev pub EachOf : (Kind → Type 0) → List Kind → Type 0
EachOf P [] = Unit {0}
EachOf P (k ∷ []) = P k
EachOf P (k ∷ m ∷ more) = P k × EachOf P (m ∷ more)

of_one : (P : Kind → Type 0) (kind k : Kind) (more : List Kind) → EachOf P (k ∷ more) → OneOf kind (k ∷ more) → P kind
of_one P kind k [] each is = subst P (sym is) each
of_one P kind k (m ∷ more) each (inl is) = subst P (sym is) each.0
of_one P kind k (m ∷ more) each (inr other) = of_one P kind m more each.1 other

module _ (n : Counts) (t : List ℕ) (e : Event) (fit : every (fields n e) ≡ true) where
  -- 5: the party that acts is named, and asked

  abbrev pub ClientActs : Kind → Type 0
  ClientActs kind = kind_number kind ≡ e.kind → T (inside n.clients e.client) × (eqb (view n t (client_up e.client)) 1 ≡ parties_up n t e)

  client_up_at : (k : ℕ) → e.kind ≡ k → up_at n t e (kind_of k) ≡ (eqb (view n t (client_up e.client)) 1 && true) → eqb (view n t (client_up e.client)) 1 ≡ parties_up n t e
  unfolding parties_up
  client_up_at k is asks = sym (ap (λ x. up_at n t e (kind_of x)) is ∙ asks ∙ and-true _)

  pub client_acts : (kind : Kind) → OneOf kind (Issue ∷ Timeout ∷ ResultArrives ∷ ClientCrashes ∷ []) → ClientActs kind
  client_acts kind = of_one ClientActs kind Issue (Timeout ∷ ResultArrives ∷ ClientCrashes ∷ []) (
    (λ read. ((at_kind n e 1 (sym read) fit).0, client_up_at 1 (sym read) refl)),
    (
      (λ read. ((at_kind n e 2 (sym read) fit).0, client_up_at 2 (sym read) refl)),
      (
        (λ read. ((at_kind n e 14 (sym read) fit).0, client_up_at 14 (sym read) refl)),
        (λ read. ((at_kind n e 17 (sym read) fit).0, client_up_at 17 (sym read) refl)),
      ),
    ),
  )

  abbrev pub ServerActs : Kind → Type 0
  ServerActs kind = kind_number kind ≡ e.kind → T (inside n.servers e.server) × (eqb (view n t (server_up e.server)) 1 ≡ parties_up n t e)

  server_up_at : (k : ℕ) → e.kind ≡ k → up_at n t e (kind_of k) ≡ (eqb (view n t (server_up e.server)) 1 && true) → eqb (view n t (server_up e.server)) 1 ≡ parties_up n t e
  unfolding parties_up
  server_up_at k is asks = sym (ap (λ x. up_at n t e (kind_of x)) is ∙ asks ∙ and-true _)

  pub server_acts : (kind : Kind) → OneOf kind (RequestArrives ∷ Compute ∷ VoteArrives ∷ ReadyArrives ∷ Write ∷ Suspect ∷ Trust ∷ Clean ∷ AckArrives ∷ ServerCrashes ∷ []) → ServerActs kind
  server_acts kind = of_one ServerActs kind RequestArrives (Compute ∷ VoteArrives ∷ ReadyArrives ∷ Write ∷ Suspect ∷ Trust ∷ Clean ∷ AckArrives ∷ ServerCrashes ∷ []) (
    (λ read. ((at_kind n e 3 (sym read) fit).1.1.0, server_up_at 3 (sym read) refl)),
    (
      (λ read. ((at_kind n e 4 (sym read) fit).1.1.0, server_up_at 4 (sym read) refl)),
      (
        (λ read. ((at_kind n e 6 (sym read) fit).1.1.0, server_up_at 6 (sym read) refl)),
        (
          (λ read. ((at_kind n e 7 (sym read) fit).1.1.0, server_up_at 7 (sym read) refl)),
          (
            (λ read. ((at_kind n e 8 (sym read) fit).1.1.0, server_up_at 8 (sym read) refl)),
            (
              (λ read. ((at_kind n e 9 (sym read) fit).1.1.0, server_up_at 9 (sym read) refl)),
              (
                (λ read. ((at_kind n e 10 (sym read) fit).1.1.0, server_up_at 10 (sym read) refl)),
                (
                  (λ read. ((at_kind n e 11 (sym read) fit).1.1.0, server_up_at 11 (sym read) refl)),
                  (
                    (λ read. ((at_kind n e 13 (sym read) fit).1.1.0, server_up_at 13 (sym read) refl)),
                    (λ read. ((at_kind n e 15 (sym read) fit).1.1.0, server_up_at 15 (sym read) refl)),
                  ),
                ),
              ),
            ),
          ),
        ),
      ),
    ),
  )

  abbrev pub DatabaseActs : Kind → Type 0
  DatabaseActs kind = kind_number kind ≡ e.kind → T (inside n.databases e.database) × (eqb (view n t (database_up e.database)) 1 ≡ parties_up n t e)

  database_up_at : (k : ℕ) → e.kind ≡ k → up_at n t e (kind_of k) ≡ (eqb (view n t (database_up e.database)) 1 && true) → eqb (view n t (database_up e.database)) 1 ≡ parties_up n t e
  unfolding parties_up
  database_up_at k is asks = sym (ap (λ x. up_at n t e (kind_of x)) is ∙ asks ∙ and-true _)

  pub database_acts : (kind : Kind) → OneOf kind (PrepareArrives ∷ DecideArrives ∷ DatabaseCrashes ∷ []) → DatabaseActs kind
  database_acts kind = of_one DatabaseActs kind PrepareArrives (DecideArrives ∷ DatabaseCrashes ∷ []) (
    (λ read. ((at_kind n e 5 (sym read) fit).1.1.1.0, database_up_at 5 (sym read) refl)),
    (
      (λ read. ((at_kind n e 12 (sym read) fit).1.1.1.0, database_up_at 12 (sym read) refl)),
      (λ read. ((at_kind n e 16 (sym read) fit).1.1.1.0, database_up_at 16 (sym read) refl)),
    ),
  )

  -- whether it is up, by the cell that says so
  module _ (kind : Kind) (read : kind_number kind ≡ e.kind) where
    pub client_answers : OneOf kind (Issue ∷ Timeout ∷ ResultArrives ∷ ClientCrashes ∷ []) → (cells : List ℕ) → get_or cells 0 0 ≡ view n t (client_up e.client) → eqb (get_or cells 0 0) 1 ≡ parties_up n t e
    client_answers one cells is = ap (λ x. eqb x 1) is ∙ (client_acts kind one read).1

    pub server_answers : OneOf kind (RequestArrives ∷ Compute ∷ VoteArrives ∷ ReadyArrives ∷ Write ∷ Suspect ∷ Trust ∷ Clean ∷ AckArrives ∷ ServerCrashes ∷ []) → (cells : List ℕ) → get_or cells 0 0 ≡ view n t (server_up e.server) → eqb (get_or cells 0 0) 1 ≡ parties_up n t e
    server_answers one cells is = ap (λ x. eqb x 1) is ∙ (server_acts kind one read).1

    pub database_answers : OneOf kind (PrepareArrives ∷ DecideArrives ∷ DatabaseCrashes ∷ []) → (cells : List ℕ) → get_or cells 0 0 ≡ view n t (database_up e.database) → eqb (get_or cells 0 0) 1 ≡ parties_up n t e
    database_answers one cells is = ap (λ x. eqb x 1) is ∙ (database_acts kind one read).1

    -- 12 by itself: an arm for it alone is found proved by this where it asks the database, so one that asks another party is refused for what it asks
    pub decide_answers : kind ≡ DecideArrives → (cells : List ℕ) → get_or cells 0 0 ≡ view n t (database_up e.database) → eqb (get_or cells 0 0) 1 ≡ parties_up n t e
    decide_answers is = database_answers (inr (inl is))

  pub nobody_acts : 18 ≡ e.kind → true ≡ parties_up n t e
  unfolding parties_up
  nobody_acts read = sym (ap (λ x. up_at n t e (kind_of x)) (sym read))

  -- 3 to 8 and 11 to 13: the event names a result, and its rule is that of a row
  abbrev pub OfRow : Kind → Type 0
  OfRow kind = kind_number kind ≡ e.kind → Follows n e × (ruled n t (row_ruled n e (view n t)) ≡ followed n t e)

  pub is_of_row : (kind : Kind) → OneOf kind (RequestArrives ∷ Compute ∷ PrepareArrives ∷ VoteArrives ∷ ReadyArrives ∷ Write ∷ Clean ∷ DecideArrives ∷ AckArrives ∷ []) → OfRow kind
  unfolding followed
  is_of_row kind = of_one OfRow kind RequestArrives (Compute ∷ PrepareArrives ∷ VoteArrives ∷ ReadyArrives ∷ Write ∷ Clean ∷ DecideArrives ∷ AckArrives ∷ []) (
    (λ read. let f = at_kind n e 3 (sym read) fit in (by_server n e 3 (sym read) refl fit f.0 f.1.0 f.1.1.0 f.1.1.1.0, rw (sym read))),
    (
      (λ read. let f = at_kind n e 4 (sym read) fit in (by_server n e 4 (sym read) refl fit f.0 f.1.0 f.1.1.0 f.1.1.1.0, rw (sym read))),
      (
        (λ read. let f = at_kind n e 5 (sym read) fit in (by_database n e 5 (sym read) refl fit f.0 f.1.0 f.1.1.0 f.1.1.1.0, rw (sym read))),
        (
          (λ read. let f = at_kind n e 6 (sym read) fit in (by_both_parties n e 6 (sym read) refl fit f.0 f.1.0 f.1.1.0 f.1.1.1.0, rw (sym read))),
          (
            (λ read. let f = at_kind n e 7 (sym read) fit in (by_both_parties n e 7 (sym read) refl fit f.0 f.1.0 f.1.1.0 f.1.1.1.0, rw (sym read))),
            (
              (λ read. let f = at_kind n e 8 (sym read) fit in (by_server n e 8 (sym read) refl fit f.0 f.1.0 f.1.1.0 f.1.1.1.0, rw (sym read))),
              (
                (λ read. let f = at_kind n e 11 (sym read) fit in (by_server n e 11 (sym read) refl fit f.0 f.1.0 f.1.1.0 f.1.1.1.0, rw (sym read))),
                (
                  (λ read. let f = at_kind n e 12 (sym read) fit in (by_both_parties n e 12 (sym read) refl fit f.0 f.1.0 f.1.1.0 f.1.1.1.0, rw (sym read))),
                  (λ read. let f = at_kind n e 13 (sym read) fit in (by_both_parties n e 13 (sym read) refl fit f.0 f.1.0 f.1.1.0 f.1.1.1.0, rw (sym read))),
                ),
              ),
            ),
          ),
        ),
      ),
    ),
  )

-- ---- the first job

pub not_set_up : (t : List ℕ) (n : Counts) → every (size_tests n t) ≡ false → ◌≡◌ {A = Done} (record { number = 1; cells = t }) (set_up t n)
unfolding set_up set_up_number
not_set_up t n f = rw f

pub is_set_up : (t cells : List ℕ) (n : Counts) → every (size_tests n t) ≡ true → cells ≡ fresh_table n → ◌≡◌ {A = Done} (record { number = 0; cells = cells }) (set_up t n)
unfolding set_up set_up_number
is_set_up t cells n f e = rw f (ap (λ x. record { number = 0; cells = x }) e)
