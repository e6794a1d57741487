-- Lists of records: the events that accepted ones stand for, the longest accepted start, and one list after another.
use mathlib.Core.Logic.{◌↔◌}
use mathlib.Core.Path.{◌≡◌, refl, sym, ap, ap₂, subst, ◌∙◌}
use mathlib.Core.List.{List, [], ◌∷◌, ◌++◌, map}
use mathlib.Core.Option.{some, none-ne-some, some-injective}
use Prim.Native.Nat.{ℕ, zero, suc, ◌+◌, ◌≤◌, ◌<◌}
use native.Mathlib.Nat.{zero-add, suc-add}
use native.Mathlib.Omega.{arith}
use borrow.Author.Tests.{ne_eqb}
use lib.ListN.{length, take, get_elem?}
use Rattle.lists.specs.Tests.{All}
use Rattle.lists.proofs.Choice.{by_eq}
use Rattle.protocol.specs.declared.Counts.{Counts}
use Rattle.protocol.specs.declared.Event.{Event as Record}
use Rattle.protocol.specs.Cells.{State}
use Rattle.protocol.specs.Events.{Event, record_of}
use Rattle.protocol.specs.Rules.{rule}
use Rattle.protocol.specs.Numbers.{field_tests, refusal}
use Rattle.protocol.specs.Machine.{next, run, Accepted}
use Rattle.protocol.proofs.Acceptance.{met}
use Rattle.protocol.proofs.Records.{event_record, event_of_lem}
use Rattle.table.specs.Table.{counts_of, view, set_all}
use Rattle.table.specs.Jobs.{table_number, number_of, after, applied, Ran, one_more, stopped, run_from, ran}
use Rattle.table.proofs.Accepts.{table_sound, sound_table, Accepts, accepts, accepted}
use Rattle.table.proofs.Bridge.{event_of, exist, after_writes, after_view, after_counts}
use Rattle.table.proofs.View.{Exist}
use Rattle.table.proofs.Soundness.{sound_kept}

-- a sound table of a setup
pub record TableOf (n : Counts) (t : List ℕ) : Type 0 where
  pub counts : counts_of t ≡ n
  pub sound : table_number t ≡ 0

-- ---- one record

-- what an accepted record does: it is the record of an event that the machine accepts, and both go the same way
pub record Does (n : Counts) (t : List ℕ) (r : Record) (e : Event) : Type 0 where
  pub same : record_of e ≡ r
  pub accepts : refusal n (view n t) e ≡ 0
  pub writes : (applied t r).cells ≡ set_all n t (rule n (view n t) e).writes
  pub real : Exist n (rule n (view n t) e).writes
  pub leads : view n (applied t r).cells ≡ next n (view n t) e
  pub table : TableOf n (applied t r).cells

applied_after : (t : List ℕ) (r : Record) → (applied t r).number ≡ 0 → (applied t r).cells ≡ after (counts_of t) t r
unfolding applied
applied_after t r z = rw z refl

does : (t : List ℕ) (r : Record) (a : Accepts t r) → Does (counts_of t) t r (event_of t r a)
unfolding applied
does t r a =
    let z = accepted t r a in
    let cells = applied_after t r z in
    record {
      same = event_record (counts_of t) r a.reading.kind a.reading.line a.reading.fields;
      accepts = a.reading.accepted;
      writes = cells ∙ after_writes t r a;
      real = exist t r a;
      leads = ap (view (counts_of t)) cells ∙ after_view t r a;
      table = record { counts = ap counts_of cells ∙ after_counts t r a; sound = sound_kept t r z };
    }

pub record_does : (n : Counts) (t : List ℕ) (r : Record) → counts_of t ≡ n → (applied t r).number ≡ 0 → (e : Event) × Does n t r e
unfolding applied
record_does n t r counts z =
    let a = accepts t r z in
    (event_of t r a, subst (λ m. Does m t r (event_of t r a)) counts (does t r a))

pub event_does : (n : Counts) (t : List ℕ) (e : Event) → TableOf n t → refusal n (view n t) e ≡ 0
    → ((applied t (record_of e)).number ≡ 0) × Does n t (record_of e) e
unfolding applied
event_does n t e table =
    subst (λ m. refusal m (view m t) e ≡ 0 → ((applied t (record_of e)).number ≡ 0) × Does m t (record_of e) e) table.counts here
  where
    here : refusal (counts_of t) (view (counts_of t) t) e ≡ 0 → ((applied t (record_of e)).number ≡ 0) × Does (counts_of t) t (record_of e) e
    here z =
        let (kind, line, reads) = event_of_lem e in
        let a : Accepts t (record_of e) = record {
          sound = table_sound t table.sound;
          reading = record {
            kind = kind;
            line = line;
            fields = subst (λ k. All (field_tests (counts_of t) k (record_of e))) line (met (counts_of t) (view (counts_of t) t) e z).fit;
            accepted = subst (λ x. refusal (counts_of t) (view (counts_of t) t) x ≡ 0) (sym reads) z;
          };
        } in
        (accepted t (record_of e) a, subst (Does (counts_of t) t (record_of e)) reads (does t (record_of e) a))

-- ---- the list job, by its first record

pub ran_unsound : (t : List ℕ) (rs : List Record) → (table_number t ≡ 0 → ⊥) → ran t rs ≡ stopped (table_number t) t
unfolding ran
ran_unsound t rs unsound = rw (ne_eqb (table_number t) 0 unsound) refl

pub ran_empty : (t : List ℕ) → ran t [] ≡ stopped (table_number t) t
unfolding ran run_from
ran_empty t = by_eq (table_number t) 0 (λ z. rw z refl) (ran_unsound t [])

-- once 1 and 2 are asked
pub ran_from : (t : List ℕ) (rs : List Record) → table_number t ≡ 0 → ran t rs ≡ run_from t rs
unfolding ran
ran_from t rs z = rw z refl

module _ (t : List ℕ) (r : Record) (rs : List Record) where
  pub from_accepted : (applied t r).number ≡ 0 → run_from t (r ∷ rs) ≡ one_more (run_from (applied t r).cells rs)
  unfolding run_from
  from_accepted z = rw z refl

  pub from_refused : ((applied t r).number ≡ 0 → ⊥) → run_from t (r ∷ rs) ≡ stopped (applied t r).number t
  unfolding run_from
  from_refused refused = rw (ne_eqb (applied t r).number 0 refused) refl

  unsound_number : (table_number t ≡ 0 → ⊥) → table_number t ≡ (applied t r).number
  unfolding applied number_of
  unsound_number unsound = rw (ne_eqb (table_number t) 0 unsound) refl

  pub ran_accepted : (applied t r).number ≡ 0 → ran t (r ∷ rs) ≡ one_more (ran (applied t r).cells rs)
  unfolding applied
  ran_accepted z =
      ran_from t (r ∷ rs) (sound_table t (accepts t r z).sound)
      ∙ from_accepted z
      ∙ ap one_more (sym (ran_from (applied t r).cells rs (sound_kept t r z)))

  pub ran_refused : ((applied t r).number ≡ 0 → ⊥) → ran t (r ∷ rs) ≡ stopped (applied t r).number t
  ran_refused refused =
      by_eq (table_number t) 0
      (λ z. ran_from t (r ∷ rs) z ∙ from_refused refused)
      (λ unsound. ran_unsound t (r ∷ rs) unsound ∙ ap (λ number. stopped number t) (unsound_number unsound))

-- to show something of a list's run, show it of the empty list, of a first record that is accepted and of one that is refused
module _ (P : List ℕ → List Record → Ran → Type 0)
    (end : (t : List ℕ) → P t [] (stopped (table_number t) t))
    (goes_on : (t : List ℕ) (r : Record) (rs : List Record) → (applied t r).number ≡ 0
    → P (applied t r).cells rs (ran (applied t r).cells rs) → P t (r ∷ rs) (one_more (ran (applied t r).cells rs)))
    (stops : (t : List ℕ) (r : Record) (rs : List Record) → ((applied t r).number ≡ 0 → ⊥) → P t (r ∷ rs) (stopped (applied t r).number t)) where
  by_run : (rs : List Record) (t : List ℕ) → P t rs (ran t rs)
  by_run [] t = subst (P t []) (sym (ran_empty t)) (end t)
  by_run (r ∷ rs) t =
      by_eq (applied t r).number 0
      (λ z. subst (P t (r ∷ rs)) (sym (ran_accepted t r rs z)) (goes_on t r rs z (by_run rs (applied t r).cells)))
      (λ refused. subst (P t (r ∷ rs)) (sym (ran_refused t r rs refused)) (stops t r rs refused))

-- ---- the events that accepted records stand for

-- from a state on: the machine accepts them too, and goes to the state of the table that the records leave
pub record Stands (n : Counts) (s : State) (rs : List Record) (end : List ℕ) (events : List Event) : Type 0 where
  pub same : map record_of events ≡ rs
  pub accepts : Accepted n s events
  pub leads : view n end ≡ run n s events
  pub table : TableOf n end

pub stands : (n : Counts) (rs : List Record) (t : List ℕ) → counts_of t ≡ n → (ran t rs).refusal ≡ 0
    → (events : List Event) × Stands n (view n t) rs (ran t rs).cells events
unfolding run
stands n =
    by_run (λ t rs ends. counts_of t ≡ n → ends.refusal ≡ 0 → (events : List Event) × Stands n (view n t) rs ends.cells events)
    (λ t counts z. ([], record { same = refl; accepts = tt; leads = refl; table = record { counts = counts; sound = z } }))
    (λ t r rs accepted rest counts z.
    let (e, first) = record_does n t r counts accepted in
    let (events, others) = rest first.table.counts z in (
      e ∷ events,
      record {
        same = ap₂ {C = List Record} (λ x xs. x ∷ xs) first.same others.same;
        accepts = (first.accepts, subst (λ s. Accepted n s events) first.leads others.accepts);
        leads = others.leads ∙ ap (λ s. run n s events) first.leads;
        table = others.table;
      },
    ))
    (λ t r rs refused counts z. absurd (refused z))

-- ---- the longest accepted start

pub record Longest (t : List ℕ) (rs : List Record) (ends : Ran) : Type 0 where
  pub inside : ends.accepted ≤ length rs
  -- every start up to it is accepted, and no longer one is
  pub starts : (k : ℕ) → k ≤ ends.accepted → (ran t (take k rs)).refusal ≡ 0
  pub longer : (k : ℕ) → ends.accepted < k → k ≤ length rs → (ran t (take k rs)).refusal ≡ 0 → ⊥
  -- what is left is what the accepted records made
  pub made : ends.cells ≡ (ran t (take ends.accepted rs)).cells
  pub whole : (ends.refusal ≡ 0) ↔ (ends.accepted ≡ length rs)
  -- the refusal is that of the record behind them
  pub refuses : (r : Record) → get_elem? rs ends.accepted ≡ some r → ends.refusal ≡ (applied ends.cells r).number

module _ (t : List ℕ) (sound : table_number t ≡ 0) where
  none_accepted : (rs : List Record) (k : ℕ) → k ≤ 0 → (ran t (take k rs)).refusal ≡ 0
  none_accepted rs zero low = ap (λ ends. ends.refusal) (ran_empty t) ∙ sound
  none_accepted rs (suc k) low = absurd (omega arith)

  longest_empty : Longest t [] (stopped (table_number t) t)
  longest_empty = record {
    inside = omega arith;
    starts = none_accepted [];
    longer = λ k more high z. omega arith;
    made = sym (ap (λ ends. ends.cells) (ran_empty t));
    whole = (λ z. refl, λ e. sound);
    refuses = λ x at. absurd (none-ne-some x at);
  }

  module _ (r : Record) (rs : List Record) where
    longest_accepted : (applied t r).number ≡ 0 → Longest (applied t r).cells rs (ran (applied t r).cells rs)
        → Longest t (r ∷ rs) (one_more (ran (applied t r).cells rs))
    longest_accepted z rest = record {
      inside = omega (arith, rest.inside);
      starts = starts;
      longer = longer;
      made = rest.made ∙ sym (ap (λ ends. ends.cells) (ran_accepted t r (take (ran (applied t r).cells rs).accepted rs) z));
      whole = (λ e. ap suc (rest.whole.0 e), λ e. rest.whole.1 (omega arith));
      refuses = rest.refuses;
    }
      where
        starts : (k : ℕ) → k ≤ suc (ran (applied t r).cells rs).accepted → (ran t (take k (r ∷ rs))).refusal ≡ 0
        starts zero low = none_accepted rs 0 (omega arith)
        starts (suc k) low = ap (λ ends. ends.refusal) (ran_accepted t r (take k rs) z) ∙ rest.starts k (omega arith)

        longer : (k : ℕ) → suc (ran (applied t r).cells rs).accepted < k → k ≤ suc (length rs) → (ran t (take k (r ∷ rs))).refusal ≡ 0 → ⊥
        longer zero more high e = omega arith
        longer (suc k) more high e =
            rest.longer k (omega arith) (omega arith) (sym (ap (λ ends. ends.refusal) (ran_accepted t r (take k rs) z)) ∙ e)

    longest_refused : ((applied t r).number ≡ 0 → ⊥) → Longest t (r ∷ rs) (stopped (applied t r).number t)
    longest_refused refused = record {
      inside = omega arith;
      starts = none_accepted (r ∷ rs);
      longer = longer;
      made = sym (ap (λ ends. ends.cells) (ran_empty t));
      whole = (λ z. absurd (refused z), λ e. absurd (omega arith));
      refuses = λ x at. ap (λ y. (applied t y).number) (some-injective r x at);
    }
      where
        longer : (k : ℕ) → 0 < k → k ≤ suc (length rs) → (ran t (take k (r ∷ rs))).refusal ≡ 0 → ⊥
        longer zero more high e = omega arith
        longer (suc k) more high e = refused (sym (ap (λ ends. ends.refusal) (ran_refused t r (take k rs) refused)) ∙ e)

pub longest : (rs : List Record) (t : List ℕ) → table_number t ≡ 0 → Longest t rs (ran t rs)
unfolding applied
longest =
    by_run (λ t rs ends. table_number t ≡ 0 → Longest t rs ends) longest_empty
    (λ t r rs z rest sound. longest_accepted t sound r rs z (rest (sound_kept t r z)))
    (λ t r rs refused sound. longest_refused t sound r rs refused)

-- ---- one list after another

abbrev pub counting : ℕ → Ran → Ran
counting k ends = record { accepted = k; refusal = ends.refusal; cells = ends.cells }

pub ran_append : (more rs : List Record) (t : List ℕ) → (ran t rs).refusal ≡ 0
    → ran t (rs ++ more) ≡ counting (length rs + (ran (ran t rs).cells more).accepted) (ran (ran t rs).cells more)
ran_append more =
    by_run (λ t rs ends. ends.refusal ≡ 0 → ran t (rs ++ more) ≡ counting (length rs + (ran ends.cells more).accepted) (ran ends.cells more))
    (λ t z. ap (λ k. counting k (ran t more)) (sym (zero-add (ran t more).accepted)))
    (λ t r rs accepted rest z.
    let ends = ran (ran (applied t r).cells rs).cells more in
    ran_accepted t r (rs ++ more) accepted ∙ ap one_more (rest z) ∙ ap (λ k. counting k ends) (sym (suc-add (length rs) ends.accepted)))
    (λ t r rs refused z. absurd (refused z))
