-- From the machine to tables: what is said of events and states, said of records and of the tables that hold those states.
use mathlib.Core.Path.{◌≡◌, sym, ap, subst, ◌∙◌}
use mathlib.Core.List.{List, [], ◌∷◌, map}
use Prim.Native.Nat.{ℕ}
use lib.Dec.{T}
use Rattle.masks.specs.Mask.{has}
use Rattle.protocol.specs.declared.Counts.{Counts}
use Rattle.protocol.specs.declared.Event.{Event as Record}
use Rattle.protocol.specs.Cells.{Name, State, fresh, client_up, database_up, phase, attempt, row, owner, known}
use Rattle.protocol.specs.Events.{Event, record_of, suspect, trust, clean, decide_arrives, ack_arrives, result_arrives, server_crashes}
use Rattle.protocol.specs.Numbers.{refusal}
use Rattle.protocol.specs.Machine as machines
use Rattle.protocol.specs.Machine.{next}
use Rattle.protocol.specs.Progress as machine
use Rattle.table.specs.Table.{view, fresh_table}
use Rattle.table.specs.Jobs.{applied}
use Rattle.table.proofs.Fresh.{fresh_counts, fresh_view}
use Rattle.table.proofs.Runs.{TableOf, event_does, Stands, stands}
use Rattle.promises.specs.Lists.{Accepted, after}
use Rattle.promises.specs.Progress.{Never, Then, ThenEach, Remembers, Settled, Freed, Decided, Progress}

-- the events that a list accepted from a fresh table stands for
pub from_fresh : (n : Counts) (list : List Record) → Accepted (fresh_table n) list
    → (events : List Event) × Stands n (fresh n) list (after (fresh_table n) list) events
from_fresh n list accepted =
    subst (λ s. (events : List Event) × Stands n s list (after (fresh_table n) list) events) (fresh_view n)
    (stands n list (fresh_table n) (fresh_counts n) accepted)

-- and those of a list accepted from the table that it leaves
pub record StandBoth (n : Counts) (list more : List Record) (before behind : List Event) : Type 0 where
  pub first : Stands n (fresh n) list (after (fresh_table n) list) before
  pub same : map record_of behind ≡ more
  pub accepts : machines.Accepted n (machines.run n (fresh n) before) behind
  pub leads : view n (after (after (fresh_table n) list) more) ≡ machines.run n (machines.run n (fresh n) before) behind

pub both_from_fresh : (n : Counts) (list more : List Record) → Accepted (fresh_table n) list → Accepted (after (fresh_table n) list) more
    → (before behind : List Event) × StandBoth n list more before behind
both_from_fresh n list more accepted later =
    let (before, first) = from_fresh n list accepted in
    let (behind, second) = stands n more (after (fresh_table n) list) first.table.counts later in (
      before,
      behind,
      record {
        first = first;
        same = second.same;
        accepts = subst (λ s. machines.Accepted n s behind) first.leads second.accepts;
        leads = second.leads ∙ ap (λ s. machines.run n s behind) first.leads;
      },
    )

-- ---- plans: each part of one, as it is said of the machine and of tables, and the way from the first to the second

module _ (n : Counts) where
  record Proviso : Type 1 where
    of_events : List Event → State → Type 0
    of_records : List Record → List ℕ → Type 0
    says : (events : List Event) (t : List ℕ) → of_records (map record_of events) t → of_events events (view n t)

  record Goal : Type 1 where
    of_state : State → Type 0
    of_table : List ℕ → Type 0
    carries : (t : List ℕ) → TableOf n t → of_state (view n t) → of_table t

  then_carries : (p : Proviso) (e : Event) (g : Goal) (t : List ℕ) → TableOf n t
      → machine.Then n p.of_events e g.of_state (view n t) → Then p.of_records e g.of_table t
  then_carries p e g t table plan gap accepted proviso =
      let q = after t gap in
      let (events, there) = stands n gap t table.counts accepted in
      let met = p.says events q (subst (λ list. p.of_records list q) (sym there.same) proviso) in
      let (takes, reached) = plan events there.accepts (subst (p.of_events events) there.leads met) in
      let (number, does) = event_does n q e there.table (subst (λ s. refusal n s e ≡ 0) (sym there.leads) takes) in
      let leads = does.leads ∙ ap (λ s. next n s e) there.leads in
      (number, g.carries (applied q (record_of e)).cells does.table (subst g.of_state (sym leads) reached))

  each_carries : (p : ℕ → Proviso) (event : ℕ → Event) (g : Goal) (ds : List ℕ) (t : List ℕ) → TableOf n t
      → machine.ThenEach n (λ d. (p d).of_events) event ds g.of_state (view n t) → ThenEach (λ d. (p d).of_records) event ds g.of_table t
  each_carries p event g [] = g.carries
  each_carries p event g (d ∷ ds) = then_carries (p d) (event d) record {
    of_state = machine.ThenEach n (λ d. (p d).of_events) event ds g.of_state;
    of_table = ThenEach (λ d. (p d).of_records) event ds g.of_table;
    carries = each_carries p event g ds;
  }

  abbrev and_then : Proviso → Event → Goal → Goal
  and_then p e g = record {
    of_state = machine.Then n p.of_events e g.of_state;
    of_table = Then p.of_records e g.of_table;
    carries = then_carries p e g;
  }

  abbrev and_each : (ℕ → Proviso) → (ℕ → Event) → List ℕ → Goal → Goal
  and_each p event ds g = record {
    of_state = machine.ThenEach n (λ d. (p d).of_events) event ds g.of_state;
    of_table = ThenEach (λ d. (p d).of_records) event ds g.of_table;
    carries = each_carries p event g ds;
  }

  -- ---- the provisos

  never : (e : Event) (events : List Event) → Never e (map record_of events) → machine.Never e events
  never e [] absent = tt
  never e (x ∷ events) absent = (λ same. absent.0 (ap record_of same), never e events absent.1)

  abbrev without : Event → Proviso
  without e = record { of_events = λ gap q. machine.Never e gap; of_records = λ gap q. Never e gap; says = λ events t. never e events }

  abbrev without_both : Event → Event → Proviso
  without_both e f = record {
    of_events = λ gap q. machine.Never e gap × machine.Never f gap;
    of_records = λ gap q. Never e gap × Never f gap;
    says = λ events t absent. (never e events absent.0, never f events absent.1);
  }

  abbrev is_up : Name → Proviso
  is_up m = record { of_events = λ gap q. q m ≡ 1; of_records = λ gap q. view n q m ≡ 1; says = λ events t up. up }

  -- ---- what the plan leads to

  module _ (c k : ℕ) where
    settled : (t : List ℕ) → machine.Settled n c k (view n t) → Settled n c k t
    settled t s = record { decided_all = s.decided_all; alike = s.alike; none_open = s.none_open }

    abbrev freed : Goal
    freed = record {
      of_state = machine.Freed n c k;
      of_table = Freed n c k;
      carries = λ t table free more accepted waits.
          let (events, there) = stands n more t table.counts accepted in
          free events there.accepts (subst (λ s. (s (phase c) ≡ 1) × (s (attempt c) ≡ k)) there.leads waits);
    }

    abbrev decides : ℕ → Goal
    decides i = record {
      of_state = machine.Decided n c k i;
      of_table = Decided n c k i;
      carries = λ t table decided. record {
        for_good = λ more accepted.
            let (events, there) = stands n more t table.counts accepted in
            settled (after t more) (subst (machine.Settled n c k) (sym there.leads) (decided.for_good events there.accepts));
        answered = λ up ds covers.
            (and_each (λ d. without (server_crashes i)) (ack_arrives c k i) ds (and_then (is_up (client_up c)) (result_arrives c k i) freed)
            ).carries t table (decided.answered up ds covers);
      };
    }

  pub progress_carries : (t : List ℕ) → TableOf n t → machine.Progress n (view n t) → Progress n t
  progress_carries t table progress c k i is-client is-attempt is-server owned other up ds covers =
      (and_then (without (server_crashes i)) (suspect i (view n t (row c k owner)))
      (and_then (without_both (server_crashes i) (trust i (view n t (row c k owner)))) (clean c k i)
      (and_each (λ d. is_up (database_up d)) (decide_arrives c k i) ds (decides c k i)))
      ).carries t table (progress c k i is-client is-attempt is-server owned other up ds covers)

  -- an acknowledgement that is due, and then remembered
  abbrev remembers : (c k i d : ℕ) → Goal
  remembers c k i d = record {
    of_state = machine.Remembers n c k i d;
    of_table = Remembers n c k i d;
    carries = λ t table knows more accepted uncrashed.
        let (events, there) = stands n more t table.counts accepted in
        let still = knows events there.accepts (never (server_crashes i) events (subst (Never (server_crashes i)) (sym there.same) uncrashed)) in
        subst (λ s. T (has (s (row c k (known i))) d)) (sym there.leads) still;
  }

  pub remembers_carries : (c k i d : ℕ) (t : List ℕ) → TableOf n t → machine.Remembers n c k i d (view n t) → Remembers n c k i d t
  remembers_carries c k i d = (remembers c k i d).carries

  pub acknowledgement_carries : (c k i d : ℕ) (t : List ℕ) → TableOf n t
      → machine.Then n (λ gap q. machine.Never (server_crashes i) gap) (ack_arrives c k i d) (machine.Remembers n c k i d) (view n t)
      → Then (λ gap q. Never (server_crashes i) gap) (ack_arrives c k i d) (Remembers n c k i d) t
  acknowledgement_carries c k i d = (and_then (without (server_crashes i)) (ack_arrives c k i d) (remembers c k i d)).carries
