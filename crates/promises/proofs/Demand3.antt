-- Demand 3: nobody is held in doubt, in the sense of promises' specs/Progress; and no vote is open then, in the paper's own words.
use mathlib.Core.Logic.{◌↔◌}
use mathlib.Core.Path.{◌≡◌, sym, ap, ap₂, subst, ◌∙◌}
use mathlib.Core.Bool.{not}
use mathlib.Core.List.{List, ◌++◌, map, map-append}
use Prim.Native.Nat.{ℕ}
use lib.Dec.{T}
use Rattle.masks.specs.Mask.{has}
use Rattle.protocol.specs.declared.Counts.{Counts}
use Rattle.protocol.specs.declared.Event.{Event as Record}
use Rattle.protocol.specs.Cells.{fresh, server_up, row, voted_yes, decided, known}
use Rattle.protocol.specs.Events.{Event, record_of, decide_arrives, ack_arrives, server_crashes}
use Rattle.protocol.specs.Numbers.{refusal}
use Rattle.protocol.specs.Machine as machine
use Rattle.protocol.specs.Agreement.{Id}
use Rattle.protocol.specs.Progress as plans
use Rattle.protocol.specs.Progress.{Open}
use Rattle.protocol.proofs.Records.{one_event}
use Rattle.protocol.proofs.Progress.{progress}
use Rattle.protocol.proofs.Acknowledged as acknowledged
use Rattle.protocol.proofs.Open as open-vote
use Rattle.table.specs.Table.{view, fresh_table}
use Rattle.table.specs.Jobs.{applied}
use Rattle.table.proofs.Runs.{record_does}
use Rattle.promises.specs.Lists.{Accepted, after}
use Rattle.promises.specs.Progress.{Never, Then, Remembers, Settled, Progress}
use Rattle.promises.proofs.Transfer.{from_fresh, both_from_fresh, progress_carries, remembers_carries, acknowledgement_carries}

-- for every list of records accepted whole from a fresh table
pub demand_3 : (n : Counts) (list : List Record) → Accepted (fresh_table n) list
    → Progress n (after (fresh_table n) list)
demand_3 n list accepted =
    let (events, stand) = from_fresh n list accepted in
    progress_carries n (after (fresh_table n) list) stand.table
    (subst (plans.Progress n) (sym stand.leads) (progress n events stand.accepts))

-- an acknowledgement is due as soon as its own decision has arrived (docs/DECISIONS.md, point 10): that of any server i that is up then, after anything
-- accepted but a crash of i; and i remembers it, so that it is none of those that `demand-3` still asks for behind the last decision
pub acknowledgement_due : (n : Counts) (list : List Record) → Accepted (fresh_table n) list → (c k i d : ℕ)
    → (let t = after (fresh_table n) list in
    let decide = record_of (decide_arrives c k i d) in
    (applied t decide).number ≡ 0 → view n t (server_up i) ≡ 1
    → Then (λ gap q. Never (server_crashes i) gap) (ack_arrives c k i d) (Remembers n c k i d) (applied t decide).cells)
acknowledgement_due n list accepted c k i d arrives up =
    let (events, stand) = from_fresh n list accepted in
    let t = after (fresh_table n) list in
    let e = decide_arrives c k i d in
    let (other, does) = record_does n t (record_of e) stand.table.counts arrives in
    let same = one_event other e does.same in
    let accepts = subst (λ s. refusal n s e ≡ 0) stand.leads (subst (λ x. refusal n (view n t) x ≡ 0) same does.accepts) in
    let leads = does.leads ∙ ap (machine.next n (view n t)) same ∙ ap (λ s. machine.next n s e) stand.leads in
    acknowledgement_carries n c k i d (applied t (record_of e)).cells does.table
    (subst (plans.Then n (λ gap q. plans.Never (server_crashes i) gap) (ack_arrives c k i d) (plans.Remembers n c k i d)) (sym leads)
    (acknowledged.acknowledgement_due n events stand.accepts c k i d accepts (subst (λ s. s (server_up i) ≡ 1) stand.leads up)))

-- whatever acknowledgement a server knows, it goes on knowing while it does not crash
pub acknowledgement_stays : (n : Counts) (list : List Record) → Accepted (fresh_table n) list → (c k i d : ℕ)
    → T (has (view n (after (fresh_table n) list) (row c k (known i))) d) → Remembers n c k i d (after (fresh_table n) list)
acknowledgement_stays n list accepted c k i d knows =
    let (events, stand) = from_fresh n list accepted in
    remembers_carries n c k i d (after (fresh_table n) list) stand.table
    (subst (plans.Remembers n c k i d) (sym stand.leads)
    (acknowledged.acknowledgement_stays n events stand.accepts c k i d (subst (λ s. T (has (s (row c k (known i))) d)) stand.leads knows)))

-- "a vote is open when it is yes and its database has not decided since it was cast": over the events that the list stands for, that is a yes
-- in the table whose database has not decided
pub open_votes : (n : Counts) (list : List Record) → Accepted (fresh_table n) list
    → (events : List Event) × (map record_of events ≡ list) × ((c k d : ℕ) → Open n c k d (fresh n) events
    ↔ (T (has (view n (after (fresh_table n) list) (row c k voted_yes)) d) × T (not (has (view n (after (fresh_table n) list) (row c k decided)) d))))
open_votes n list accepted =
    let (events, stand) = from_fresh n list accepted in (
      events,
      stand.same,
      λ c k d. subst (λ s. Open n c k d (fresh n) events ↔ (T (has (s (row c k voted_yes)) d) × T (not (has (s (row c k decided)) d))))
          (sym stand.leads) (open-vote.open_votes n c k d events stand.accepts),
    )

-- so once a list has settled a result, then and after whatever more is accepted, no vote on it is open
pub no_vote_open : (n : Counts) (c k : ℕ) (list more : List Record)
    → Accepted (fresh_table n) list → Accepted (after (fresh_table n) list) more → Settled n c k (after (after (fresh_table n) list) more)
    → (events : List Event) × (map record_of events ≡ list ++ more) × ((d : ℕ) → Id n.databases d → Open n c k d (fresh n) events → ⊥)
no_vote_open n c k list more accepted later settled =
    let (before, behind, stand) = both_from_fresh n list more accepted later in
    let there : plans.Settled n c k (view n (after (after (fresh_table n) list) more)) =
    record { decided_all = settled.decided_all; alike = settled.alike; none_open = settled.none_open } in (
      before ++ behind,
      map-append record_of before behind ∙ ap₂ {C = List Record} (λ x y. x ++ y) stand.first.same stand.same,
      open-vote.none_open_lem n c k before behind stand.first.accepts stand.accepts (subst (plans.Settled n c k) stand.leads there),
    )
