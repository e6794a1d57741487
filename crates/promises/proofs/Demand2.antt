-- Demand 2: the accepted events of a list do what the rules say, and what they lead to keeps the paper's A.1 to A.3, V.1 and V.2.
use mathlib.Core.Path.{◌≡◌, refl, sym, ap, ap₂, subst, ◌∙◌}
use mathlib.Core.List.{List, [], ◌∷◌, map, head-eq_of_cons-eq, tail-eq_of_cons-eq}
use mathlib.Core.Logic.{◌⊎◌}
use Prim.Native.Nat.{ℕ}
use lib.Dec.{T}
use lib.ListN.{length, get_or}
use Rattle.protocol.specs.declared.Counts.{Counts}
use Rattle.protocol.specs.declared.Event.{Event as Record}
use Rattle.protocol.specs.Cells.{Name, exists}
use Rattle.protocol.specs.Events.{Event, record_of}
use Rattle.protocol.specs.Rules.{rule}
use Rattle.protocol.specs.Machine.{next}
use Rattle.protocol.specs.Agreement.{Agreement}
use Rattle.protocol.specs.Touched.{MayChange}
use Rattle.protocol.specs.Finality.{Final}
use Rattle.protocol.proofs.Records.{one_event}
use Rattle.protocol.proofs.Agreement.{agreement}
use Rattle.protocol.proofs.Finality as final
use Rattle.table.specs.Layout.{place}
use Rattle.table.specs.Table.{counts_of, view, set_all, fresh_table}
use Rattle.table.specs.Jobs.{applied}
use Rattle.table.proofs.Runs.{record_does}
use Rattle.table.proofs.Changes.{changes}
use Rattle.table.proofs.View.{length_set_all}
use Rattle.promises.specs.Lists.{Accepted, after}
use Rattle.promises.proofs.Transfer.{from_fresh, both_from_fresh}

-- an accepted record is that of an event, and it leaves the cells with what the event's rule writes: as a state, what the machine goes to
pub accepted_does : (t : List ℕ) (r : Record) → (applied t r).number ≡ 0
    → (e : Event) × (record_of e ≡ r)
    × ((applied t r).cells ≡ set_all (counts_of t) t (rule (counts_of t) (view (counts_of t) t) e).writes)
    × (view (counts_of t) (applied t r).cells ≡ next (counts_of t) (view (counts_of t) t) e)
accepted_does t r accepted =
    let (e, does) = record_does (counts_of t) t r refl accepted in
    (e, does.same, does.writes, does.leads)

-- "only the row of one result and the party cells named below change at an event": there are as many cells, and each is as it was, or one of those
pub only_these_change : (t : List ℕ) (r : Record) → (applied t r).number ≡ 0
    → (e : Event) × (record_of e ≡ r)
    × (length (applied t r).cells ≡ length t)
    × ((p : ℕ) → (get_or (applied t r).cells p 0 ≡ get_or t p 0)
    ⊎ ((m : Name) × T (exists (counts_of t) m) × MayChange (view (counts_of t) t) e m × (p ≡ place (counts_of t) m)))
only_these_change t r accepted =
    let (e, does) = record_does (counts_of t) t r refl accepted in
    let writes = (rule (counts_of t) (view (counts_of t) t) e).writes in
    (e, does.same, ap length does.writes ∙ length_set_all (counts_of t) t writes, changes (counts_of t) t r e does)

-- a list of records stands for one list of events only
pub one_reading : (events others : List Event) → map record_of events ≡ map record_of others → events ≡ others
one_reading [] [] same = refl
one_reading [] (f ∷ others) same = cc
one_reading (e ∷ events) [] same = cc
one_reading (e ∷ events) (f ∷ others) same =
    ap₂ {C = List Event} (λ x xs. x ∷ xs) (one_event e f (head-eq_of_cons-eq same)) (one_reading events others (tail-eq_of_cons-eq same))

-- for every list of records accepted whole from a fresh table, over the events that the records stand for and the state of the table after it
pub demand_2 : (n : Counts) (list : List Record) → Accepted (fresh_table n) list
    → (events : List Event) × (map record_of events ≡ list) × Agreement n events (view n (after (fresh_table n) list))
demand_2 n list accepted =
    let (events, stands) = from_fresh n list accepted in
    (events, stands.same, subst (Agreement n events) (sym stands.leads) (agreement n events stands.accepts))

-- and what such a list has decided is final: it stays so over every accepted continuation of the list
pub finality : (n : Counts) (list more : List Record) → Accepted (fresh_table n) list → Accepted (after (fresh_table n) list) more
    → Final (view n (after (fresh_table n) list)) (view n (after (after (fresh_table n) list) more))
finality n list more accepted later =
    let (before, behind, stand) = both_from_fresh n list more accepted later in
    rw (stand.first.leads, stand.leads) (final.finality n before behind stand.first.accepts stand.accepts)
