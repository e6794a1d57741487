-- Demand 3, beside the plan: an acknowledgement is due as soon as its own decision has arrived, and stays known.
use mathlib.Core.List.{List}
use mathlib.Core.Path.{◌≡◌}
use Prim.Native.Nat.{ℕ}
use lib.Dec.{T}
use Rattle.lists.proofs.Choice.{inside_low}
use Rattle.masks.specs.Mask.{has}
use Rattle.protocol.specs.declared.Counts.{Counts}
use Rattle.protocol.specs.Cells.{State, fresh, server_up, row, known}
use Rattle.protocol.specs.Events.{Event, decide_arrives, ack_arrives, server_crashes}
use Rattle.protocol.specs.Numbers.{refusal}
use Rattle.protocol.specs.Machine.{next, run, Accepted, Met}
use Rattle.protocol.specs.Progress.{Never, Then, Remembers}
use Rattle.protocol.proofs.Tests.{equal, inside_id}
use Rattle.protocol.proofs.Acceptance.{met, meets}
use Rattle.protocol.proofs.RowSteps.{Rows}
use Rattle.protocol.proofs.Clients.{Clients}
use Rattle.protocol.proofs.Agreement.{reached_fresh}
use Rattle.protocol.proofs.Later.{since_step, since_run, up_run}
use Rattle.protocol.proofs.Progress.{obeyed_now, knows_now}

-- what a server knows it goes on knowing
remembers : (n : Counts) (c k i d : ℕ) (s : State) → Rows n s → Clients n s → T (has (s (row c k (known i))) d) → Remembers n c k i d s
remembers n c k i d s rows clients knows more accepted uncrashed = ((since_run n s rows clients more accepted).grown c k).grow_known i d knows

pub acknowledgement_stays : (n : Counts) (list : List Event) → Accepted n (fresh n) list → (c k i d : ℕ)
    → T (has (run n (fresh n) list (row c k (known i))) d) → Remembers n c k i d (run n (fresh n) list)
acknowledgement_stays n list accepted c k i d =
    let since = since_run n (fresh n) (reached_fresh n).rows (reached_fresh n).clients list accepted in
    remembers n c k i d (run n (fresh n) list) since.rows since.clients

-- the decision of any server i that is up then, also of the owner: after anything accepted but a crash of i its acknowledgement is accepted, and i remembers it
pub acknowledgement_due : (n : Counts) (list : List Event) → Accepted n (fresh n) list → (c k i d : ℕ)
    → refusal n (run n (fresh n) list) (decide_arrives c k i d) ≡ 0 → run n (fresh n) list (server_up i) ≡ 1
    → Then n (λ gap q. Never (server_crashes i) gap) (ack_arrives c k i d) (Remembers n c k i d) (next n (run n (fresh n) list) (decide_arrives c k i d))
unfolding next
acknowledgement_due n list accepted c k i d arrives up gap later uncrashed =
    let e = decide_arrives c k i d in
    let s = run n (fresh n) list in
    let there : Met n s e = met n s e arrives in
    let first = since_step n (fresh n) s e there (since_run n (fresh n) (reached_fresh n).rows (reached_fresh n).clients list accepted) in
    let since = since_run n (next n s e) first.rows first.clients gap later in
    let q = run n (next n s e) gap in
    let database = inside_low n.databases d there.fit.1.1.1.0 in
    let is-client = inside_id n.clients c there.fit.0 in
    let is-attempt = inside_id n.attempts k there.fit.1.0 in
    let is-server = inside_id n.servers i there.fit.1.1.0 in
    let m : Met n q (ack_arrives c k i d) = record {
      fit = there.fit;
      live = (equal (q (server_up i)) 1 (up_run n i gap (next n s e) uncrashed up), tt);
      post = ((since.grown c k).grow_acked i d (obeyed_now n c k i is-client is-attempt is-server s d database).1, tt);
      must = tt;
    } in
    let arrived = since_step n (next n s e) q (ack_arrives c k i d) m since in (
      meets n q (ack_arrives c k i d) m,
      remembers n c k i d (next n q (ack_arrives c k i d)) arrived.rows arrived.clients (knows_now n c k i is-client is-attempt is-server q d database),
    )
