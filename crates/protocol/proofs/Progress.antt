-- Demand 3: after any gap each event of the plan is accepted, and the plan leaves the result settled for good and its client freed.
-- The plan is shown from its last event to its first.
use mathlib.Core.Bool.{not, cond}
use mathlib.Core.List.{List}
use mathlib.Core.Path.{◌≡◌, refl, sym, ◌∙◌}
use Prim.Native.Nat.{ℕ, ◌≤◌, ◌<◌}
use native.Mathlib.Omega.{arith}
use borrow.Author.Tests.{eq-eqb}
use lib.Dec.{T, eqb, lt→ltb, T_not}
use Rattle.lists.specs.Tests.{inside}
use Rattle.lists.proofs.Choice.{by_cond, not_not}
use Rattle.masks.specs.Mask.{has, with}
use Rattle.masks.proofs.Laws.{has_has_all, mark}
use Rattle.std.specs.Prelude.{Some}
use Rattle.registers.specs.declared.Decision.TheVariants.{Abort}
use Rattle.registers.proofs.Laws.{offer_elim}
use Rattle.protocol.specs.declared.Counts.{Counts}
use Rattle.protocol.specs.Cells.{State, row_of, fresh, server_up, suspects, database_up, client_up, row}
use Rattle.protocol.specs.Cells.{owner, outcome, value, terminating, decided, acked, known}
use Rattle.protocol.specs.Events.{Event, suspect, trust, clean, decide_arrives, ack_arrives, result_arrives, server_crashes}
use Rattle.protocol.specs.Rules.{clean_rule, decide_rule, ack_rule}
use Rattle.protocol.specs.Machine.{next, run, Accepted, Met}
use Rattle.protocol.specs.Agreement.{Id}
use Rattle.protocol.specs.Progress.{Never, Covers, Completes, Then, ThenEach, Settled, Freed, Decided, Progress}
use Rattle.protocol.proofs.Tests.{◌and◌, equal, unequal, id_inside}
use Rattle.protocol.proofs.Store.{at_row}
use Rattle.protocol.proofs.Acceptance.{meets}
use Rattle.protocol.proofs.Rows.{Everyone, alike}
use Rattle.protocol.proofs.RowSteps.{Rows}
use Rattle.protocol.proofs.Clients.{Clients, owned_reached}
use Rattle.protocol.proofs.Agreement.{reached_fresh}
use Rattle.protocol.proofs.Later.{Since, since_step, since_run, result_past, past_freed, up_run, suspects_run}
use Rattle.protocol.proofs.Plan.{Advance, then_rest, then_each}

-- a party put into the mask of server i
mark_at : (mask i party : ℕ) → 1 ≤ party → T (has (cond (eqb i i) (with mask party) mask) party)
mark_at mask i party low = rw (eq-eqb i i refl) (mark mask party low)

module _ (n : Counts) (c k i : ℕ) (is-client : Id n.clients c) (is-attempt : Id n.attempts k) (is-server : Id n.servers i) where
  -- the fields of an event that names the client, the attempt and the server
  named : {Rest : Type 0} → Rest → T (inside n.clients c) × (T (inside n.attempts k) × (T (inside n.servers i) × Rest))
  named rest = id_inside n.clients c is-client and id_inside n.attempts k is-attempt and id_inside n.servers i is-server and rest

  -- ---- what lasts from the cleaning on

  record Cleaned (s : State) : Type 0 where
    rows : Rows n s
    clients : Clients n s
    owned : 0 < s (row c k owner)
    -- the register holds a decision, and server i sends it
    ruled : 0 < s (row c k outcome)
    sender : T (has (s (row c k terminating)) i)

  cleaned_since : (s q : State) → Cleaned s → Since n s q → Cleaned q
  cleaned_since s q cleaned since = let grown = since.grown c k in record {
    rows = since.rows;
    clients = since.clients;
    owned = rw (grown.same_owner cleaned.owned) cleaned.owned;
    ruled = rw (grown.same_outcome cleaned.ruled) cleaned.ruled;
    sender = grown.grow_terminating i cleaned.sender;
  }

  after : (s : State) → Cleaned s → (gap : List Event) → Accepted n s gap → Since n s (run n s gap)
  after s cleaned = since_run n s cleaned.rows cleaned.clients

  -- ---- the result

  abbrev Result : State → Type 0
  Result = Then n (λ gap q. q (client_up c) ≡ 1) (result_arrives c k i) (Freed n c k)

  result : (s : State) → Cleaned s → Everyone n (s (row c k (known i))) → Result s
  result s cleaned knows gap accepted up =
      let e = result_arrives c k i in
      let q = run n s gap in
      let since = after s cleaned gap accepted in
      let still = cleaned_since s q cleaned since in
      let all_Known = has_has_all n.databases (q (row c k (known i))) (λ d low high. (since.grown c k).grow_known i d (knows d (low, high))) in
      let m : Met n q e = record {
        fit = named (tt and tt and tt);
        live = (equal (q (client_up c)) 1 up, tt);
        post = lt→ltb 0 (q (row c k outcome)) still.ruled and all_Known and tt;
        must = tt;
      } in
      let at = owned_reached n q still.rows still.clients c k is-attempt.0 still.owned in
      (meets n q e m, past_freed n c k (next n q e) (result_past n c k q i at.0 at.1))

  -- ---- the acknowledgements

  -- every database has acknowledged the decision to server i, which is up
  record Acked (s : State) : Type 0 where
    cleaned : Cleaned s
    up : s (server_up i) ≡ 1
    acks : Everyone n (s (row c k (acked i)))

  abbrev pub Knows : State → ℕ → Type 0
  Knows s d = T (has (s (row c k (known i))) d)

  pub knows_now : (s : State) (d : ℕ) → 1 ≤ d → Knows (next n s (ack_arrives c k i d)) d
  unfolding next
  knows_now s d low = at_row (λ r. T (has (r (known i)) d)) s c k (ack_rule i d (row_of s c k)).writes (mark_at (s (row c k (known i))) i d low)

  acknowledge : (s : State) → Acked s → (d : ℕ) → Id n.databases d → (gap : List Event) → Accepted n s gap → Never (server_crashes i) gap
      → Advance n (ack_arrives c k i) Acked Knows s (run n s gap) d
  unfolding next
  acknowledge s state d database gap accepted uncrashed =
      let e = ack_arrives c k i d in
      let q = run n s gap in
      let before = after s state.cleaned gap accepted in
      let up = up_run n i gap s uncrashed state.up in
      let m : Met n q e = record {
        fit = named (id_inside n.databases d database and tt and tt);
        live = (equal (q (server_up i)) 1 up, tt);
        post = ((before.grown c k).grow_acked i d (state.acks d database), tt);
        must = tt;
      } in
      let since = since_step n s q e m before in
      let grown = since.grown c k in
      record {
        accepted = meets n q e m;
        holds = record {
          cleaned = cleaned_since s (next n q e) state.cleaned since;
          up = up;
          acks = λ x range. grown.grow_acked i x (state.acks x range);
        };
        done = knows_now q d database.0;
        stay = grown.grow_known i;
      }

  acknowledges : (s : State) → Acked s → (ds : List ℕ) → Completes n.databases (s (row c k (known i))) ds
      → ThenEach n (λ d gap q. Never (server_crashes i) gap) (ack_arrives c k i) ds Result s
  acknowledges s state ds completes =
      then_rest n (λ d gap q. Never (server_crashes i) gap) (ack_arrives c k i) Result Acked Knows
      acknowledge (λ q all. result q all.cleaned) ds completes.only s state completes.whole

  -- ---- the decisions

  -- the database has decided, and has acknowledged it to server i
  abbrev pub Obeyed : State → ℕ → Type 0
  Obeyed s d = T (has (s (row c k decided)) d) × T (has (s (row c k (acked i))) d)

  pub obeyed_now : (s : State) (d : ℕ) → 1 ≤ d → Obeyed (next n s (decide_arrives c k i d)) d
  unfolding next
  obeyed_now s d low =
      let mask = s (row c k decided) in
      at_row (λ r. T (has (r decided) d) × T (has (r (acked i)) d)) s c k (decide_rule i d (row_of s c k)).writes (
        by_cond (λ m. T (has m d)) (not (has mask d)) (with mask d) mask (λ t. mark mask d low) (not_not (has mask d)),
        mark_at (s (row c k (acked i))) i d low,
      )

  decide : (s : State) → Cleaned s → (d : ℕ) → Id n.databases d → (gap : List Event) → Accepted n s gap → run n s gap (database_up d) ≡ 1
      → Advance n (decide_arrives c k i) Cleaned Obeyed s (run n s gap) d
  decide s cleaned d database gap accepted up =
      let e = decide_arrives c k i d in
      let q = run n s gap in
      let before = after s cleaned gap accepted in
      let still = cleaned_since s q cleaned before in
      let m : Met n q e = record {
        fit = named (id_inside n.databases d database and tt and tt);
        live = (equal (q (database_up d)) 1 up, tt);
        post = still.sender and lt→ltb 0 (q (row c k outcome)) still.ruled and tt;
        must = tt;
      } in
      let since = since_step n s q e m before in
      let grown = since.grown c k in
      record {
        accepted = meets n q e m;
        holds = cleaned_since s (next n q e) cleaned since;
        done = obeyed_now q d database.0;
        stay = λ x obeyed. (grown.grow_decided x obeyed.0, grown.grow_acked i x obeyed.1);
      }

  settled : (s : State) → Rows n s → Everyone n (s (row c k decided)) → Settled n c k s
  settled s rows all = record {
    decided_all = all;
    alike = λ d e first second. alike n (row_of s c k) (rows c k) d e (all d first) (all e second);
    none_open = λ d database yes-vote undecided. T_not (has (s (row c k decided)) d) undecided (all d database);
  }

  all_obeyed : (s : State) → Cleaned s → ((d : ℕ) → Id n.databases d → Obeyed s d) → Decided n c k i s
  all_obeyed s cleaned all = record {
    for_good = λ more accepted. let since = after s cleaned more accepted in
        settled (run n s more) since.rows (λ d database. (since.grown c k).grow_decided d (all d database).0);
    answered = λ up. acknowledges s (record { cleaned = cleaned; up = up; acks = λ d database. (all d database).1 });
  }

  -- ---- the cleaning, and the suspicion before it

  clean_now : (s : State) → (0 < next n s (clean c k i) (row c k outcome)) × T (has (next n s (clean c k i) (row c k terminating)) i)
  unfolding next
  clean_now s =
      at_row (λ r. (0 < r outcome) × T (has (r terminating) i)) s c k (clean_rule i (s (suspects i)) (row_of s c k)).writes (
        offer_elim (λ o v. 0 < o) (s (row c k outcome)) (s (row c k value)) (Some Abort) (λ empty. omega arith) (λ written. written),
        mark (s (row c k terminating)) i is-server.0,
      )

  module _ (o : ℕ) (is_owner : Id n.servers o) (other : i ≡ o → ⊥) (ds : List ℕ) (covers : Covers n.databases ds) where
    abbrev Cleaning : State → Type 0
    Cleaning = Then n (λ gap q. Never (server_crashes i) gap × Never (trust i o) gap) (clean c k i)
        (ThenEach n (λ d gap q. q (database_up d) ≡ 1) (decide_arrives c k i) ds (Decided n c k i))

    cleaning : (s : State) → Rows n s → Clients n s → s (row c k owner) ≡ o → s (server_up i) ≡ 1 → T (has (s (suspects i)) o) → Cleaning s
    cleaning s rows clients owns up suspected gap accepted calm =
        let e = clean c k i in
        let q = run n s gap in
        let before = since_run n s rows clients gap accepted in
        let still : q (row c k owner) ≡ o = (before.grown c k).same_owner (omega arith) ∙ owns in
        let suspects_still : T (has (q (suspects i)) (q (row c k owner))) = rw still (suspects_run n i o gap s calm.1 suspected) in
        let m : Met n q e = record {
          fit = named (tt and tt and tt);
          live = (equal (q (server_up i)) 1 (up_run n i gap s calm.0 up), tt);
          post = tt;
          must = lt→ltb 0 (q (row c k owner)) (omega arith) and unequal (q (row c k owner)) i (λ same. other (sym same ∙ still)) and suspects_still and tt;
        } in
        let since = since_step n s q e m before in
        let cleaned : Cleaned (next n q e) = record {
          rows = since.rows;
          clients = since.clients;
          owned = rw ((since.grown c k).same_owner (omega arith)) (omega arith);
          ruled = (clean_now q).0;
          sender = (clean_now q).1;
        } in (
          meets n q e m,
          then_each n (λ d gap q. q (database_up d) ≡ 1) (decide_arrives c k i) (Decided n c k i) Cleaned Obeyed
              decide all_obeyed ds covers (next n q e) cleaned,
        )

    suspected_now : (s : State) → T (has (next n s (suspect i o) (suspects i)) o)
    unfolding next
    suspected_now s = mark_at (s (suspects i)) i o is_owner.0

    plan : (s : State) → Rows n s → Clients n s → s (row c k owner) ≡ o → s (server_up i) ≡ 1
        → Then n (λ gap q. Never (server_crashes i) gap) (suspect i o) Cleaning s
    unfolding next
    plan s rows clients owns up gap accepted uncrashed =
        let e = suspect i o in
        let q = run n s gap in
        let still = up_run n i gap s uncrashed up in
        let m : Met n q e = record {
          fit = tt and tt and id_inside n.servers i is-server and tt and id_inside n.servers o is_owner and tt;
          live = (equal (q (server_up i)) 1 still, tt);
          post = tt;
          must = (unequal i o other, tt);
        } in
        let since = since_step n s q e m (since_run n s rows clients gap accepted) in
        let owns-still = (since.grown c k).same_owner (omega arith) ∙ owns in
        (meets n q e m, cleaning (next n q e) since.rows since.clients owns-still still (suspected_now q))

pub progress : (n : Counts) (list : List Event) → Accepted n (fresh n) list → Progress n (run n (fresh n) list)
progress n list accepted c k i is-client is-attempt is-server owned other up ds covers =
    let s = run n (fresh n) list in
    let since = since_run n (fresh n) (reached_fresh n).rows (reached_fresh n).clients list accepted in
    let is_owner : Id n.servers (s (row c k owner)) = (owned, (since.rows c k).claim.owner_server) in
    plan n c k i is-client is-attempt is-server (s (row c k owner)) is_owner other ds covers s since.rows since.clients refl up
