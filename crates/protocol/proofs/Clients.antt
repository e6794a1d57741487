-- The client invariant, that the machine keeps it, and that a client has come to every attempt that was claimed.
use mathlib.Core.Bool.{cond, ◌&&◌}
use mathlib.Core.List.{◌∷◌}
use mathlib.Core.Path.{◌≡◌, refl, sym, ◌∙◌}
use Prim.Native.Nat.{ℕ, suc, ◌≤◌, ◌<◌}
use native.Mathlib.Decide.{dec_le}
use native.Mathlib.Omega.{arith}
use lib.Dec.{T, eqb, eqb→eq, ltb→lt}
use Rattle.lists.proofs.Choice.{by_cond, by_bool, by_both, by_eq}
use Rattle.masks.specs.Mask.{with, all, has_all}
use Rattle.masks.proofs.Laws.{has_positive, has_all_has}
use Rattle.protocol.specs.declared.Counts.{Counts}
use Rattle.protocol.specs.Cells.{owner, outcome, value, sent, committed, known, phase, attempt, delivered, row, State, Row, row_of, store_all, in_row}
use Rattle.protocol.specs.Events.{Event, issue, timeout, request_arrives, compute, prepare_arrives, vote_arrives, ready_arrives, write, suspect, trust, clean, decide_arrives, ack_arrives, result_arrives, server_crashes, database_crashes, client_crashes, database_recovers}
use Rattle.protocol.specs.Rules.{calls}
use Rattle.protocol.specs.Machine.{next, Met}
use Rattle.protocol.proofs.Tests.{differ}
use Rattle.protocol.proofs.Store.{Waits, off_row, result_elim}
use Rattle.protocol.proofs.Rows.{Everyone, Grows}
use Rattle.protocol.proofs.RowSteps.{Rows, grows_step}

-- the value was delivered by the result with this row
abbrev pub Delivered : Counts → ℕ → Row → Type 0
Delivered n itsValue r = record {
  -- only a commit delivers, and the register is written once
  commits : r outcome ≡ 1;
  -- it delivers the value beside the outcome, which stays too
  right_value : itsValue ≡ r value;
  -- the server that sent it knew every acknowledgement, and who acknowledged a commit has committed
  everywhere : Everyone n (r committed);
}

-- a client by its phase, attempt and delivered value, and its rows
abbrev pub Client : Counts → ℕ → ℕ → ℕ → (ℕ → Row) → Type 0
Client n itsPhase itsAttempt itsValue row_at = record {
  -- the first attempt comes with the request
  idle : itsPhase ≡ 0 → itsAttempt ≡ 0;
  -- and no attempt is taken back
  busy : 0 < itsPhase → 0 < itsAttempt;
  -- only an abort leads to the next attempt, and the register is written once
  past : (y : ℕ) → 1 ≤ y → y < itsAttempt → row_at y outcome ≡ 2;
  -- a request is sent for the current attempt alone
  future : (y : ℕ) → itsAttempt < y → row_at y sent ≡ 0;
  -- phase 2 comes with a commit's result, and is the last
  done : itsPhase ≡ 2 → Delivered n itsValue (row_at itsAttempt);
}

abbrev pub Clients : Counts → State → Type 0
Clients n s = (x : ℕ) → Client n (s (phase x)) (s (attempt x)) (s (delivered x)) (row_of s x)

-- ---- what can happen to a client

module _ (n : Counts) (s : State) (clients : Clients n s) (x : ℕ) where
  -- the attempt that the client is at
  abbrev current : Row
  current = row_of s x (s (attempt x))

  -- it waits no longer: phase 2 with a value delivered, or phase 3
  ends : s (phase x) ≡ 1 → (last v : ℕ) → 2 ≤ last → (last ≡ 2 → Delivered n v current) → Client n last (s (attempt x)) v (row_of s x)
  ends one last v high delivers = record {
    idle = λ z. absurd (omega arith);
    busy = λ h. (clients x).busy (omega arith);
    past = (clients x).past;
    future = (clients x).future;
    done = delivers;
  }

  module _ (row_at : ℕ → Row) (grows : (y : ℕ) → Grows (row_of s x y) (row_at y)) where
    stays : ((y : ℕ) → s (attempt x) < y → row_at y sent ≡ s (row x y sent)) → Client n (s (phase x)) (s (attempt x)) (s (delivered x)) row_at
    stays unsent = record {
      idle = (clients x).idle;
      busy = (clients x).busy;
      past = λ y low h. let two = (clients x).past y low h in (grows y).same_outcome (omega arith) ∙ two;
      future = λ y h. unsent y h ∙ (clients x).future y h;
      done = λ e. let d = (clients x).done e in
          let written : 0 < current outcome = omega arith in
          record {
            commits = (grows (s (attempt x))).same_outcome written ∙ d.commits;
            right_value = d.right_value ∙ sym ((grows (s (attempt x))).same_value written);
            everywhere = λ j database. (grows (s (attempt x))).grow_committed j (d.everywhere j database);
          };
    }

    -- the first attempt, or the one after an abort
    begins : (k : ℕ) → k ≡ suc (s (attempt x)) → (1 ≤ s (attempt x) → current outcome ≡ 2) → ((y : ℕ) → k < y → row_at y sent ≡ s (row x y sent))
        → Client n 1 k (s (delivered x)) row_at
    begins k e aborted unsent = record {
      idle = λ z. absurd (omega arith);
      busy = λ h. omega arith;
      past = λ y low h.
          let two = by_eq y (s (attempt x)) (λ e. rw (← e) at (aborted (omega arith))) (λ f. (clients x).past y low (omega (arith, f))) in
          (grows y).same_outcome (omega arith) ∙ two;
      future = λ y h. unsent y h ∙ (clients x).future y (omega arith);
      done = λ z. absurd (omega arith);
    }

-- ---- every step keeps the clients

module _ (n : Counts) (s : State) (rows : Rows n s) (clients : Clients n s) where
  -- a step that leaves the clients' own cells, and sends nothing for an attempt to come
  kept : (e : Event) → Met n s e → ((x y : ℕ) → s (attempt x) < y → next n s e (row x y sent) ≡ s (row x y sent))
      → (x : ℕ) → Client n (s (phase x)) (s (attempt x)) (s (delivered x)) (row_of (next n s e) x)
  kept e m unsent x = stays n s clients x (row_of (next n s e) x) (grows_step n s rows e m x) (unsent x)

  -- client c begins its attempt k, and the others stay
  begun : (c k now : ℕ) → k ≡ suc (s (attempt c)) → (1 ≤ s (attempt c) → s (row c (s (attempt c)) outcome) ≡ 2)
      → (row_at : ℕ → ℕ → Row) → ((x y : ℕ) → Grows (row_of s x y) (row_at x y))
      → ((x y : ℕ) → row_at x y sent ≡ cond (eqb k y && eqb c x) now (s (row x y sent)))
      → (x : ℕ) → Client n (cond (eqb c x) 1 (s (phase x))) (cond (eqb c x) k (s (attempt x))) (s (delivered x)) (row_at x)
  begun c k now e aborted row_at grows sends x =
      by_both (λ b. Client n (cond b 1 (s (phase x))) (cond b k (s (attempt x))) (s (delivered x)) (row_at x)) (eqb c x)
      (λ t. begins n s clients x (row_at x) (grows x) k (rw (← eqb→eq c x t) e) (rw (← eqb→eq c x t) aborted)
      (λ y h. sends x y ∙ off_row c k x y now (s (row x y sent)) (λ p q. omega arith)))
      (λ t. stays n s clients x (row_at x) (grows x) (λ y h. sends x y ∙ off_row c k x y now (s (row x y sent)) (λ p q. differ c x t p)))

  -- a server that knows every acknowledgement of a commit: all have committed
  known_committed : (c k i : ℕ) → s (row c k outcome) ≡ 1 → T (has_all n.databases (s (row c k (known i)))) → Everyone n (s (row c k committed))
  known_committed c k i o t d database =
      let r = rows c k in
      r.decisions.decided_committed o d
      (r.answers.acked_decided i d (r.answers.known_acked i d (has_all_has n.databases (s (row c k (known i))) d t database.0 database.1)))

  pub clients_step : (e : Event) → Met n s e → Clients n (next n s e)
  unfolding next
  clients_step (issue c v) m =
      let none : s (attempt c) ≡ 0 = (clients c).idle (eqb→eq (s (phase c)) 0 m.must.0) in
      begun c 1 (with (s (row c 1 sent)) 1) (omega arith) (λ h. absurd (omega arith))
      (row_of (next n s (issue c v))) (grows_step n s rows (issue c v) m) (λ x y. refl)
  clients_step (timeout c) m =
      kept (timeout c) m (λ x y h. off_row c (s (attempt c)) x y (all n.servers) (s (row x y sent)) (λ p q. omega (arith, rw p at q)))
  clients_step (request_arrives c k i) m = kept (request_arrives c k i) m (λ x y h. refl)
  clients_step (compute c k i v) m = kept (compute c k i v) m (λ x y h. refl)
  clients_step (prepare_arrives c k d v) m = kept (prepare_arrives c k d v) m (λ x y h. refl)
  clients_step (vote_arrives c k i d) m = kept (vote_arrives c k i d) m (λ x y h. refl)
  clients_step (ready_arrives c k i d) m = kept (ready_arrives c k i d) m (λ x y h. refl)
  clients_step (write c k i) m = kept (write c k i) m (λ x y h. refl)
  clients_step (suspect i o) m = clients
  clients_step (trust i o) m = clients
  clients_step (clean c k i) m = kept (clean c k i) m (λ x y h. refl)
  clients_step (decide_arrives c k i d) m = kept (decide_arrives c k i d) m (λ x y h. refl)
  clients_step (ack_arrives c k i d) m = kept (ack_arrives c k i d) m (λ x y h. refl)
  clients_step (result_arrives c k i) m =
      result_elim (λ ws. ((x y : ℕ) → Grows (row_of s x y) (row_of (store_all s ws) x y)) → Clients n (store_all s ws)) n s c k i
      (λ idle grows. clients)
      (λ waits one grows x.
      by_bool (λ b. Client n (cond b 2 (s (phase x))) (s (attempt x)) (cond b (s (row c k value)) (s (delivered x))) (row_of s x)) (eqb c x)
      (λ t.
      let here : Delivered n (s (row c k value)) (row_of s c k) =
      record { commits = one; right_value = refl; everywhere = known_committed c k _ one m.post.1.0 } in
      ends n s clients x (rw (← eqb→eq c x t) waits.0) 2 (s (row c k value)) (omega arith) (λ e. rw (← eqb→eq c x t, waits.1) here))
      (clients x))
      (λ waits other grows x.
      by_bool (λ b. Client n (cond b 3 (s (phase x))) (s (attempt x)) (s (delivered x)) (row_of s x)) (eqb c x)
      (λ t. ends n s clients x (rw (← eqb→eq c x t) waits.0) 3 (s (delivered x)) (omega arith) (λ e. absurd (omega arith)))
      (clients x))
      (λ waits other more grows x. rw (← still_one waits x) (
      begun c (suc k) (with (s (row c (suc k) sent)) 1) (rw waits.1) (λ h. rw waits.1 (aborted other))
      (row_of (store_all s ((attempt c, suc k) ∷ in_row c (suc k) (calls (row_of s c (suc k)))))) grows (λ x y. refl) x))
      (grows_step n s rows (result_arrives c k i) m)
    where
      aborted : (s (row c k outcome) ≡ 1 → ⊥) → s (row c k outcome) ≡ 2
      aborted other = omega (arith, other, ltb→lt, m.post, (rows c k).register.outcome_range)

      still_one : Waits s c k → (x : ℕ) → cond (eqb c x) 1 (s (phase x)) ≡ s (phase x)
      still_one waits x = by_cond (λ z. z ≡ s (phase x)) (eqb c x) 1 (s (phase x)) (λ t. sym (rw (← eqb→eq c x t) waits.0)) (λ t. refl)
  clients_step (server_crashes i) m = clients
  clients_step (database_crashes d) m = clients
  clients_step (client_crashes c) m = clients
  clients_step (database_recovers d) m = clients

  -- ---- an attempt whose request was sent

  -- the client has issued its request, and has come to the attempt
  pub sent_reached : (c k : ℕ) → 1 ≤ k → 0 < s (row c k sent) → (1 ≤ s (phase c)) × (k ≤ s (attempt c))
  sent_reached c k low called =
      let reached : k ≤ s (attempt c) =
      elim (dec_le k (s (attempt c))) [ yes come ↦ come | no beyond ↦ absurd (omega (arith, (clients c).future k (omega arith))) ] in
      (by_eq (s (phase c)) 0 (λ idle. absurd (omega (arith, (clients c).idle idle))) (λ busy. omega arith), reached)

  -- who owns it was asked
  pub owned_reached : (c k : ℕ) → 1 ≤ k → 0 < s (row c k owner) → (1 ≤ s (phase c)) × (k ≤ s (attempt c))
  owned_reached c k low owned = sent_reached c k low (has_positive (s (row c k sent)) (s (row c k owner)) ((rows c k).claim.owner_sent owned))
