-- What lasts along a list of events: rows and clients, what a row once held, an attempt left behind, a client at rest, a server that is up, and its suspicion.
use mathlib.Core.List.{List, [], ◌∷◌, ◌++◌}
use mathlib.Core.Path.{◌≡◌, refl, ap, ap₂}
use Prim.Native.Nat.{ℕ, ◌≤◌, ◌<◌}
use native.Mathlib.Omega.{arith}
use borrow.Author.Tests.{eq-eqb}
use lib.Dec.{T, eqb, eqb→eq}
use Rattle.lists.proofs.Choice.{by_cond, by_eq}
use Rattle.masks.specs.Mask.{has}
use Rattle.masks.proofs.Laws.{keep, has_without_other}
use Rattle.protocol.specs.declared.Counts.{Counts}
use Rattle.protocol.specs.Cells.{State, row_of, store_all, server_up, suspects, phase, attempt, request, delivered}
use Rattle.protocol.specs.Events.{Event, issue, timeout, request_arrives, compute, prepare_arrives, vote_arrives, ready_arrives, write, suspect, trust, clean, decide_arrives, ack_arrives, result_arrives, server_crashes, database_crashes, client_crashes, database_recovers}
use Rattle.protocol.specs.Machine.{next, run, Accepted, Met}
use Rattle.protocol.specs.Progress.{Never, Freed}
use Rattle.protocol.proofs.Acceptance.{met}
use Rattle.protocol.proofs.Store.{result_elim}
use Rattle.protocol.proofs.Rows.{Grows, grows_refl, grows_trans}
use Rattle.protocol.proofs.RowSteps.{Rows, rows_step, grows_step}
use Rattle.protocol.proofs.Clients.{Clients, clients_step}
use Rattle.protocol.proofs.ClientSteps.{client_elim}

-- ---- what each event keeps, a list of them keeps

module _ (n : Counts) (P : State → Type 0) where
  along : ((s : State) (e : Event) → Met n s e → P s → P (next n s e))
      → (list : List Event) (s : State) → Accepted n s list → P s → P (run n s list)
  unfolding run
  along step [] s a p = p
  along step (e ∷ list) s a p = along step list (next n s e) a.1 (step s e (met n s e a.0) p)

  along_without : (x : Event) → ((s : State) (e : Event) → (e ≡ x → ⊥) → P s → P (next n s e))
      → (list : List Event) (s : State) → Never x list → P s → P (run n s list)
  unfolding run
  along_without x step [] s a p = p
  along_without x step (e ∷ list) s a p = along_without x step list (next n s e) a.1 (step s e a.0 p)

-- one list after another
pub run_append : (n : Counts) (list : List Event) (s : State) (more : List Event) → run n s (list ++ more) ≡ run n (run n s list) more
unfolding run
run_append n [] s more = refl
run_append n (e ∷ list) s more = run_append n list (next n s e) more

pub accepted_append : (n : Counts) (list : List Event) (s : State) (more : List Event)
    → Accepted n s list → Accepted n (run n s list) more → Accepted n s (list ++ more)
unfolding run
accepted_append n [] s more a b = b
accepted_append n (e ∷ list) s more a b = (a.0, accepted_append n list (next n s e) more a.1 b)

-- ---- rows and clients in order, and rows that have lost nothing since an earlier state

module _ (n : Counts) where
  pub record Since (earlier s : State) : Type 0 where
    pub rows : Rows n s
    pub clients : Clients n s
    pub grown : (x y : ℕ) → Grows (row_of earlier x y) (row_of s x y)

  pub since_step : (earlier s : State) (e : Event) → Met n s e → Since earlier s → Since earlier (next n s e)
  since_step earlier s e m since = record {
    rows = rows_step n s e since.rows m;
    clients = clients_step n s since.rows since.clients e m;
    grown = λ x y.
        grows_trans (row_of earlier x y) (row_of s x y) (row_of (next n s e) x y) (since.grown x y) (grows_step n s since.rows e m x y);
  }

  pub since_now : (s : State) → Rows n s → Clients n s → Since s s
  since_now s rows clients = record { rows = rows; clients = clients; grown = λ x y. grows_refl (row_of s x y) }

  pub since_run : (s : State) → Rows n s → Clients n s → (list : List Event) → Accepted n s list → Since s (run n s list)
  since_run s rows clients list accepted = along n (Since s) (since_step s) list s accepted (since_now s rows clients)

-- ---- an attempt left behind

-- by its phase and attempt, a client that has issued its request, has come to attempt k, and waits on a later one if at all
abbrev Beyond : ℕ → ℕ → ℕ → Type 0
Beyond k itsPhase itsAttempt = (1 ≤ itsPhase) × (k ≤ itsAttempt) × (itsPhase ≡ 1 → k < itsAttempt)

finished : (k itsPhase itsAttempt : ℕ) → 2 ≤ itsPhase → k ≤ itsAttempt → Beyond k itsPhase itsAttempt
finished k itsPhase itsAttempt end come = (omega arith, come, λ one. absurd (omega arith))

module _ (n : Counts) (c k : ℕ) where
  abbrev pub Past : State → Type 0
  Past s = Beyond k (s (phase c)) (s (attempt c))

  past_step : (s : State) (e : Event) → Met n s e → Past s → Past (next n s e)
  past_step s e m past =
      client_elim n c (λ itsPhase itsAttempt itsRequest itsValue. Beyond k itsPhase itsAttempt) s past
      (λ v idle. absurd (omega (arith, past.0)))
      (λ v waits. finished k 2 (s (attempt c)) (omega arith) past.1)
      (λ waits. finished k 3 (s (attempt c)) (omega arith) past.1)
      (λ waits. (past.0, omega (arith, past.1), λ one. omega (arith, past.1))) e m

  pub past_freed : (s : State) → Past s → Freed n c k s
  past_freed s past more accepted waits = omega (arith, (along n Past past_step more s accepted past).2 waits.0, waits)

  -- a result leaves its attempt behind, where the client has come to it
  pub result_past : (s : State) (i : ℕ) → 1 ≤ s (phase c) → k ≤ s (attempt c) → Past (next n s (result_arrives c k i))
  unfolding next
  result_past s i issued come =
      result_elim (λ ws. Past (store_all s ws)) n s c k i
      (λ idle. (issued, come, λ one. by_eq (s (attempt c)) k (λ now. absurd (idle (one, now))) (λ other. omega arith)))
      (λ waits commit. rw (eq-eqb c c refl) (finished k 2 (s (attempt c)) (omega arith) come))
      (λ waits abort. rw (eq-eqb c c refl) (finished k 3 (s (attempt c)) (omega arith) come))
      (λ waits abort more. rw (eq-eqb c c refl) (issued, omega arith, λ one. omega arith))

-- ---- a client that waits no longer

module _ (n : Counts) (c itsPhase itsAttempt itsRequest itsValue : ℕ) (over : 2 ≤ itsPhase) where
  -- it has this phase, attempt, request and delivered value
  abbrev Rests : State → Type 0
  Rests s = (s (phase c) ≡ itsPhase) × (s (attempt c) ≡ itsAttempt) × (s (request c) ≡ itsRequest) × (s (delivered c) ≡ itsValue)

  rests_step : (s : State) (e : Event) → Met n s e → Rests s → Rests (next n s e)
  rests_step s e m rests =
      client_elim n c (λ p k r v. (p ≡ itsPhase) × (k ≡ itsAttempt) × (r ≡ itsRequest) × (v ≡ itsValue)) s rests
      (λ v idle. absurd (omega (arith, rests.0)))
      (λ v waits. absurd (omega (arith, rests.0)))
      (λ waits. absurd (omega (arith, rests.0)))
      (λ waits. absurd (omega (arith, rests.0))) e m

  pub rests_run : (list : List Event) (s : State) → Accepted n s list → Rests s → Rests (run n s list)
  rests_run = along n Rests rests_step

-- ---- a server stays up where it does not crash, and keeps a suspicion where it does not trust again

module _ (n : Counts) (i : ℕ) where
  abbrev ServerKeeps : State → Event → State → Type 0
  ServerKeeps s e q =
      ((e ≡ server_crashes i → ⊥) → s (server_up i) ≡ 1 → q (server_up i) ≡ 1)
      × ((o : ℕ) → (e ≡ trust i o → ⊥) → T (has (s (suspects i)) o) → T (has (q (suspects i)) o))

  kept : (s : State) (e : Event) → ServerKeeps s e s
  kept s e = (λ stays up. up, λ o stays suspected. suspected)

  server_step : (s : State) (e : Event) → ServerKeeps s e (next n s e)
  unfolding next
  server_step s (issue c v) = kept s (issue c v)
  server_step s (timeout c) = kept s (timeout c)
  server_step s (request_arrives c k j) = kept s (request_arrives c k j)
  server_step s (compute c k j v) = kept s (compute c k j v)
  server_step s (prepare_arrives c k d v) = kept s (prepare_arrives c k d v)
  server_step s (vote_arrives c k j d) = kept s (vote_arrives c k j d)
  server_step s (ready_arrives c k j d) = kept s (ready_arrives c k j d)
  server_step s (write c k j) = kept s (write c k j)
  server_step s (suspect j x) = (
    λ stays up. up,
    λ o stays suspected. by_cond (λ mask. T (has mask o)) (eqb j i) _ _
        (λ t. keep (s (suspects j)) x o (rw (eqb→eq j i t) suspected)) (λ t. suspected),
  )
  server_step s (trust j x) = (
    λ stays up. up,
    λ o stays suspected. by_cond (λ mask. T (has mask o)) (eqb j i) _ _
        (λ t. rw (has_without_other (s (suspects j)) x o (λ e. stays (ap₂ trust (eqb→eq j i t) e)), eqb→eq j i t) suspected) (λ t. suspected),
  )
  server_step s (clean c k j) = kept s (clean c k j)
  server_step s (decide_arrives c k j d) = kept s (decide_arrives c k j d)
  server_step s (ack_arrives c k j d) = kept s (ack_arrives c k j d)
  server_step s (result_arrives c k j) =
      let still = kept s (result_arrives c k j) in
      result_elim (λ ws. ServerKeeps s (result_arrives c k j) (store_all s ws)) n s c k j
      (λ idle. still) (λ waits commit. still) (λ waits abort. still) (λ waits abort more. still)
  server_step s (server_crashes j) = (
    λ stays up. by_cond (λ x. x ≡ 1) (eqb j i) 0 _ (λ t. absurd (stays (ap server_crashes (eqb→eq j i t)))) (λ t. up),
    λ o stays suspected. suspected,
  )
  server_step s (database_crashes d) = kept s (database_crashes d)
  server_step s (client_crashes c) = kept s (client_crashes c)
  server_step s (database_recovers d) = kept s (database_recovers d)

  pub up_run : (list : List Event) (s : State) → Never (server_crashes i) list → s (server_up i) ≡ 1 → run n s list (server_up i) ≡ 1
  up_run = along_without n (λ s. s (server_up i) ≡ 1) (server_crashes i) (λ s e. (server_step s e).0)

  pub suspects_run : (o : ℕ) (list : List Event) (s : State) → Never (trust i o) list
      → T (has (s (suspects i)) o) → T (has (run n s list (suspects i)) o)
  suspects_run o = along_without n (λ s. T (has (s (suspects i)) o)) (trust i o) (λ s e. (server_step s e).1 o)
