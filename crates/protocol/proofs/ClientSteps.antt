-- What an event does to a client's phase, attempt, request and delivered value: nothing, or one of four things.
use mathlib.Core.Bool.{cond}
use mathlib.Core.Path.{◌≡◌}
use Prim.Native.Nat.{ℕ, suc}
use lib.Dec.{eqb, eqb→eq}
use Rattle.lists.proofs.Choice.{by_cond, by_bool}
use Rattle.protocol.specs.declared.Counts.{Counts}
use Rattle.protocol.specs.Cells.{State, store_all, phase, attempt, request, delivered, row, value}
use Rattle.protocol.specs.Events.{Event, issue, timeout, request_arrives, compute, prepare_arrives, vote_arrives, ready_arrives, write, suspect, trust, clean, decide_arrives, ack_arrives, result_arrives, server_crashes, database_crashes, client_crashes, database_recovers}
use Rattle.protocol.specs.Machine.{next, Met}
use Rattle.protocol.proofs.Store.{result_elim}

-- to show something of those four cells of client c after an event, show it of the cells before, and of each way in which they change: its request is issued,
-- its commit is delivered, it gives up, or its next attempt begins
module _ (n : Counts) (c : ℕ) (P : ℕ → ℕ → ℕ → ℕ → Type 0) (s : State)
    (stays : P (s (phase c)) (s (attempt c)) (s (request c)) (s (delivered c)))
    (issues : (v : ℕ) → s (phase c) ≡ 0 → P 1 1 v (s (delivered c)))
    (commits : (v : ℕ) → s (phase c) ≡ 1 → P 2 (s (attempt c)) (s (request c)) v)
    (ends : s (phase c) ≡ 1 → P 3 (s (attempt c)) (s (request c)) (s (delivered c)))
    (begins : s (phase c) ≡ 1 → P (s (phase c)) (suc (s (attempt c))) (s (request c)) (s (delivered c))) where
  abbrev Of : State → Type 0
  Of q = P (q (phase c)) (q (attempt c)) (q (request c)) (q (delivered c))

  pub client_elim : (e : Event) → Met n s e → Of (next n s e)
  unfolding next
  client_elim (issue x v) m =
      by_bool (λ b. P (cond b 1 (s (phase c))) (cond b 1 (s (attempt c))) (cond b v (s (request c))) (s (delivered c))) (eqb x c)
      (λ t. issues v (rw (eqb→eq x c t) at (eqb→eq (s (phase x)) 0 m.must.0))) stays
  client_elim (timeout x) m = stays
  client_elim (request_arrives x k i) m = stays
  client_elim (compute x k i v) m = stays
  client_elim (prepare_arrives x k d v) m = stays
  client_elim (vote_arrives x k i d) m = stays
  client_elim (ready_arrives x k i d) m = stays
  client_elim (write x k i) m = stays
  client_elim (suspect i o) m = stays
  client_elim (trust i o) m = stays
  client_elim (clean x k i) m = stays
  client_elim (decide_arrives x k i d) m = stays
  client_elim (ack_arrives x k i d) m = stays
  client_elim (result_arrives x k i) m =
      result_elim (λ ws. Of (store_all s ws)) n s x k i
      (λ idle. stays)
      (λ waits commit.
      by_bool (λ b. P (cond b 2 (s (phase c))) (s (attempt c)) (s (request c)) (cond b (s (row x k value)) (s (delivered c)))) (eqb x c)
      (λ t. commits (s (row x k value)) (rw (eqb→eq x c t) at waits.0)) stays)
      (λ waits abort.
      by_cond (λ itsPhase. P itsPhase (s (attempt c)) (s (request c)) (s (delivered c))) (eqb x c) 3 _
      (λ t. ends (rw (eqb→eq x c t) at waits.0)) (λ t. stays))
      (λ waits abort more.
      by_cond (λ itsAttempt. P (s (phase c)) itsAttempt (s (request c)) (s (delivered c))) (eqb x c) (suc k) _
      (λ t. rw (← waits.1, eqb→eq x c t) (begins (rw (eqb→eq x c t) at waits.0))) (λ t. stays))
  client_elim (server_crashes i) m = stays
  client_elim (database_crashes d) m = stays
  client_elim (client_crashes x) m = stays
  client_elim (database_recovers d) m = stays
