-- The machine keeps the row invariant, and every row only grows.
use mathlib.Core.List.{[], ◌∷◌}
use Prim.Native.Nat.{ℕ, suc}
use Rattle.lists.proofs.Choice.{inside_low, inside_high}
use Rattle.masks.specs.Mask.{all}
use Rattle.protocol.specs.declared.Counts.{Counts}
use Rattle.protocol.specs.Cells.{sent, suspects, ready, phase, attempt, request, State, row_of, store, store_all, RowWrites, store_fields, in_row}
use Rattle.protocol.specs.Events.{Event, issue, timeout, request_arrives, compute, prepare_arrives, vote_arrives, ready_arrives, write, suspect, trust, clean, decide_arrives, ack_arrives, result_arrives, server_crashes, database_crashes, client_crashes, database_recovers}
use Rattle.protocol.specs.Rules.{calls, request_rule, compute_rule, prepare_rule, vote_rule, ready_rule, write_rule, clean_rule, decide_rule, ack_rule}
use Rattle.protocol.specs.Machine.{next, Met}
use Rattle.protocol.proofs.Tests.{inside_id}
use Rattle.protocol.proofs.Store.{on_row, result_elim}
use Rattle.protocol.proofs.Rows.{RowInvariant, Grows, grows_refl}
use Rattle.protocol.proofs.RowRules.{Keeps, calls_keep, timeout_keeps, request_keeps, compute_keeps, prepare_keeps, vote_keeps, ready_keeps, write_keeps, clean_keeps, decide_keeps, ack_keeps}

abbrev pub Rows : Counts → State → Type 0
Rows n s = (x y : ℕ) → RowInvariant n (row_of s x y)

module _ (n : Counts) (s : State) (rows : Rows n s) where
  -- what a state after this one keeps of every row
  abbrev Kept : State → Type 0
  Kept q = (x y : ℕ) → Keeps n (row_of s x y) (row_of q x y)

  untouched : Kept s
  untouched x y = record { invariant = rows x y; grows = grows_refl (row_of s x y) }

  touched : (c k : ℕ) (ws : RowWrites) → Keeps n (row_of s c k) (store_fields (row_of s c k) ws) → Kept (store_all s (in_row c k ws))
  touched c k ws new = on_row (λ x y. Keeps n (row_of s x y)) s c k ws untouched new

  row_step : (e : Event) → Met n s e → Kept (next n s e)
  unfolding next
  row_step (issue c v) m =
      on_row (λ x y. Keeps n (row_of s x y)) (store (store (store s (phase c) 1) (attempt c) 1) (request c) v) c 1 (calls (row_of s c 1))
      untouched (calls_keep n (row_of s c 1) (rows c 1))
  row_step (timeout c) m =
      let k = s (attempt c) in
      touched c k ((sent, all n.servers) ∷ []) (timeout_keeps n (row_of s c k) (rows c k))
  row_step (request_arrives c k i) m =
      let r = row_of s c k in
      touched c k (request_rule i r).writes (request_keeps n r (rows c k) i (inside_id n.servers i m.fit.1.1.0) m.post)
  row_step (compute c k i v) m =
      let r = row_of s c k in
      touched c k (compute_rule i v r).writes (compute_keeps n r (rows c k) i v (inside_low n.servers i m.fit.1.1.0) m.must)
  row_step (prepare_arrives c k d v) m =
      let r = row_of s c k in
      touched c k (prepare_rule d v r).writes (prepare_keeps n r (rows c k) d v (inside_low n.databases d m.fit.1.1.1.0))
  row_step (vote_arrives c k i d) m =
      let r = row_of s c k in
      touched c k (vote_rule i d r).writes (vote_keeps n r (rows c k) i d (inside_high n.databases d m.fit.1.1.1.0))
  row_step (ready_arrives c k i d) m =
      let r = row_of s c k in
      let high = inside_high n.databases d m.fit.1.1.1.0 in
      touched c k (ready_rule i d (s (ready d)) r).writes (ready_keeps n r (rows c k) i d (s (ready d)) high)
  row_step (write c k i) m =
      let r = row_of s c k in
      touched c k (write_rule n.databases i r).writes (write_keeps n r (rows c k) i m.must)
  row_step (suspect i o) m = untouched
  row_step (trust i o) m = untouched
  row_step (clean c k i) m =
      let r = row_of s c k in
      touched c k (clean_rule i (s (suspects i)) r).writes (clean_keeps n r (rows c k) i (s (suspects i)))
  row_step (decide_arrives c k i d) m =
      let r = row_of s c k in
      touched c k (decide_rule i d r).writes (decide_keeps n r (rows c k) i d (inside_low n.databases d m.fit.1.1.1.0) m.post)
  row_step (ack_arrives c k i d) m =
      let r = row_of s c k in
      touched c k (ack_rule i d r).writes (ack_keeps n r (rows c k) i d m.post)
  row_step (result_arrives c k i) m =
      result_elim (λ ws. Kept (store_all s ws)) n s c k i (λ idle. untouched) (λ waits one. untouched) (λ waits other. untouched)
      (λ waits other more. on_row (λ x y. Keeps n (row_of s x y)) (store s (attempt c) (suc k)) c (suc k) (calls (row_of s c (suc k)))
      untouched (calls_keep n (row_of s c (suc k)) (rows c (suc k))))
  row_step (server_crashes i) m = untouched
  row_step (database_crashes d) m = untouched
  row_step (client_crashes c) m = untouched
  row_step (database_recovers d) m = untouched

pub rows_step : (n : Counts) (s : State) (e : Event) → Rows n s → Met n s e → Rows n (next n s e)
rows_step n s e rows m x y = (row_step n s rows e m x y).invariant

pub grows_step : (n : Counts) (s : State) → Rows n s → (e : Event) → Met n s e → (x y : ℕ) → Grows (row_of s x y) (row_of (next n s e) x y)
grows_step n s rows e m x y = (row_step n s rows e m x y).grows
