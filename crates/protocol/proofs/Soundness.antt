-- The fresh state is in range, and an accepted event keeps a state in range: each rule writes only numbers that fit their cells.
use mathlib.Core.Path.{◌≡◌, subst}
use mathlib.Core.Bool.{Bool, true, false, not, cond, ◌&&◌, beq}
use mathlib.Core.List.{◌∷◌}
use mathlib.Core.Option.{Option, none, some}
use Prim.Native.Nat.{ℕ, suc, ◌≤◌, ◌<◌, ◌^◌}
use native.Mathlib.Omega.{arith}
use lib.Dec.{T, eqb, leb, leb-zero, leb→le, le→leb, eqb→eq, eqb-suc-zero}
use Rattle.lists.specs.Tests.{every, All, inside}
use Rattle.lists.proofs.Choice.{by_cond, by_both, true_T, every_all, inside_low, inside_high, in_inside}
use Rattle.masks.specs.Mask.{has, with, without, put, all}
use Rattle.masks.proofs.Laws.{with_below, without_below, put_below, below_all, all_above}
use Rattle.registers.specs.Register.{outcome_of}
use Rattle.std.specs.Prelude.{Some}
use Rattle.registers.specs.declared.Decision.{Decision}
use Rattle.registers.specs.declared.Decision.TheVariants.{Abort}
use Rattle.registers.proofs.Laws.{claim_elim, offer_elim}
use Rattle.protocol.specs.declared.Counts.{Counts}
use Rattle.protocol.specs.Cells.{Field, owner, outcome, value, sent, voted, voted_yes, heard, heard_yes, written, terminating, decided, committed, acked, known, field_exists}
use Rattle.protocol.specs.Cells.{server_up, suspects, database_up, ready, client_up, phase, attempt, request, delivered, row}
use Rattle.protocol.specs.Cells.{State, Row, row_of, Writes, RowWrites, store_all, in_row, fresh}
use Rattle.protocol.specs.Events.{Event, issue, timeout, request_arrives, compute, prepare_arrives, vote_arrives, ready_arrives, write, suspect, trust, clean, decide_arrives, ack_arrives, result_arrives, server_crashes, database_crashes, client_crashes, database_recovers}
use Rattle.protocol.specs.Rules.{result_rule, rule, calls, claims, votes, listens, hears, verdict, offers, terminates, decides, knows}
use Rattle.protocol.specs.Numbers.{count_tests}
use Rattle.protocol.specs.Machine.{next, Met}
use Rattle.protocol.proofs.Range.{InRange}
use Rattle.protocol.proofs.Tests.{◌and◌}
use Rattle.protocol.proofs.Store.{Waits, result_elim}
use Rattle.protocol.proofs.RowRules.{outcome_most}
use Rattle.protocol.proofs.Limits.{Fits, field_limit, limit, Limited, Coupled, range_limits, cell, limits_range, AllFit, stored_limits}

-- ---- the fresh state

zero_fits : (most : Option ℕ) → Fits 0 most
zero_fits none = tt
zero_fits (some most) = true_T (leb 0 most) (leb-zero most)

up_fits : (b : Bool) → T (leb (cond b 1 0) 1)
up_fits true = tt
up_fits false = tt

fresh_limits : (n : Counts) → Limited n (fresh n)
unfolding fresh
fresh_limits n (server_up i) x = up_fits (inside n.servers i)
fresh_limits n (suspects i) x = zero_fits (limit n (suspects i))
fresh_limits n (database_up d) x = up_fits (inside n.databases d)
fresh_limits n (ready d) x = tt
fresh_limits n (client_up c) x = up_fits (inside n.clients c)
fresh_limits n (phase c) x = tt
fresh_limits n (attempt c) x = zero_fits (limit n (attempt c))
fresh_limits n (request c) x = tt
fresh_limits n (delivered c) x = tt
fresh_limits n (row c k f) x = zero_fits (field_limit n f)

pub fresh_range : (n : Counts) → InRange n (fresh n)
unfolding fresh
fresh_range n = limits_range n (fresh n) (fresh_limits n) (λ c x. tt)

-- ---- what the rules write

-- a mask of parties stays one
still_mask : (size m l : ℕ) → (m < 2 ^ size → l < 2 ^ size) → T (leb m (all size)) → T (leb l (all size))
still_mask size m l below t = le→leb l (all size) (all_above size l (below (below_all size m (leb→le m (all size) t))))

with_fits : (size m i : ℕ) → T (leb m (all size)) → T (inside size i) → T (leb (with m i) (all size))
with_fits size m i t x = still_mask size m (with m i) (λ h. with_below size m i h (inside_high size i x)) t

without_fits : (size m i : ℕ) → T (leb m (all size)) → T (inside size i) → T (leb (without m i) (all size))
without_fits size m i t x = still_mask size m (without m i) (λ h. without_below size m i h (inside_high size i x)) t

put_fits : (size m i : ℕ) (b : Bool) → T (leb m (all size)) → T (inside size i) → T (leb (put m i b) (all size))
put_fits size m i b t x = still_mask size m (put m i b) (λ h. put_below size m i b h (inside_high size i x)) t

-- the same where a test says whether the mask changes at all
with_if : (changes : Bool) (size m i : ℕ) → T (leb m (all size)) → T (inside size i) → T (leb (cond changes (with m i) m) (all size))
with_if changes size m i t x = by_cond (λ l. T (leb l (all size))) changes (with m i) m (λ u. with_fits size m i t x) (λ u. t)

put_if : (changes : Bool) (size m i : ℕ) (b : Bool) → T (leb m (all size)) → T (inside size i) → T (leb (cond changes (put m i b) m) (all size))
put_if changes size m i b t x = by_cond (λ l. T (leb l (all size))) changes (put m i b) m (λ u. put_fits size m i b t x) (λ u. t)

-- the rules of a row, over a row within its limits
module _ (n : Counts) (c k : ℕ) (r : Row) (at : (f : Field) → T (field_exists n f) → Fits (r f) (field_limit n f)) where
  calls_fit : T (inside n.servers 1) → AllFit n (in_row c k (calls r))
  calls_fit x = (with_fits n.servers (r sent) 1 (at sent tt) x, tt)

  claims_fit : (i : ℕ) → T (inside n.servers i) → AllFit n (in_row c k (claims i r))
  claims_fit i x =
      claim_elim (λ o. T (leb o n.servers)) (r owner) i (λ e. le→leb i n.servers (inside_high n.servers i x)) (λ h. at owner tt) and tt

  votes_fit : (d : ℕ) (says : Bool) → T (inside n.databases d) → AllFit n (in_row c k (votes d says r))
  votes_fit d says x =
      let first = not (has (r voted) d) in
      with_if first n.databases (r voted) d (at voted tt) x
      and put_if first n.databases (r voted_yes) d _ (at voted_yes tt) x
      and tt

  hears_fit : (listening : Bool) (d : ℕ) (says : Bool) → T (inside n.databases d) → AllFit n (in_row c k (hears listening d says r))
  hears_fit listening d says x =
      with_if listening n.databases (r heard) d (at heard tt) x
      and put_if listening n.databases (r heard_yes) d says (at heard_yes tt) x
      and tt

  terminates_fit : (i : ℕ) → T (inside n.servers i) → AllFit n (in_row c k (terminates i r))
  terminates_fit i x = (with_fits n.servers (r terminating) i (at terminating tt) x, tt)

  offers_fit : (d : Decision) (more : RowWrites) → AllFit n (in_row c k more) → AllFit n (in_row c k (offers d r more))
  offers_fit d more h =
      offer_elim (λ o w. T (leb o 2)) (r outcome) (r value) (Some d) (λ e. le→leb (outcome_of (Some d)) 2 (outcome_most (Some d))) (λ h. at outcome tt) and tt and h

  decides_fit : (i d : ℕ) → T (inside n.servers i) → T (inside n.databases d) → AllFit n (in_row c k (decides i d r))
  decides_fit i d y x =
      let first = not (has (r decided) d) in
      with_if first n.databases (r decided) d (at decided tt) x
      and put_if first n.databases (r committed) d _ (at committed tt) x
      and with_fits n.databases (r (acked i)) d (at (acked i) y) x
      and tt

  knows_fit : (i d : ℕ) → T (inside n.servers i) → T (inside n.databases d) → AllFit n (in_row c k (knows i d r))
  knows_fit i d y x = (with_fits n.databases (r (known i)) d (at (known i) y) x, tt)

-- ---- the rules

-- the writes fit their cells, and leave every attempt 0 exactly when the phase is
record Keeps (n : Counts) (s : State) (ws : Writes) : Type 0 where
  fit : AllFit n ws
  couple : Coupled n (store_all s ws)

module _ (n : Counts) (counts : All (count_tests n)) (s : State) (v : Limited n s) (h : Coupled n s) where
  -- the request of a client's attempt is sent to server 1
  called : (c k : ℕ) → T (inside n.clients c) → T (inside n.attempts k) → AllFit n (in_row c k (calls (row_of s c k)))
  called c k x y =
      calls_fit n c k (row_of s c k) (cell n s v c k x y) (in_inside n.servers 1 (omega arith) (inside_low 8 n.servers counts.1.0))

  result_keeps : (c k i : ℕ) → T (inside n.clients c) → T (inside n.attempts k) → Keeps n s (result_rule n s c k i).writes
  result_keeps c k i x y =
      result_elim (Keeps n s) n s c k i
      (λ idle. record { fit = tt; couple = h })
      (λ waits commit. record { fit = (tt, (tt, tt)); couple = ended waits 1 })
      (λ waits abort. record { fit = (tt, tt); couple = ended waits 2 })
      (λ waits abort more. let next : suc k ≤ n.attempts = omega (arith, inside_high n.attempts k y, more) in record {
        fit = (le→leb (suc k) n.attempts next, called c (suc k) x (in_inside n.attempts (suc k) (omega arith) next));
        couple = begun waits;
      })
    where
      here : Waits s c k → (z : ℕ) → T (eqb c z) → s (phase z) ≡ 1
      here waits z t = subst (λ z. s (phase z) ≡ 1) (eqb→eq c z t) waits.0

      -- a client that waited has an attempt, and its phase is 2 or 3 now
      ended : Waits s c k → (q z : ℕ) → T (inside n.clients z)
          → T (beq (eqb (s (attempt z)) 0) (eqb (cond (eqb c z) (suc q) (s (phase z))) 0))
      ended waits q z w =
          by_cond (λ p. T (beq (eqb (s (attempt z)) 0) (eqb p 0))) (eqb c z) (suc q) (s (phase z))
          (λ t. rw (eqb-suc-zero q) (rw (here waits z t) at (h z w))) (λ t. h z w)

      -- a client that waits goes on to the next attempt
      begun : Waits s c k → (z : ℕ) → T (inside n.clients z)
          → T (beq (eqb (cond (eqb c z) (suc k) (s (attempt z))) 0) (eqb (s (phase z)) 0))
      begun waits z w =
          by_cond (λ a. T (beq (eqb a 0) (eqb (s (phase z)) 0))) (eqb c z) (suc k) (s (attempt z))
          (λ t. rw (eqb-suc-zero k, here waits z t) tt) (λ t. h z w)

  keeps : (e : Event) → Met n s e → Keeps n s (rule n s e).writes
  keeps (issue c w) m =
      let low = inside_low 16 n.attempts counts.1.1.1.0 in
      record {
        fit = tt and le→leb 1 n.attempts low and tt and called c 1 m.fit.0 (in_inside n.attempts 1 (omega arith) low);
        couple = λ x y. by_both (λ b. T (beq (eqb (cond b 1 (s (attempt x))) 0) (eqb (cond b 1 (s (phase x))) 0))) (eqb c x)
            (λ t. tt) (λ t. h x y);
      }
  keeps (timeout c) m = record { fit = (le→leb (all n.servers) (all n.servers) (omega arith), tt); couple = h }
  keeps (request_arrives c k i) m =
      let at = cell n s v c k m.fit.0 m.fit.1.0 in
      record { fit = claims_fit n c k (row_of s c k) at i m.fit.1.1.0; couple = h }
  keeps (compute c k i w) m = record { fit = (tt, tt); couple = h }
  keeps (prepare_arrives c k d w) m =
      let at = cell n s v c k m.fit.0 m.fit.1.0 in
      record { fit = votes_fit n c k (row_of s c k) at d (eqb w 1) m.fit.1.1.1.0; couple = h }
  keeps (vote_arrives c k i d) m =
      let at = cell n s v c k m.fit.0 m.fit.1.0 in
      record { fit = hears_fit n c k (row_of s c k) at (listens d (row_of s c k)) d (has (s (row c k voted_yes)) d) m.fit.1.1.1.0; couple = h }
  keeps (ready_arrives c k i d) m =
      let at = cell n s v c k m.fit.0 m.fit.1.0 in
      let listening = eqb (s (row c k owner)) i && listens d (row_of s c k) in
      record { fit = hears_fit n c k (row_of s c k) at listening d false m.fit.1.1.1.0; couple = h }
  keeps (write c k i) m =
      let at = cell n s v c k m.fit.0 m.fit.1.0 in
      let more : RowWrites = (written, 1) ∷ terminates i (row_of s c k) in
      let ends = terminates_fit n c k (row_of s c k) at i m.fit.1.1.0 in
      record { fit = offers_fit n c k (row_of s c k) at (verdict n.databases (row_of s c k)) more (tt, ends); couple = h }
  keeps (suspect i o) m =
      record { fit = (with_fits n.servers (s (suspects i)) o (v (suspects i) m.fit.1.1.0) m.fit.1.1.1.1.0, tt); couple = h }
  keeps (trust i o) m =
      record { fit = (without_fits n.servers (s (suspects i)) o (v (suspects i) m.fit.1.1.0) m.fit.1.1.1.1.0, tt); couple = h }
  keeps (clean c k i) m =
      let at = cell n s v c k m.fit.0 m.fit.1.0 in
      let ends = terminates_fit n c k (row_of s c k) at i m.fit.1.1.0 in
      record { fit = offers_fit n c k (row_of s c k) at Abort (terminates i (row_of s c k)) ends; couple = h }
  keeps (decide_arrives c k i d) m =
      let at = cell n s v c k m.fit.0 m.fit.1.0 in
      record { fit = decides_fit n c k (row_of s c k) at i d m.fit.1.1.0 m.fit.1.1.1.0; couple = h }
  keeps (ack_arrives c k i d) m =
      let at = cell n s v c k m.fit.0 m.fit.1.0 in
      record { fit = knows_fit n c k (row_of s c k) at i d m.fit.1.1.0 m.fit.1.1.1.0; couple = h }
  keeps (result_arrives c k i) m = result_keeps c k i m.fit.0 m.fit.1.0
  keeps (server_crashes i) m = record { fit = (tt, tt); couple = h }
  keeps (database_crashes d) m = record { fit = (tt, tt); couple = h }
  keeps (client_crashes c) m = record { fit = (tt, tt); couple = h }
  keeps (database_recovers d) m = record { fit = (tt, (tt, tt)); couple = h }

pub range_step : (n : Counts) → T (every (count_tests n)) → (s : State) → InRange n s → (e : Event) → Met n s e → InRange n (next n s e)
unfolding next
range_step n counts s range e m =
    let limited = range_limits n s range in
    let kept = keeps n (every_all (count_tests n) counts) s limited (λ c x. (range.clients c x).1.1.1.0) e m in
    limits_range n (next n s e) (stored_limits n s limited (rule n s e).writes kept.fit) kept.couple
