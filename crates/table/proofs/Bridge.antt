-- The view of the cells after an accepted record is the machine's step on the view before, for all 18 kinds; and an accepted record changes no count and no length.
use mathlib.Core.Path.{◌≡◌, ap, ◌∙◌}
use mathlib.Core.Bool.{not, cond, ◌&&◌}
use mathlib.Core.List.{List, [], ◌∷◌}
use Prim.Native.Nat.{ℕ, suc, ◌≤◌}
use native.Mathlib.Omega.{arith}
use lib.Dec.{T, eqb, eqb→eq, T_not, eqb_refl}
use lib.ListN.{length}
use Rattle.lists.specs.Tests.{inside}
use Rattle.lists.proofs.Choice.{both, by_cond, by_eq, in_inside, inside_low, inside_high}
use Rattle.protocol.specs.declared.Counts.{Counts}
use Rattle.protocol.specs.declared.Event.{Event as Record}
use Rattle.protocol.specs.Cells.{Field, owner, outcome, value, computed, sent, voted, voted_yes, heard, heard_yes, written, terminating, decided, committed, acked, known, field_exists}
use Rattle.protocol.specs.Cells.{row, exists, State, phase, attempt, delivered, row_of, Writes, in_row}
use Rattle.protocol.specs.Events.{Event, issue, timeout, request_arrives, compute, prepare_arrives, vote_arrives, ready_arrives, write, suspect, trust, clean, decide_arrives, ack_arrives, result_arrives, server_crashes, database_crashes, client_crashes, database_recovers}
use Rattle.protocol.specs.Rules.{rule, calls}
use Rattle.protocol.specs.Machine.{next, Met}
use Rattle.protocol.proofs.Acceptance.{met}
use Rattle.protocol.proofs.Range.{range_facts, waiting_attempt}
use Rattle.table.specs.Layout.{table_length}
use Rattle.table.specs.Table.{counts_of, view, set_all}
use Rattle.table.specs.Jobs.{writes_at, after}
use Rattle.table.proofs.Accepts.{Accepts}
use Rattle.table.proofs.View.{Exist, view_set_all, length_set_all, counts_set_all}

-- ---- every cell that a rule writes exists

module _ (n : Counts) where
  cell : (c k : ℕ) → T (inside n.clients c) → T (inside n.attempts k) → (f : Field) → T (field_exists n f) → T (exists n (row c k f))
  cell c k x y f z = both (inside n.clients c) (inside n.attempts k && field_exists n f) x (both (inside n.attempts k) (field_exists n f) y z)

  below : (k m : ℕ) → k ≤ m → T (not (eqb k m)) → suc k ≤ m
  below k m l t = by_eq k m (λ e. absurd (T_not (eqb k m) t (rw e (eqb_refl m)))) (λ d. omega (arith, d))

  module _ (s : State) (first : T (inside n.attempts 1)) (waits : (c : ℕ) → T (inside n.clients c) → s (phase c) ≡ 1 → T (inside n.attempts (s (attempt c)))) where
    writes_exist : (e : Event) → Met n s e → Exist n (rule n s e).writes
    writes_exist (issue c v) m = let x = m.fit.0 in (x, (x, (x, (cell c 1 x first sent tt, tt))))
    writes_exist (timeout c) m = (cell c (s (attempt c)) m.fit.0 (waits c m.fit.0 (eqb→eq (s (phase c)) 1 m.must.0)) sent tt, tt)
    writes_exist (request_arrives c k i) m = (cell c k m.fit.0 m.fit.1.0 owner tt, tt)
    writes_exist (compute c k i v) m = (cell c k m.fit.0 m.fit.1.0 computed tt, tt)
    writes_exist (prepare_arrives c k d v) m = let at = cell c k m.fit.0 m.fit.1.0 in (at voted tt, (at voted_yes tt, tt))
    writes_exist (vote_arrives c k i d) m = let at = cell c k m.fit.0 m.fit.1.0 in (at heard tt, (at heard_yes tt, tt))
    writes_exist (ready_arrives c k i d) m = let at = cell c k m.fit.0 m.fit.1.0 in (at heard tt, (at heard_yes tt, tt))
    writes_exist (write c k i) m = let at = cell c k m.fit.0 m.fit.1.0 in (at outcome tt, (at value tt, (at written tt, (at terminating tt, tt))))
    writes_exist (suspect i o) m = (m.fit.1.1.0, tt)
    writes_exist (trust i o) m = (m.fit.1.1.0, tt)
    writes_exist (clean c k i) m = let at = cell c k m.fit.0 m.fit.1.0 in (at outcome tt, (at value tt, (at terminating tt, tt)))
    writes_exist (decide_arrives c k i d) m = let at = cell c k m.fit.0 m.fit.1.0 in (at decided tt, (at committed tt, (at (acked i) m.fit.1.1.0, tt)))
    writes_exist (ack_arrives c k i d) m = (cell c k m.fit.0 m.fit.1.0 (known i) m.fit.1.1.0, tt)
    writes_exist (result_arrives c k i) m =
        let x = m.fit.0 in
        let kN = inside_high n.attempts k m.fit.1.0 in
        let gone : Writes = (phase c, 3) ∷ [] in
        let again : Writes = (attempt c, suc k) ∷ in_row c (suc k) (calls (row_of s c (suc k))) in
        let aborted : Writes = cond (eqb k n.attempts) gone again in
        let delivers : Writes = (phase c, 2) ∷ (delivered c, s (row c k value)) ∷ [] in
        by_cond (Exist n) (eqb (s (phase c)) 1 && eqb (s (attempt c)) k) (cond (eqb (s (row c k outcome)) 1) delivers aborted) []
        (λ waiting. by_cond (Exist n) (eqb (s (row c k outcome)) 1) delivers aborted (λ commit. (x, (x, tt)))
        (λ abort. by_cond (Exist n) (eqb k n.attempts) gone again (λ last. (x, tt))
        (λ more. (x, (cell c (suc k) x (in_inside n.attempts (suc k) (omega arith) (below k n.attempts kN more)) sent tt, tt)))))
        (λ idle. tt)
    writes_exist (server_crashes i) m = (m.fit.1.1.0, tt)
    writes_exist (database_crashes d) m = (m.fit.1.1.1.0, tt)
    writes_exist (client_crashes c) m = (m.fit.0, tt)
    writes_exist (database_recovers d) m = let x = m.fit.1.1.1.0 in (x, (x, tt))

-- ---- an accepted record

module _ (t : List ℕ) (r : Record) (a : Accepts t r) where
  abbrev counts : Counts
  counts = counts_of t

  abbrev before : State
  before = view counts t

  abbrev pub event_of : Event
  event_of = a.reading.kind.event r

  abbrev writes : Writes
  writes = (rule counts before event_of).writes

  pub exist : Exist counts writes
  exist =
      let first = in_inside counts.attempts 1 (omega arith) (inside_low 16 counts.attempts a.sound.size.1.1.1.1.0) in
      let waits = waiting_attempt counts before (range_facts counts before a.sound.range) in
      writes_exist counts before first waits event_of (met counts before event_of a.reading.accepted)

  pub after_writes : after counts t r ≡ set_all counts t writes
  unfolding after
  after_writes = ap (λ line. set_all counts t (writes_at counts before r line)) a.reading.line

  pub after_view : view counts (after counts t r) ≡ next counts before event_of
  unfolding next
  after_view = ap (view counts) after_writes ∙ view_set_all counts t (eqb→eq (length t) (table_length counts) a.sound.size.0) writes exist

  pub after_length : length (after counts t r) ≡ length t
  after_length = ap length after_writes ∙ length_set_all counts t writes

  pub after_counts : counts_of (after counts t r) ≡ counts
  after_counts = ap counts_of after_writes ∙ counts_set_all counts t writes exist
