-- The 18 rules, in the paper's words and order: when the message was sent, what must hold, and what is written.
use Rattle.std.specs.Prelude.{Bool, false, not, cond, ◌&&◌, List, [], ◌∷◌, ℕ, suc, Some, eqb, ltb}
use Rattle.masks.specs.Mask.{has, with, without, put, all, has_all, count}
use Rattle.registers.specs.Register.{claimed, offered_outcome, offered_value}
use Rattle.registers.specs.declared.Decision.{Decision}
use Rattle.registers.specs.declared.Decision.TheVariants.{Commit, Abort}
use Rattle.protocol.specs.declared.Counts.{Counts}
use Rattle.protocol.specs.Cells.{owner, outcome, value, computed, sent, voted, voted_yes, heard, heard_yes, written, terminating, decided, committed, acked, known}
use Rattle.protocol.specs.Cells.{server_up, suspects, database_up, ready, client_up, phase, attempt, request, delivered, row, State, Row, row_of, Writes, RowWrites, in_row}
use Rattle.protocol.specs.Events.{Event, issue, timeout, request_arrives, compute, prepare_arrives, vote_arrives, ready_arrives, write, suspect, trust, clean, decide_arrives, ack_arrives, result_arrives, server_crashes, database_crashes, client_crashes, database_recovers}

-- ---- what rules say of a row: each list of writes is computed from the row before it

-- "the request is sent to server 1": a message once sent stays sent
abbrev pub calls : Row → RowWrites
calls r = (sent, with (r sent) 1) ∷ []

-- "if owner is 0, owner becomes this server": the register of claims
abbrev pub claims : ℕ → Row → RowWrites
claims i r = (owner, claimed (r owner) i) ∷ []

-- "if the database has not voted, it votes: no if it has already decided this result, else as the event says"
abbrev pub votes : ℕ → Bool → Row → RowWrites
votes d says r =
    let first = not (has (r voted) d) in
    (voted, cond first (with (r voted) d) (r voted))
    ∷ (voted_yes, cond first (put (r voted_yes) d (says && not (has (r decided) d))) (r voted_yes))
    ∷ []

-- "if computed is not 0, written is 0 and the database is unheard"
abbrev pub listens : ℕ → Row → Bool
listens d r = ltb 0 (r computed) && (eqb (r written) 0 && not (has (r heard) d))

-- "it is heard, as yes or not"
abbrev pub hears : Bool → ℕ → Bool → Row → RowWrites
hears listening d says r =
    (heard, cond listening (with (r heard) d) (r heard))
    ∷ (heard_yes, cond listening (put (r heard_yes) d says) (r heard_yes))
    ∷ []

-- "commit with the computed value if the number heard as yes is D, else abort"
abbrev pub verdict : ℕ → Row → Decision
verdict D r = cond (eqb (count (r heard_yes)) D) (Commit (r computed)) Abort

-- the register of decisions takes the offer if it is empty, and keeps what it holds if not
abbrev pub offers : Decision → Row → RowWrites → RowWrites
offers decision r more = (outcome, offered_outcome (r outcome) (Some decision)) ∷ (value, offered_value (r outcome) (r value) (Some decision)) ∷ more

-- "the server is terminating"
abbrev pub terminates : ℕ → Row → RowWrites
terminates i r = (terminating, with (r terminating) i) ∷ []

-- "an undecided database decides by the outcome. The acknowledgement to that sender is sent in any case"
abbrev pub decides : ℕ → ℕ → Row → RowWrites
decides i d r =
    let first = not (has (r decided) d) in
    (decided, cond first (with (r decided) d) (r decided))
    ∷ (committed, cond first (put (r committed) d (eqb (r outcome) 1)) (r committed))
    ∷ (acked i, with (r (acked i)) d)
    ∷ []

-- "the server knows it"
abbrev pub knows : ℕ → ℕ → Row → RowWrites
knows i d r = (known i, with (r (known i)) d) ∷ []

-- ---- the rules

pub record Rule : Type 0 where
  -- "sent if" all of these hold, or number 6
  pub sent_if : List Bool
  -- all of these "must" hold, or number 7
  pub must : List Bool
  -- what an accepted event writes
  pub writes : Writes

-- a rule that asks and writes the row of one result alone
pub record RowRule : Type 0 where
  pub sent_if : List Bool
  pub must : List Bool
  pub writes : RowWrites

abbrev pub at_result : ℕ → ℕ → RowRule → Rule
at_result c k rule = record { sent_if = rule.sent_if; must = rule.must; writes = in_row c k rule.writes }

-- 1. Phase must be 0. Phase 1, attempt 1, request kept; the request is sent to server 1.
abbrev pub issue_rule : State → ℕ → ℕ → Rule
issue_rule s c v = record {
  sent_if = [];
  must = eqb (s (phase c)) 0 ∷ [];
  writes = (phase c, 1) ∷ (attempt c, 1) ∷ (request c, v) ∷ in_row c 1 (calls (row_of s c 1));
}

-- 2. Phase must be 1. The current attempt's request is sent to every server.
abbrev pub timeout_rule : Counts → State → ℕ → Rule
timeout_rule n s c = record {
  sent_if = [];
  must = eqb (s (phase c)) 1 ∷ [];
  writes = in_row c (s (attempt c)) ((sent, all n.servers) ∷ []);
}

-- 3. Sent if the server's bit is in the row. If owner is 0, owner becomes this server. Otherwise no change, also for the owner itself.
abbrev pub request_rule : ℕ → Row → RowRule
request_rule i r = record { sent_if = has (r sent) i ∷ []; must = []; writes = claims i r }

-- 4. The server must be owner and computed 0. Computed becomes the value; prepare is now sent to all databases.
abbrev pub compute_rule : ℕ → ℕ → Row → RowRule
compute_rule i v r = record { sent_if = []; must = eqb (r owner) i ∷ eqb (r computed) 0 ∷ []; writes = (computed, v) ∷ [] }

-- 5. Sent if computed is not 0. If the database has not voted, it votes: no if it has already decided this result, else as the event says.
abbrev pub prepare_rule : ℕ → ℕ → Row → RowRule
prepare_rule d v r = record { sent_if = ltb 0 (r computed) ∷ []; must = []; writes = votes d (eqb v 1) r }

-- 6. Sent if the server is owner and the database has voted. If computed is not 0, written is 0 and the database is unheard, it is heard, as yes or not.
abbrev pub vote_rule : ℕ → ℕ → Row → RowRule
vote_rule i d r = record {
  sent_if = eqb (r owner) i ∷ has (r voted) d ∷ [];
  must = [];
  writes = hears (listens d r) d (has (r voted_yes) d) r;
}

-- 7. Sent if the database's ready cell is 1. Under the condition of 6, and only at the owner, the database is heard, not as yes.
abbrev pub ready_rule : ℕ → ℕ → ℕ → Row → RowRule
ready_rule i d isReady r = record {
  sent_if = eqb isReady 1 ∷ [];
  must = [];
  writes = hears (eqb (r owner) i && listens d r) d false r;
}

-- 8. The server must be owner, computed not 0, written 0, all D heard. It offers commit with the computed value if the number heard as yes is D,
-- else abort with value 0. If the register is empty it takes the offer; where it was already written, the writer goes on with what it holds.
-- Written becomes 1, the server is terminating, decide is sent to all databases.
abbrev pub write_rule : ℕ → ℕ → Row → RowRule
write_rule D i r = record {
  sent_if = [];
  must = eqb (r owner) i ∷ ltb 0 (r computed) ∷ eqb (r written) 0 ∷ has_all D (r heard) ∷ [];
  writes = offers (verdict D r) r ((written, 1) ∷ terminates i r);
}

-- 9. A server may not name itself. The bit is set.
abbrev pub suspect_rule : State → ℕ → ℕ → Rule
suspect_rule s i o = record { sent_if = []; must = not (eqb i o) ∷ []; writes = (suspects i, with (s (suspects i)) o) ∷ [] }

-- 10. A server may not name itself. The bit is cleared.
abbrev pub trust_rule : State → ℕ → ℕ → Rule
trust_rule s i o = record { sent_if = []; must = not (eqb i o) ∷ []; writes = (suspects i, without (s (suspects i)) o) ∷ [] }

-- 11. Owner must not be 0 or this server, and must be suspected by it. Abort with 0 is offered to the register as in 8; this server is terminating.
abbrev pub clean_rule : ℕ → ℕ → Row → RowRule
clean_rule i suspected r = record {
  sent_if = [];
  must = ltb 0 (r owner) ∷ not (eqb (r owner) i) ∷ has suspected (r owner) ∷ [];
  writes = offers Abort r (terminates i r);
}

-- 12. Sent if the sender is terminating and outcome is not 0. An undecided database decides by the outcome. The acknowledgement to that sender is
-- sent in any case. The sender may be down.
abbrev pub decide_rule : ℕ → ℕ → Row → RowRule
decide_rule i d r = record { sent_if = has (r terminating) i ∷ ltb 0 (r outcome) ∷ []; must = []; writes = decides i d r }

-- 13. Sent if its bit is set. The server knows it.
abbrev pub ack_rule : ℕ → ℕ → Row → RowRule
ack_rule i d r = record { sent_if = has (r (acked i)) d ∷ []; must = []; writes = knows i d r }

-- 14. Sent if outcome is not 0 and the sender knows all D acknowledgements. If phase is 1 and the attempt is the current one: commit gives phase 2
-- and the value is delivered; abort gives the next attempt, its request sent to server 1, or phase 3 if the attempt was N.
abbrev pub result_rule : Counts → State → ℕ → ℕ → ℕ → Rule
result_rule n s c k i = record {
  sent_if = ltb 0 (s (row c k outcome)) ∷ has_all n.databases (s (row c k (known i))) ∷ [];
  must = [];
  writes = cond (eqb (s (phase c)) 1 && eqb (s (attempt c)) k)
      (cond (eqb (s (row c k outcome)) 1)
      ((phase c, 2) ∷ (delivered c, s (row c k value)) ∷ [])
      (cond (eqb k n.attempts) ((phase c, 3) ∷ []) ((attempt c, suc k) ∷ in_row c (suc k) (calls (row_of s c (suc k))))))
      [];
}

-- 15 to 17. Up becomes 0, nothing else changes.
abbrev pub server_crash_rule : ℕ → Rule
server_crash_rule i = record { sent_if = []; must = []; writes = (server_up i, 0) ∷ [] }

abbrev pub database_crash_rule : ℕ → Rule
database_crash_rule d = record { sent_if = []; must = []; writes = (database_up d, 0) ∷ [] }

abbrev pub client_crash_rule : ℕ → Rule
client_crash_rule c = record { sent_if = []; must = []; writes = (client_up c, 0) ∷ [] }

-- 18. Up and ready become 1. On a database that is up it gives 7.
abbrev pub recover_rule : State → ℕ → Rule
recover_rule s d = record { sent_if = []; must = eqb (s (database_up d)) 0 ∷ []; writes = (database_up d, 1) ∷ (ready d, 1) ∷ [] }

abbrev pub rule : Counts → State → Event → Rule
rule n s (issue c v) = issue_rule s c v
rule n s (timeout c) = timeout_rule n s c
rule n s (request_arrives c k i) = at_result c k (request_rule i (row_of s c k))
rule n s (compute c k i v) = at_result c k (compute_rule i v (row_of s c k))
rule n s (prepare_arrives c k d v) = at_result c k (prepare_rule d v (row_of s c k))
rule n s (vote_arrives c k i d) = at_result c k (vote_rule i d (row_of s c k))
rule n s (ready_arrives c k i d) = at_result c k (ready_rule i d (s (ready d)) (row_of s c k))
rule n s (write c k i) = at_result c k (write_rule n.databases i (row_of s c k))
rule n s (suspect i o) = suspect_rule s i o
rule n s (trust i o) = trust_rule s i o
rule n s (clean c k i) = at_result c k (clean_rule i (s (suspects i)) (row_of s c k))
rule n s (decide_arrives c k i d) = at_result c k (decide_rule i d (row_of s c k))
rule n s (ack_arrives c k i d) = at_result c k (ack_rule i d (row_of s c k))
rule n s (result_arrives c k i) = result_rule n s c k i
rule n s (server_crashes i) = server_crash_rule i
rule n s (database_crashes d) = database_crash_rule d
rule n s (client_crashes c) = client_crash_rule c
rule n s (database_recovers d) = recover_rule s d
