-- The rules over the whole table: what a rule gives and leaves, and the rules of a row by their kinds.
use Rattle.std.specs.Prelude.{◌≡◌, Bool, true, cond, ◌&&◌, ◌||◌, List, [], ◌∷◌, ℕ, suc, ◌≤◌, T, eqb, length}
use Rattle.lists.specs.Tests.{every, inside}
use Rattle.protocol.specs.declared.Counts.{Counts}
use Rattle.protocol.specs.declared.Event.{Event}
use Rattle.protocol.specs.Cells.{outcome, value, ready, suspects, phase, attempt, delivered, row, Row, State, row_of, Writes, in_row}
use Rattle.protocol.specs.Numbers.{fields, in_range}
use Rattle.protocol.specs.Rules.{Rule, RowRule, at_result, calls, request_rule, compute_rule, prepare_rule, vote_rule, ready_rule, write_rule, clean_rule, decide_rule, ack_rule}
use Rattle.table.specs.Layout.{table_length}
use Rattle.table.specs.Table.{view, set_all}
use Rattle.table.specs.Jobs.{Done}
use Rattle.layout.specs.Ranged.{Ranged}

-- a sound table of these counts
pub record Held (n : Counts) (t : List ℕ) : Type 0 where
  pub long : length t ≡ table_length n
  pub ranged : Ranged n
  pub range : T (in_range n (view n t))

-- a result of a table of these counts
pub record Named (n : Counts) (t : List ℕ) (c k : ℕ) : Type 0 where
  pub long : length t ≡ table_length n
  pub ranged : Ranged n
  pub client : T (inside n.clients c)
  pub attempt : T (inside n.attempts k)

-- the number that a rule gives, and the cells after it
abbrev pub rule_number : Rule → ℕ
rule_number rule = cond (every rule.sent_if) (cond (every rule.must) 0 7) 6

abbrev pub ruled : Counts → List ℕ → Rule → Done
ruled n t rule = record { number = rule_number rule; cells = cond (eqb (rule_number rule) 0) (set_all n t rule.writes) t }

-- ---- rule 14 in parts: what an abort, and what any result, does to the client

abbrev pub aborted : Counts → State → ℕ → ℕ → Writes
aborted n s c k = cond (eqb k n.attempts) ((phase c, 3) ∷ []) ((attempt c, suc k) ∷ in_row c (suc k) (calls (row_of s c (suc k))))

abbrev pub concluded : Counts → State → ℕ → ℕ → Writes
concluded n s c k =
    cond (eqb (s (phase c)) 1 && eqb (s (attempt c)) k)
    (cond (eqb (s (row c k outcome)) 1) ((phase c, 2) ∷ (delivered c, s (row c k value)) ∷ []) (aborted n s c k))
    []

-- ---- the rules of a row by their kinds: 3 to 8 and 11 to 13

abbrev pub of_row : ℕ → Bool
of_row kind =
    eqb kind 3 || (eqb kind 4 || (eqb kind 5 || (eqb kind 6 || (eqb kind 7 || (eqb kind 8 || (eqb kind 11 || (eqb kind 12 || eqb kind 13)))))))

abbrev pub row_rule : Counts → Event → ℕ → ℕ → Row → RowRule
row_rule n e isReady suspected r =
    cond (eqb e.kind 3) (request_rule e.server r)
    (cond (eqb e.kind 4) (compute_rule e.server e.value r)
    (cond (eqb e.kind 5) (prepare_rule e.database e.value r)
    (cond (eqb e.kind 6) (vote_rule e.server e.database r)
    (cond (eqb e.kind 7) (ready_rule e.server e.database isReady r)
    (cond (eqb e.kind 8) (write_rule n.databases e.server r)
    (cond (eqb e.kind 11) (clean_rule e.server suspected r)
    (cond (eqb e.kind 12) (decide_rule e.server e.database r) (ack_rule e.server e.database r))))))))

-- the event is of such a kind, its fields are as the table of kinds says, and so name a result, and no server or database beyond the last
pub record Follows (n : Counts) (e : Event) : Type 0 where
  pub kind : of_row e.kind ≡ true
  pub fits : every (fields n e) ≡ true
  pub client : T (inside n.clients e.client)
  pub attempt : T (inside n.attempts e.attempt)
  pub server : e.server ≤ n.servers
  pub database : e.database ≤ n.databases

-- such a rule at the event's result
abbrev pub row_ruled : Counts → Event → State → Rule
row_ruled n e s = at_result e.client e.attempt (row_rule n e (s (ready e.database)) (s (suspects e.server)) (row_of s e.client e.attempt))
