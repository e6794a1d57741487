-- The write-once registers: what their cells hold, and what a claim and an offer make of them.
use Rattle.std.specs.Prelude.{cond, List, ℕ, Option, None, Some, Result, Ok, Err, eqb, get_or, set}
use Rattle.registers.specs.declared.Decision.{Decision}
use Rattle.registers.specs.declared.Decision.TheVariants.{Commit, Abort}

-- ---- the register of claims: one cell, 0 while nobody owns it

-- the owner after a claim: the first claim stays
unfoldable pub claimed : ℕ → ℕ → ℕ
claimed owner server = cond (eqb owner 0) server owner

-- ---- the register of decisions: outcome (0 none, 1 commit, 2 abort) and value

-- the decision in the two cells, where the outcome is not 0; a value beside abort says nothing
abbrev pub decision_in : ℕ → ℕ → Decision
decision_in outcome value = cond (eqb outcome 1) (Commit value) Abort

-- what the two cells hold; a value beside none says nothing
unfoldable pub held : ℕ → ℕ → Option Decision
held outcome value = cond (eqb outcome 0) None (Some (decision_in outcome value))

-- the cells of a decision, and of none
abbrev pub outcome_of : Option Decision → ℕ
outcome_of None = 0
outcome_of (Some (Commit value)) = 1
outcome_of (Some Abort) = 2

abbrev pub value_of : Option Decision → ℕ
value_of None = 0
value_of (Some (Commit value)) = value
value_of (Some Abort) = 0

-- the outcome after an offer, and the value after it: the first decision stays, with the value beside it
unfoldable pub offered_outcome : ℕ → Option Decision → ℕ
offered_outcome outcome decision = cond (eqb outcome 0) (outcome_of decision) outcome

unfoldable pub offered_value : ℕ → ℕ → Option Decision → ℕ
offered_value outcome value decision = cond (eqb outcome 0) (value_of decision) value

-- ---- a write as its caller sees it: the answer, what the register took or what it held, and the cells that were lent

pub record Claiming : Type 0 where
  pub answer : Result ℕ ℕ
  pub cells : List ℕ

unfoldable pub claiming : List ℕ → ℕ → Claiming
unfolding claimed
claiming cells server = record {
  answer = cond (eqb (get_or cells 0 0) 0) (Ok server) (Err (get_or cells 0 0));
  cells = set cells 0 (claimed (get_or cells 0 0) server);
}

pub record Offering : Type 0 where
  pub answer : Result (Option Decision) Decision
  pub cells : List ℕ

unfoldable pub offering : List ℕ → Option Decision → Offering
unfolding offered_outcome offered_value
offering cells decision = record {
  answer = cond (eqb (get_or cells 0 0) 0) (Ok decision) (Err (decision_in (get_or cells 0 0) (get_or cells 1 0)));
  cells = set (set cells 0 (offered_outcome (get_or cells 0 0) decision)) 1 (offered_value (get_or cells 0 0) (get_or cells 1 0) decision);
}

-- what an answer says the register now holds
abbrev pub holding : Result (Option Decision) Decision → Option Decision
holding (Ok decision) = decision
holding (Err decision) = Some decision

abbrev pub owning : Result ℕ ℕ → ℕ
owning (Ok server) = server
owning (Err owner) = owner
