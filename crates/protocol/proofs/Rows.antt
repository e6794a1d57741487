-- The row invariant, and what a row never loses.
use mathlib.Core.Path.{◌≡◌, ◌∙◌}
use Prim.Native.Nat.{ℕ, ◌≤◌, ◌<◌, ◌^◌}
use lib.Dec.{T}
use Rattle.lists.proofs.Choice.{same_answer}
use Rattle.masks.specs.Mask.{has}
use Rattle.protocol.specs.declared.Counts.{Counts}
use Rattle.protocol.specs.Cells.{owner, outcome, value, computed, sent, voted, voted_yes, heard_yes, terminating, decided, committed, acked, known, Row}
use Rattle.protocol.specs.Agreement.{Id}

-- whoever is in the one mask is in the other
abbrev pub Within : ℕ → ℕ → Type 0
Within m l = (d : ℕ) → T (has m d) → T (has l d)

-- each database is in the mask
abbrev pub Everyone : Counts → ℕ → Type 0
Everyone n m = (d : ℕ) → Id n.databases d → T (has m d)

-- ---- the invariant, in groups: a rule that writes none of a group's cells keeps the group as it stands

abbrev pub Claim : Counts → Row → Type 0
Claim n r = record {
  -- a claim names its server
  owner_server : r owner ≤ n.servers;
  -- a server claims a request that was sent to it, and what was sent stays sent
  owner_sent : 0 < r owner → T (has (r sent) (r owner));
  -- the owner computes, and stays owner
  computed_owner : 0 < r computed → 0 < r owner;
}

abbrev pub Votes : Counts → Row → Type 0
Votes n r = record {
  -- yes is said by the vote itself, and a database votes once
  yes_voted : Within (r voted_yes) (r voted);
  -- a vote is heard as it was cast, and ready is not heard as yes
  heard_said : Within (r heard_yes) (r voted_yes);
  -- only databases are heard: so a count of D is all of them
  heard_below : r heard_yes < 2 ^ n.databases;
}

abbrev pub Register : Counts → Row → Type 0
Register n r = record {
  -- commit or abort is offered
  outcome_range : r outcome ≤ 2;
  -- commit is offered when yes was heard from all
  commit_yes : r outcome ≡ 1 → Everyone n (r voted_yes);
  -- it is offered with the value computed, and a server computes once
  commit_value : r outcome ≡ 1 → r value ≡ r computed;
  -- and only after computing
  commit_computed : r outcome ≡ 1 → 0 < r computed;
}

abbrev pub Decisions : Row → Type 0
Decisions r = record {
  -- a decision is sent once the register is written
  decided_outcome : (d : ℕ) → T (has (r decided) d) → 0 < r outcome;
  -- a database commits by the outcome, and the register is written once
  committed_outcome : (d : ℕ) → T (has (r committed) d) → r outcome ≡ 1;
  -- so a database that decided after a commit has committed
  decided_committed : r outcome ≡ 1 → Within (r decided) (r committed);
  -- committing is deciding
  committed_decided_lem : Within (r committed) (r decided);
}

abbrev pub Answers : Row → Type 0
Answers r = record {
  -- a database acknowledges what it has decided
  acked_decided : (i : ℕ) → Within (r (acked i)) (r decided);
  -- a server knows what was acknowledged to it
  known_acked : (i : ℕ) → Within (r (known i)) (r (acked i));
}

abbrev pub RowInvariant : Counts → Row → Type 0
RowInvariant n r = record { claim : Claim n r; votes : Votes n r; register : Register n r; decisions : Decisions r; answers : Answers r }

-- all that decide, decide alike
pub alike : (n : Counts) (r : Row) → RowInvariant n r → (d e : ℕ) → T (has (r decided) d) → T (has (r decided) e)
    → has (r committed) d ≡ has (r committed) e
alike n r v d e t u =
    same_answer (has (r committed) d) (has (r committed) e)
    (λ w. v.decisions.decided_committed (v.decisions.committed_outcome d w) e u)
    (λ w. v.decisions.decided_committed (v.decisions.committed_outcome e w) d t)

-- ---- what a row never loses

abbrev pub Grows : Row → Row → Type 0
Grows r q = record {
  -- written once
  same_owner : 0 < r owner → q owner ≡ r owner;
  same_computed : 0 < r computed → q computed ≡ r computed;
  same_outcome : 0 < r outcome → q outcome ≡ r outcome;
  same_value : 0 < r outcome → q value ≡ r value;
  -- nobody leaves
  grow_voted_yes : Within (r voted_yes) (q voted_yes);
  grow_terminating : Within (r terminating) (q terminating);
  grow_decided : Within (r decided) (q decided);
  grow_committed : Within (r committed) (q committed);
  grow_acked : (i : ℕ) → Within (r (acked i)) (q (acked i));
  grow_known : (i : ℕ) → Within (r (known i)) (q (known i));
}

pub grows_refl : (r : Row) → Grows r r
grows_refl r = search

pub grows_trans : (r q p : Row) → Grows r q → Grows q p → Grows r p
grows_trans r q p f g = record {
  same_owner = λ h. g.same_owner (rw (f.same_owner h) h) ∙ f.same_owner h;
  same_computed = λ h. g.same_computed (rw (f.same_computed h) h) ∙ f.same_computed h;
  same_outcome = λ h. g.same_outcome (rw (f.same_outcome h) h) ∙ f.same_outcome h;
  same_value = λ h. g.same_value (rw (f.same_outcome h) h) ∙ f.same_value h;
  grow_voted_yes = λ d t. g.grow_voted_yes d (f.grow_voted_yes d t);
  grow_terminating = λ i t. g.grow_terminating i (f.grow_terminating i t);
  grow_decided = λ d t. g.grow_decided d (f.grow_decided d t);
  grow_committed = λ d t. g.grow_committed d (f.grow_committed d t);
  grow_acked = λ i d t. g.grow_acked i d (f.grow_acked i d t);
  grow_known = λ i d t. g.grow_known i d (f.grow_known i d t);
}
