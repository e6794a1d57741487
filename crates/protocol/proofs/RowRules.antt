-- The rules of a row keep the row invariant, and lose nothing: one lemma for each rule. A lemma shows the clauses on the cells that its rule writes,
-- each by the clause's name, and `search` takes all others from the row before, where they stand unchanged.
use mathlib.Core.Bool.{Bool, false, not, cond, ◌&&◌}
use mathlib.Core.List.{[], ◌∷◌}
use mathlib.Core.Path.{◌≡◌, refl}
use Prim.Native.Nat.{ℕ, ◌≤◌, ◌<◌}
use native.Mathlib.Omega.{arith}
use lib.Dec.{T, eqb, eqb→eq, ltb→lt, T_not}
use Rattle.lists.specs.Tests.{All}
use Rattle.lists.proofs.Choice.{by_cond, by_bool, by_both, not_not}
use Rattle.masks.specs.Mask.{has, with, put, all, count}
use Rattle.masks.proofs.Laws.{has_all_in, has_put_same, mark, keep, keep_other, with_elim, put_elim, keep_at, at_elim, put_below, counted_all, has_all_has}
use Rattle.registers.specs.Register.{outcome_of, value_of, claimed}
use Rattle.std.specs.Prelude.{Option, None, Some}
use Rattle.registers.specs.declared.Decision.{Decision}
use Rattle.registers.specs.declared.Decision.TheVariants.{Commit, Abort}
use Rattle.registers.proofs.Laws.{claim_elim, claim_once, offer_elim}
use Rattle.protocol.specs.declared.Counts.{Counts}
use Rattle.protocol.specs.Cells.{owner, outcome, value, computed, sent, voted, voted_yes, heard_yes, terminating, decided, committed, acked, known}
use Rattle.protocol.specs.Cells.{Row, store_fields}
use Rattle.protocol.specs.Rules.{calls, listens, hears, offers, terminates, RowRule}
use Rattle.protocol.specs.Rules.{request_rule, compute_rule, prepare_rule, vote_rule, ready_rule, write_rule, clean_rule, decide_rule, ack_rule}
use Rattle.protocol.specs.Agreement.{Id}
use Rattle.protocol.proofs.Rows.{Within, Everyone, RowInvariant, Grows, grows_refl}

-- the row after a rule
abbrev pub after : Row → RowRule → Row
after r rule = store_fields r rule.writes

abbrev pub Keeps : Counts → Row → Row → Type 0
Keeps n r q = record { invariant : RowInvariant n q; grows : Grows r q }

-- a party written into one mask and put into another
put_with : (m l d : ℕ) (b : Bool) → 1 ≤ d → Within m l → Within (put m d b) (with l d)
put_with m l d b low f = put_elim (λ j. T (has (with l d) j)) m d b (λ t. mark l d low) (λ j u. keep l d j (f j u))

pub outcome_most : (decision : Option Decision) → outcome_of decision ≤ 2
outcome_most None = omega arith
outcome_most (Some (Commit x)) = omega arith
outcome_most (Some Abort) = omega arith

module _ (n : Counts) (r : Row) (v : RowInvariant n r) where
  -- 1 and 14: what was sent stays sent
  pub calls_keep : Keeps n r (store_fields r (calls r))
  calls_keep =
      let owner_sent : 0 < r owner → T (has (with (r sent) 1) (r owner)) = λ h. keep (r sent) 1 (r owner) (v.claim.owner_sent h) in
      search (v, grows_refl r)

  -- 2: the owner is one of all servers
  pub timeout_keeps : Keeps n r (store_fields r ((sent, all n.servers) ∷ []))
  timeout_keeps =
      let owner_sent : 0 < r owner → T (has (all n.servers) (r owner)) = λ h. has_all_in n.servers (r owner) h v.claim.owner_server in
      search (v, grows_refl r)

  -- 3: the register of claims keeps its first
  pub request_keeps : (i : ℕ) → Id n.servers i → All (request_rule i r).sent_if → Keeps n r (after r (request_rule i r))
  request_keeps i server sent_if =
      let owner_server = claim_elim (λ o. o ≤ n.servers) (r owner) i (λ e. server.1) (λ h. v.claim.owner_server) in
      let owner_sent = claim_elim (λ o. 0 < o → T (has (r sent) o)) (r owner) i (λ e h. sent_if.0) (λ h. v.claim.owner_sent) in
      let computed_owner : 0 < r computed → 0 < claimed (r owner) i = λ h. claim_elim (λ o. 0 < o) (r owner) i (λ e. server.0) (λ h. h) in
      let same_owner = claim_once (r owner) i in
      search (v, grows_refl r)

  -- 4: nothing was computed, so nothing was offered as commit
  pub compute_keeps : (i x : ℕ) → 1 ≤ i → All (compute_rule i x r).must → Keeps n r (after r (compute_rule i x r))
  compute_keeps i x low must =
      let none : r computed ≡ 0 = eqb→eq (r computed) 0 must.1.0 in
      let computed_owner : 0 < x → 0 < r owner = λ h. omega (arith, eqb→eq (r owner) i must.0) in
      let commit_value : r outcome ≡ 1 → r value ≡ x = λ e. absurd (omega (arith, v.register.commit_computed e)) in
      let commit_computed : r outcome ≡ 1 → 0 < x = λ e. absurd (omega (arith, v.register.commit_computed e)) in
      let same_computed : 0 < r computed → x ≡ r computed = λ h. absurd (omega arith) in
      search (v, grows_refl r)

  -- the row after a database's answer, if that is its first
  abbrev voted_as : Bool → ℕ → Bool → Row
  voted_as first d answer =
      store_fields r ((voted, cond first (with (r voted) d) (r voted)) ∷ (voted_yes, cond first (put (r voted_yes) d answer) (r voted_yes)) ∷ [])

  -- a database that has not voted was not heard, and no commit was offered without it
  votes_keep : (d : ℕ) (answer : Bool) → 1 ≤ d → Keeps n r (voted_as (not (has (r voted) d)) d answer)
  votes_keep d answer low =
      by_bool (λ b. Keeps n r (voted_as b d answer)) (not (has (r voted) d))
      (λ t.
      let yes_voted = put_with (r voted_yes) (r voted) d answer low v.votes.yes_voted in
      let grow_voted_yes = keep_other (r voted_yes) d answer (λ u. T_not (has (r voted) d) t (v.votes.yes_voted d u)) in
      let heard_said : Within (r heard_yes) (put (r voted_yes) d answer) = λ j u. grow_voted_yes j (v.votes.heard_said j u) in
      let commit_yes : r outcome ≡ 1 → Everyone n (put (r voted_yes) d answer) = λ e j database. grow_voted_yes j (v.register.commit_yes e j database) in
      search (v, grows_refl r))
      (search (v, grows_refl r))

  -- 5
  pub prepare_keeps : (d x : ℕ) → 1 ≤ d → Keeps n r (after r (prepare_rule d x r))
  prepare_keeps d x low = votes_keep d _ low

  -- only what was said is heard as yes
  hears_keep : (listening : Bool) (d : ℕ) (says : Bool) → d ≤ n.databases → (T says → T (has (r voted_yes) d))
      → Keeps n r (store_fields r (hears listening d says r))
  hears_keep listening d says high said =
      by_bool (λ b. Keeps n r (store_fields r (hears b d says r))) listening
      (λ t.
      let heard_said = put_elim (λ j. T (has (r voted_yes) j)) (r heard_yes) d says said v.votes.heard_said in
      let heard_below = put_below n.databases (r heard_yes) d says v.votes.heard_below high in
      search (v, grows_refl r))
      (search (v, grows_refl r))

  -- 6
  pub vote_keeps : (i d : ℕ) → d ≤ n.databases → Keeps n r (after r (vote_rule i d r))
  vote_keeps i d high = hears_keep (listens d r) d (has (r voted_yes) d) high (λ t. t)

  -- 7
  pub ready_keeps : (i d isReady : ℕ) → d ≤ n.databases → Keeps n r (after r (ready_rule i d isReady r))
  ready_keeps i d isReady high = hears_keep (eqb (r owner) i && listens d r) d false high (λ t. absurd t)

  -- what may be offered: abort, or commit with the value computed when all have voted yes
  abbrev Founded : Decision → Type 0
  Founded decision = outcome_of (Some decision) ≡ 1 → Everyone n (r voted_yes) × (value_of (Some decision) ≡ r computed) × (0 < r computed)

  -- a register that is empty takes the offer, and then nobody has decided yet
  offers_keep : (decision : Decision) (i : ℕ) → Founded decision → Keeps n r (store_fields r (offers decision r (terminates i r)))
  offers_keep decision i founded =
      let grow_terminating = keep (r terminating) i in
      offer_elim (λ o x. Keeps n r (store_fields r ((outcome, o) ∷ (value, x) ∷ terminates i r))) (r outcome) (r value) (Some decision)
      (λ empty.
      let undecided : (d : ℕ) → T (has (r decided) d) → ⊥ = λ d u. omega (arith, v.decisions.decided_outcome d u) in
      let uncommitted : (d : ℕ) → T (has (r committed) d) → ⊥ = λ d u. undecided d (v.decisions.committed_decided_lem d u) in
      let outcome_range = outcome_most (Some decision) in
      let commit_yes : outcome_of (Some decision) ≡ 1 → Everyone n (r voted_yes) = λ e. (founded e).0 in
      let commit_value : outcome_of (Some decision) ≡ 1 → value_of (Some decision) ≡ r computed = λ e. (founded e).1 in
      let commit_computed : outcome_of (Some decision) ≡ 1 → 0 < r computed = λ e. (founded e).2 in
      let decided_outcome : (d : ℕ) → T (has (r decided) d) → 0 < outcome_of (Some decision) = λ d u. absurd (undecided d u) in
      let committed_outcome : (d : ℕ) → T (has (r committed) d) → outcome_of (Some decision) ≡ 1 = λ d u. absurd (uncommitted d u) in
      let decided_committed : outcome_of (Some decision) ≡ 1 → Within (r decided) (r committed) = λ e d u. absurd (undecided d u) in
      let same_outcome : 0 < r outcome → outcome_of (Some decision) ≡ r outcome = λ h. absurd (omega arith) in
      let same_value : 0 < r outcome → value_of (Some decision) ≡ r value = λ h. absurd (omega arith) in
      search (v, grows_refl r))
      (λ h. search (v, grows_refl r))

  -- 8: a count of D is yes from all
  pub write_keeps : (i : ℕ) → All (write_rule n.databases i r).must → Keeps n r (after r (write_rule n.databases i r))
  write_keeps i must =
      by_cond (λ decision. Keeps n r (store_fields r (offers decision r (terminates i r)))) (eqb (count (r heard_yes)) n.databases)
      (Commit (r computed)) Abort
      (λ t.
      let whole = counted_all n.databases (r heard_yes) v.votes.heard_below (eqb→eq (count (r heard_yes)) n.databases t) in
      let yes_all : Everyone n (r voted_yes) = λ d database. v.votes.heard_said d (has_all_has n.databases (r heard_yes) d whole database.0 database.1) in
      offers_keep (Commit (r computed)) i (λ e. (yes_all, refl, ltb→lt 0 (r computed) must.1.0)))
      (λ t. offers_keep Abort i (λ e. absurd (omega arith)))

  -- 11
  pub clean_keeps : (i suspected : ℕ) → Keeps n r (after r (clean_rule i suspected r))
  clean_keeps i suspected = offers_keep Abort _ (λ e. absurd (omega arith))

  -- 12: a database that has decided stays as it is, and acknowledges in any case
  pub decide_keeps : (i d : ℕ) → 1 ≤ d → All (decide_rule i d r).sent_if → Keeps n r (after r (decide_rule i d r))
  decide_keeps i d low sent_if =
      let grow_acked = keep_at (λ k. r (acked k)) i d in
      let known_acked : (k : ℕ) → Within (r (known k)) (acks k) = λ k j u. grow_acked k j (v.answers.known_acked k j u) in
      by_both (λ b. Keeps n r (decided_if b)) (not (has (r decided) d))
      (λ t.
      let grow_decided = keep (r decided) d in
      let grow_committed = keep_other (r committed) d commit (λ u. T_not (has (r decided) d) t (v.decisions.committed_decided_lem d u)) in
      let decided_outcome : (j : ℕ) → T (has (with (r decided) d) j) → 0 < r outcome = λ j u. ltb→lt 0 (r outcome) sent_if.1.0 in
      let committed_outcome = put_elim (λ j. r outcome ≡ 1) (r committed) d commit (eqb→eq (r outcome) 1) v.decisions.committed_outcome in
      let decided_committed = all_committed grow_committed in
      let committed_decided_lem = put_with (r committed) (r decided) d commit low v.decisions.committed_decided_lem in
      let acked_decided = all_acked (with (r decided) d) (mark (r decided) d low) grow_decided in
      search (v, grows_refl r))
      (λ t.
      let acked_decided = all_acked (r decided) (not_not (has (r decided) d) t) (λ j u. u) in
      search (v, grows_refl r))
    where
      commit : Bool
      commit = eqb (r outcome) 1

      acks : ℕ → ℕ
      acks k = after r (decide_rule i d r) (acked k)

      decided_if : Bool → Row
      decided_if b = store_fields r (
          (decided, cond b (with (r decided) d) (r decided))
          ∷ (committed, cond b (put (r committed) d commit) (r committed))
          ∷ (acked i, with (r (acked i)) d)
          ∷ [])

      all_committed : Within (r committed) (put (r committed) d commit) → r outcome ≡ 1 → Within (with (r decided) d) (put (r committed) d commit)
      all_committed grow e =
          with_elim (λ j. T (has (put (r committed) d commit) j)) (r decided) d
          (rw has_put_same (rw e tt)) (λ j u. grow j (v.decisions.decided_committed e j u))

      all_acked : (m : ℕ) → T (has m d) → Within (r decided) m → (k : ℕ) → Within (acks k) m
      all_acked m t grow = at_elim (λ k j. T (has m j)) (λ k. r (acked k)) i d t (λ k j u. grow j (v.answers.acked_decided k j u))

  -- 13: the acknowledgement was sent
  pub ack_keeps : (i d : ℕ) → All (ack_rule i d r).sent_if → Keeps n r (after r (ack_rule i d r))
  ack_keeps i d sent_if =
      let known_acked = at_elim (λ k j. T (has (r (acked k)) j)) (λ k. r (known k)) i d sent_if.0 v.answers.known_acked in
      let grow_known = keep_at (λ k. r (known k)) i d in
      search (v, grows_refl r)
