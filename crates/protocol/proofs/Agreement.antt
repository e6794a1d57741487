-- Demand 2: the invariants along every accepted list of events, and what they say of the state that it leads to.
use mathlib.Core.List.{List, [], ◌∷◌, ◌++◌, append_assoc, append-nil}
use mathlib.Core.Path.{◌≡◌, refl, sym, ◌∙◌}
use Prim.Native.Nat.{ℕ, ◌≤◌, ◌<◌}
use native.Mathlib.Omega.{arith}
use Rattle.masks.proofs.Laws.{has_zero, all_below}
use Rattle.protocol.specs.declared.Counts.{Counts}
use Rattle.protocol.specs.Cells.{State, owner, outcome, computed, phase, attempt, delivered, row, row_of, fresh}
use Rattle.protocol.specs.Events.{Event, compute}
use Rattle.protocol.specs.Numbers.{refusal}
use Rattle.protocol.specs.Machine.{next, run, Accepted}
use Rattle.protocol.specs.Agreement.{Agreement}
use Rattle.protocol.proofs.Acceptance.{met}
use Rattle.protocol.proofs.Rows.{alike}
use Rattle.protocol.proofs.RowSteps.{Rows, rows_step}
use Rattle.protocol.proofs.Clients.{Clients, clients_step, owned_reached}
use Rattle.protocol.proofs.History.{History, history_step, Once, once_step, nowhere}

-- ---- what holds of every state that an accepted list leads to

pub record Reached (n : Counts) (list : List Event) (s : State) : Type 0 where
  pub rows : Rows n s
  pub clients : Clients n s
  pub history : History list s
  pub once : Once list s

pub reached_fresh : (n : Counts) → Reached n [] (fresh n)
unfolding fresh
reached_fresh n = record {
  rows = λ x y. record {
    claim = record { owner_server = omega arith; owner_sent = λ h. absurd (omega arith); computed_owner = λ h. h };
    votes = record { yes_voted = λ d t. t; heard_said = λ d t. t; heard_below = omega (arith, all_below n.databases) };
    register = record {
      outcome_range = omega arith;
      commit_yes = λ e. absurd (omega arith);
      commit_value = λ e. refl;
      commit_computed = λ e. absurd (omega arith);
    };
    decisions = record {
      decided_outcome = λ d t. absurd (has_zero d t);
      committed_outcome = λ d t. absurd (has_zero d t);
      decided_committed = λ e d t. t;
      committed_decided_lem = λ d t. t;
    };
    answers = record { acked_decided = λ i d t. t; known_acked = λ i d t. t };
  };
  clients = λ x. record {
    idle = λ e. refl;
    busy = λ h. h;
    past = λ y low h. absurd (omega arith);
    future = λ y h. refl;
    done = λ e. absurd (omega arith);
  };
  history = record {
    issued = λ c h. absurd (omega arith);
    traced = λ c k. record { claimed = λ low h. absurd (omega arith); worked = λ low h. absurd (omega arith) };
  };
  once = λ c k i v h. absurd (nowhere (compute c k i v) h);
}

reached_step : (n : Counts) (list : List Event) (s : State) (e : Event) → Reached n list s → refusal n s e ≡ 0
    → Reached n (list ++ (e ∷ [])) (next n s e)
reached_step n list s e v accepted =
    let m = met n s e accepted in
    record {
      rows = rows_step n s e v.rows m;
      clients = clients_step n s v.rows v.clients e m;
      history = history_step n list s v.rows v.clients v.history e m;
      once = once_step n list s v.rows v.once e m;
    }

pub reached_run : (n : Counts) (before list : List Event) (s : State) → Reached n before s → Accepted n s list
    → Reached n (before ++ list) (run n s list)
unfolding run
reached_run n before [] s v accepted = rw append-nil v
reached_run n before (e ∷ list) s v accepted =
    rw append_assoc at (reached_run n (before ++ (e ∷ [])) list (next n s e) (reached_step n before s e v accepted.0) accepted.1)

-- ---- what that says

module _ (n : Counts) (list : List Event) (s : State) (v : Reached n list s) where
  -- a committed result was computed, so it was claimed, so the client has come to its attempt
  begun : (c k : ℕ) → 1 ≤ k → s (row c k outcome) ≡ 1 → k ≤ s (attempt c)
  begun c k low one =
      let r = v.rows c k in
      (owned_reached n s v.rows v.clients c k low (r.claim.computed_owner (r.register.commit_computed one))).1

  -- and every attempt before that was aborted
  one_commit : (c k l : ℕ) → 1 ≤ k → s (row c k outcome) ≡ 1 → s (row c l outcome) ≡ 1 → k < l → ⊥
  one_commit c k l low one other h = omega (arith, (v.clients c).past k low (omega (arith, begun c l (omega arith) other)))

  -- what was delivered was computed
  delivered_computed : (c : ℕ) → s (phase c) ≡ 2 → s (delivered c) ≡ s (row c (s (attempt c)) computed)
  delivered_computed c two =
      let d = (v.clients c).done two in
      d.right_value ∙ (v.rows c (s (attempt c))).register.commit_value d.commits

  agrees : Agreement n list s
  agrees = record {
    A1 = λ c client two d database.
        let all = ((v.clients c).done two).everywhere d database in
        ((v.rows c (s (attempt c))).decisions.committed_decided_lem d all, all);
    A2 = λ c k l d client attempt-k attempt-l database t u.
        let one = (v.rows c k).decisions.committed_outcome d t in
        let other = (v.rows c l).decisions.committed_outcome d u in
        omega (arith, one_commit c k l attempt-k.0 one other, one_commit c l k attempt-l.0 other one);
    A3 = λ c k d e client attempt database other. alike n (row_of s c k) (v.rows c k) d e;
    committed_decided = λ c k d client attempt database. (v.rows c k).decisions.committed_decided_lem d;
    V1 = λ c client two.
        let r = v.rows c (s (attempt c)) in
        let h = r.register.commit_computed ((v.clients c).done two).commits in (
          s (row c (s (attempt c)) owner),
          (r.claim.computed_owner h, r.claim.owner_server),
          rw (delivered_computed c two) ((v.history.traced c (s (attempt c))).worked ((v.clients c).busy (omega arith)) h),
        );
    V1Only = λ c client two i x h. sym (delivered_computed c two ∙ (v.once c (s (attempt c)) i x h).1);
    delivers = λ c client two. ((v.clients c).done two).right_value;
    V2 = λ c k d client attempt database t e other.
        let said = (v.rows c k).register.commit_yes ((v.rows c k).decisions.committed_outcome d t) e other in
        ((v.rows c k).votes.yes_voted e said, said);
  }

-- (for any counts: their ranges play no part)
pub agreement : (n : Counts) (list : List Event) → Accepted n (fresh n) list → Agreement n list (run n (fresh n) list)
agreement n list accepted = agrees n list (run n (fresh n) list) (reached_run n [] list (fresh n) (reached_fresh n) accepted)
