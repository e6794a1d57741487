-- The history invariant: the accepted events that lie behind a request, a claim and a computed value, and that a value is computed once;
-- and that the machine keeps it.
use mathlib.Core.Bool.{cond}
use mathlib.Core.List.{List, [], ◌∷◌, ◌++◌, append-nil}
use mathlib.Core.Logic.{◌⊎◌, inl, inr}
use mathlib.Core.Path.{◌≡◌, refl, subst, ◌∙◌}
use Prim.Native.Nat.{ℕ, ◌≤◌, ◌<◌}
use native.Mathlib.Omega.{arith}
use lib.Dec.{eqb, eqb→eq}
use Rattle.lists.proofs.Choice.{by_bool, inside_low}
use Rattle.masks.proofs.Laws.{has_positive}
use Rattle.registers.proofs.Laws.{claim_elim}
use Rattle.protocol.specs.declared.Counts.{Counts}
use Rattle.protocol.specs.Cells.{owner, computed, sent, phase, request, row, State, Row, row_of, store, store_all, store_fields}
use Rattle.protocol.specs.Events.{Event, issue, timeout, request_arrives, compute, prepare_arrives, vote_arrives, ready_arrives, write, suspect, trust, clean, decide_arrives, ack_arrives, result_arrives, server_crashes, database_crashes, client_crashes, database_recovers}
use Rattle.protocol.specs.Rules.{request_rule, compute_rule}
use Rattle.protocol.specs.Machine.{next, Met}
use Rattle.protocol.specs.Agreement.{InOrder, none, skip, take}
use Rattle.protocol.proofs.Store.{Waits, on_row, at_row, result_elim}
use Rattle.protocol.proofs.RowSteps.{Rows, grows_step}
use Rattle.protocol.proofs.Clients.{Clients, sent_reached, owned_reached}

-- ---- events in order

in_append : {wanted list more rest : List Event} → InOrder wanted list → InOrder more rest → InOrder (wanted ++ more) (list ++ rest)
in_append none g = g
in_append (skip h) g = skip (in_append h g)
in_append (take h) g = take (in_append h g)

in_longer : {wanted list : List Event} (e : Event) → InOrder wanted list → InOrder wanted (list ++ (e ∷ []))
in_longer e h = rw append-nil at (in_append h (skip {e = e} none))

in_last : {wanted list : List Event} (e : Event) → InOrder wanted list → InOrder (wanted ++ (e ∷ [])) (list ++ (e ∷ []))
in_last e h = in_append h (take none)

in_any : (list : List Event) → InOrder [] list
in_any [] = none
in_any (e ∷ list) = skip (in_any list)

pub nowhere : (x : Event) → InOrder (x ∷ []) [] → ⊥
nowhere x h = elim h [ ]

-- one event of a longer list: it stood in the list before, or it is the last
in_split : (x e : Event) (list : List Event) → InOrder (x ∷ []) (list ++ (e ∷ [])) → InOrder (x ∷ []) list ⊎ (x ≡ e)
in_split x e [] (skip h) = absurd (nowhere x h)
in_split x e [] (take h) = inr refl
in_split x e (y ∷ list) (skip h) = elim (in_split x e list h) [ inl before ↦ inl (skip before) | inr last ↦ inr last ]
in_split x e (y ∷ list) (take h) = inl (take (in_any list))

-- ---- the invariant

-- how the result (c, k) came about: the request q was issued, arrived at the owner, and the owner computed
abbrev pub Traced : List Event → ℕ → ℕ → ℕ → Row → Type 0
Traced list q c k r = record {
  -- a server claims a request that was sent, and it is sent once it is issued
  claimed : 1 ≤ k → 0 < r owner → InOrder (issue c q ∷ request_arrives c k (r owner) ∷ []) list;
  -- the owner computes, and stays owner
  worked : 1 ≤ k → 0 < r computed → InOrder (issue c q ∷ request_arrives c k (r owner) ∷ compute c k (r owner) (r computed) ∷ []) list;
}

abbrev pub History : List Event → State → Type 0
History list s = record {
  -- a client issues once, and its request is kept
  issued : (c : ℕ) → 0 < s (phase c) → InOrder (issue c (s (request c)) ∷ []) list;
  traced : (c k : ℕ) → Traced list (s (request c)) c k (row_of s c k);
}

-- what was computed for a result is what its row holds: a server computes where nothing was computed, and what it computed stays
abbrev pub Once : List Event → State → Type 0
Once list s = (c k i v : ℕ) → InOrder (compute c k i v ∷ []) list → (0 < v) × (s (row c k computed) ≡ v)

-- ---- every step keeps it

module _ (n : Counts) (list : List Event) (s : State) (rows : Rows n s) (clients : Clients n s) (history : History list s) where
  -- a step that writes no phase, request, owner or computed value
  longer : (e : Event) → History (list ++ (e ∷ [])) s
  longer e = record {
    issued = λ c h. in_longer e (history.issued c h);
    traced = λ c k. record {
      claimed = λ low h. in_longer e ((history.traced c k).claimed low h);
      worked = λ low h. in_longer e ((history.traced c k).worked low h);
    };
  }

  -- nothing is claimed before the request
  unclaimed : (c k : ℕ) → s (phase c) ≡ 0 → 1 ≤ k → 0 < s (row c k owner) → ⊥
  unclaimed c k z low h = omega (arith, owned_reached n s rows clients c k low h)

  pub history_step : (e : Event) → Met n s e → History (list ++ (e ∷ [])) (next n s e)
  unfolding next
  history_step (issue c v) m =
      let after = list ++ (issue c v ∷ []) in
      let old = longer (issue c v) in
      record {
        issued = λ x. by_bool (λ b. 0 < cond b 1 (s (phase x)) → InOrder (issue x (cond b v (s (request x))) ∷ []) after) (eqb c x)
            (λ t h. rw (← eqb→eq c x t) (in_last (issue c v) (in_any list))) (old.issued x);
        traced = λ x y. by_bool (λ b. Traced after (cond b v (s (request x))) x y (row_of s x y)) (eqb c x)
            (λ t.
            let z : s (phase x) ≡ 0 = rw (← eqb→eq c x t) (eqb→eq (s (phase c)) 0 m.must.0) in
            record {
              claimed = λ low h. absurd (unclaimed x y z low h);
              worked = λ low h. absurd (unclaimed x y z low ((rows x y).claim.computed_owner h));
            })
            (old.traced x y);
      }
  history_step (timeout c) m = longer (timeout c)
  history_step (request_arrives c k i) m =
      let after = list ++ (request_arrives c k i ∷ []) in
      let old = longer (request_arrives c k i) in
      record {
        issued = old.issued;
        traced = on_row (λ x y. Traced after (s (request x)) x y) s c k (request_rule i (row_of s c k)).writes old.traced
            (claim_elim (λ o. Traced after (s (request c)) c k (store_fields (row_of s c k) ((owner, o) ∷ []))) (s (row c k owner)) i
            (λ z. record {
              claimed = λ low h. in_last (request_arrives c k i)
                  (history.issued c (sent_reached n s rows clients c k low (has_positive (s (row c k sent)) i m.post.0)).0);
              worked = λ low h. absurd (omega (arith, (rows c k).claim.computed_owner h));
            })
            (λ h. old.traced c k));
      }
  history_step (compute c k i v) m =
      let after = list ++ (compute c k i v ∷ []) in
      let old = longer (compute c k i v) in
      record {
        issued = old.issued;
        traced = on_row (λ x y. Traced after (s (request x)) x y) s c k (compute_rule i v (row_of s c k)).writes old.traced
            (record {
              claimed = (old.traced c k).claimed;
              worked = λ low h.
                  let o : s (row c k owner) ≡ i = eqb→eq (s (row c k owner)) i m.must.0 in
                  let first = (history.traced c k).claimed low (omega (arith, inside_low n.servers i m.fit.1.1.0)) in
                  rw o (in_last (compute c k i v) (rw o at first));
            });
      }
  history_step (prepare_arrives c k d v) m = longer (prepare_arrives c k d v)
  history_step (vote_arrives c k i d) m = longer (vote_arrives c k i d)
  history_step (ready_arrives c k i d) m = longer (ready_arrives c k i d)
  history_step (write c k i) m = longer (write c k i)
  history_step (suspect i o) m = longer (suspect i o)
  history_step (trust i o) m = longer (trust i o)
  history_step (clean c k i) m = longer (clean c k i)
  history_step (decide_arrives c k i d) m = longer (decide_arrives c k i d)
  history_step (ack_arrives c k i d) m = longer (ack_arrives c k i d)
  history_step (result_arrives c k i) m =
      result_elim (λ ws. History after (store_all s ws)) n s c k i
      (λ idle. old) (λ waits one. moved 2 waits) (λ waits other. moved 3 waits) (λ waits other more. old)
    where
      after : List Event
      after = list ++ (result_arrives c k i ∷ [])

      old : History after s
      old = longer (result_arrives c k i)

      -- a client that waits has issued its request, whatever its next phase
      moved : (last : ℕ) → Waits s c k → History after (store s (phase c) last)
      moved last waits = record {
        issued = λ x. by_bool (λ b. 0 < cond b last (s (phase x)) → InOrder (issue x (s (request x)) ∷ []) after) (eqb c x)
            (λ t h. old.issued x (rw (← eqb→eq c x t) (omega arith))) (old.issued x);
        traced = old.traced;
      }
  history_step (server_crashes i) m = longer (server_crashes i)
  history_step (database_crashes d) m = longer (database_crashes d)
  history_step (client_crashes c) m = longer (client_crashes c)
  history_step (database_recovers d) m = longer (database_recovers d)

module _ (n : Counts) (list : List Event) (s : State) (rows : Rows n s) (once : Once list s) where
  computed_now : (c k i v : ℕ) → Met n s (compute c k i v) → (0 < v) × (next n s (compute c k i v) (row c k computed) ≡ v)
  unfolding next
  computed_now c k i v m = (
    inside_low 65535 v m.fit.1.1.1.1.0,
    at_row (λ r. r computed ≡ v) s c k (compute_rule i v (row_of s c k)).writes refl,
  )

  pub once_step : (e : Event) → Met n s e → Once (list ++ (e ∷ [])) (next n s e)
  once_step e m c k i v h =
      elim (in_split (compute c k i v) e list h) [
        | inl before ↦ let old = once c k i v before in
            (old.0, (grows_step n s rows e m c k).same_computed (rw old.1 old.0) ∙ old.1)
        | inr last ↦ subst (λ x. Met n s x → (0 < v) × (next n s x (row c k computed) ≡ v)) last (computed_now c k i v) m
      ]
