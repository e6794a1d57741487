-- Open votes: a yes whose database has not decided since it was cast is a yes in the row whose database has not decided.
use mathlib.Core.Bool.{Bool, not}
use mathlib.Core.List.{List, [], ◌∷◌, ◌++◌}
use mathlib.Core.Logic.{inl, inr, ◌↔◌}
use Prim.Native.Nat.{ℕ}
use lib.Dec.{T, eqb, T_not, not_T}
use Rattle.lists.proofs.Choice.{by_cond, by_both, and_right}
use Rattle.masks.specs.Mask.{has}
use Rattle.masks.proofs.Laws.{has_zero, put_elim}
use Rattle.protocol.specs.declared.Counts.{Counts}
use Rattle.protocol.specs.Cells.{State, Row, row_of, store_all, store_fields, fresh, row, voted, voted_yes, decided}
use Rattle.protocol.specs.Events.{Event, issue, timeout, request_arrives, compute, prepare_arrives, vote_arrives, ready_arrives, write, suspect, trust, clean, decide_arrives, ack_arrives, result_arrives, server_crashes, database_crashes, client_crashes, database_recovers}
use Rattle.protocol.specs.Rules.{prepare_rule}
use Rattle.protocol.specs.Machine.{next, run, Accepted}
use Rattle.protocol.specs.Agreement.{Id}
use Rattle.protocol.specs.Progress.{Settled, Undecided, Open}
use Rattle.protocol.proofs.Acceptance.{met}
use Rattle.protocol.proofs.Store.{on_row, result_elim}
use Rattle.protocol.proofs.Agreement.{reached_fresh}
use Rattle.protocol.proofs.Later.{Since, since_step, since_run, since_now, run_append, accepted_append}

-- ---- a yes is cast only where its database has not decided

-- rule 5: a database that has already decided the result votes no
vote_fair : (r : Row) (p v d : ℕ)
    → T (not (has (r voted_yes) d)) → T (has (store_fields r (prepare_rule p v r).writes voted_yes) d) → T (not (has (r decided) d))
vote_fair r p v d before =
    by_cond (λ yeses. T (has yeses d) → T (not (has (r decided) d))) (not (has (r voted) p)) _ _
    (λ t now. put_elim (λ j. T (not (has (r voted_yes) j)) → T (not (has (r decided) j))) (r voted_yes) p _
    (λ answer f. and_right (eqb v 1) _ answer) (λ j u f. absurd (T_not (has (r voted_yes) j) f u)) d now before)
    (λ t now. absurd (T_not (has (r voted_yes) d) before now))

module _ (n : Counts) (c k d : ℕ) where
  abbrev said_yes : State → Bool
  said_yes s = has (s (row c k voted_yes)) d

  abbrev has_decided : State → Bool
  has_decided s = has (s (row c k decided)) d

  no_cast : {X : Type 0} (s : State) → T (not (said_yes s)) → T (said_yes s) → X
  no_cast s f t = absurd (T_not (said_yes s) f t)

  cast_fair : (s : State) (e : Event) → T (not (said_yes s)) → T (said_yes (next n s e)) → T (not (has_decided (next n s e)))
  unfolding next
  cast_fair s (issue x v) f t = no_cast s f t
  cast_fair s (timeout x) f t = no_cast s f t
  cast_fair s (request_arrives x y i) f t = no_cast s f t
  cast_fair s (compute x y i v) f t = no_cast s f t
  cast_fair s (prepare_arrives x y p v) f t =
      on_row (λ a b r. T (not (has (s (row a b voted_yes)) d)) → T (has (r voted_yes) d) → T (not (has (r decided) d)))
      s x y (prepare_rule p v (row_of s x y)).writes
      (λ a b f t. absurd (T_not (has (s (row a b voted_yes)) d) f t)) (vote_fair (row_of s x y) p v d) c k f t
  cast_fair s (vote_arrives x y i p) f t = no_cast s f t
  cast_fair s (ready_arrives x y i p) f t = no_cast s f t
  cast_fair s (write x y i) f t = no_cast s f t
  cast_fair s (suspect i o) f t = no_cast s f t
  cast_fair s (trust i o) f t = no_cast s f t
  cast_fair s (clean x y i) f t = no_cast s f t
  cast_fair s (decide_arrives x y i p) f t = no_cast s f t
  cast_fair s (ack_arrives x y i p) f t = no_cast s f t
  cast_fair s (result_arrives x y i) f t =
      result_elim (λ ws. T (said_yes (store_all s ws)) → T (not (has_decided (store_all s ws)))) n s x y i
      (λ idle. no_cast s f) (λ waits commit. no_cast s f) (λ waits abort. no_cast s f) (λ waits abort more. no_cast s f) t
  cast_fair s (server_crashes i) f t = no_cast s f t
  cast_fair s (database_crashes p) f t = no_cast s f t
  cast_fair s (client_crashes x) f t = no_cast s f t
  cast_fair s (database_recovers p) f t = no_cast s f t

  -- ---- no decision in the list, and none at its end

  undecided_end : (list : List Event) (s : State) → Undecided n c k d s list → T (not (has_decided s)) → T (not (has_decided (run n s list)))
  unfolding run
  undecided_end [] s u w = w
  undecided_end (e ∷ list) s u w = undecided_end list (next n s e) u.1 (not_T (has_decided (next n s e)) (u.0 w))

  -- what is yes or decided in a reached state is so at the end
  lasts : (list : List Event) (s : State) → Accepted n s list → Since n (fresh n) s
      → (T (said_yes s) → T (said_yes (run n s list))) × (T (has_decided s) → T (has_decided (run n s list)))
  lasts list s a since = let grown = (since_run n s since.rows since.clients list a).grown c k in (grown.grow_voted_yes d, grown.grow_decided d)

  end_undecided : (list : List Event) (s : State) → Accepted n s list → Since n (fresh n) s
      → T (not (has_decided (run n s list))) → Undecided n c k d s list
  unfolding run
  end_undecided [] s a since w = tt
  end_undecided (e ∷ list) s a since w =
      let q = next n s e in
      let after = since_step n (fresh n) s e (met n s e a.0) since in
      (λ t u. T_not (has_decided (run n q list)) w ((lasts list q a.1 after).1 u), end_undecided list q a.1 after w)

  -- ---- a yes cast in the list and open at its end

  open_end : (list : List Event) (s : State) → Accepted n s list → Since n (fresh n) s
      → Open n c k d s list → T (said_yes (run n s list)) × T (not (has_decided (run n s list)))
  unfolding run
  open_end [] s a since o = absurd o
  open_end (e ∷ list) s a since (inl o) =
      let after = since_step n (fresh n) s e (met n s e a.0) since in
      ((lasts list (next n s e) a.1 after).0 o.0.1, undecided_end list (next n s e) o.1 (cast_fair s e o.0.0 o.0.1))
  open_end (e ∷ list) s a since (inr o) = open_end list (next n s e) a.1 (since_step n (fresh n) s e (met n s e a.0) since) o

  end_open : (list : List Event) (s : State) → Accepted n s list → Since n (fresh n) s
      → T (not (said_yes s)) → T (said_yes (run n s list)) → T (not (has_decided (run n s list))) → Open n c k d s list
  unfolding run
  end_open [] s a since f t w = absurd (T_not (said_yes s) f t)
  end_open (e ∷ list) s a since f t w =
      let q = next n s e in
      let after = since_step n (fresh n) s e (met n s e a.0) since in
      by_both (λ b. Open n c k d s (e ∷ list)) (said_yes q)
      (λ u. inl ((f, u), end_undecided list q a.1 after w)) (λ u. inr (end_open list q a.1 after u t w))

pub open_votes : (n : Counts) (c k d : ℕ) (list : List Event) → Accepted n (fresh n) list
    → Open n c k d (fresh n) list ↔ (T (has (run n (fresh n) list (row c k voted_yes)) d) × T (not (has (run n (fresh n) list (row c k decided)) d)))
unfolding fresh
open_votes n c k d list a =
    let since = since_now n (fresh n) (reached_fresh n).rows (reached_fresh n).clients in
    (open_end n c k d list (fresh n) a since, λ r. end_open n c k d list (fresh n) a since (not_T (has 0 d) (has_zero d)) r.0 r.1)

-- once a result is settled, none of its votes is open
pub none_open_lem : (n : Counts) (c k : ℕ) (list more : List Event)
    → Accepted n (fresh n) list → Accepted n (run n (fresh n) list) more → Settled n c k (run n (run n (fresh n) list) more)
    → (d : ℕ) → Id n.databases d → Open n c k d (fresh n) (list ++ more) → ⊥
none_open_lem n c k list more first second settled d database is_open =
    let end = (open_votes n c k d (list ++ more) (accepted_append n list (fresh n) more first second)).0 is_open in
    settled.none_open d database (rw (run_append n list (fresh n) more) at end.0) (rw (run_append n list (fresh n) more) at end.1)
