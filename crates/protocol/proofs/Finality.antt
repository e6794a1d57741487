-- Finality: what a state that was reached says for good, it says in every state that accepted events lead to from it.
use mathlib.Core.List.{List}
use mathlib.Core.Path.{◌≡◌, refl, sym, ◌∙◌}
use Prim.Native.Nat.{ℕ, ◌≤◌}
use native.Mathlib.Omega.{arith}
use lib.Dec.{T}
use Rattle.lists.proofs.Choice.{same_answer}
use Rattle.masks.specs.Mask.{has}
use Rattle.protocol.specs.declared.Counts.{Counts}
use Rattle.protocol.specs.Cells.{State, Row, fresh, row_of, phase, attempt, request, delivered, decided, committed}
use Rattle.protocol.specs.Events.{Event}
use Rattle.protocol.specs.Machine.{run, Accepted}
use Rattle.protocol.specs.Finality.{SameClient, Final}
use Rattle.protocol.proofs.Rows.{RowInvariant, Grows}
use Rattle.protocol.proofs.Agreement.{reached_fresh}
use Rattle.protocol.proofs.Later.{Since, since_run, rests_run}

-- a database that has decided committed then if it has committed later: both hang on the outcome, which stays
same_commit : (n : Counts) (r q : Row) → RowInvariant n r → RowInvariant n q → Grows r q → (d : ℕ) → T (has (r decided) d)
    → has (q committed) d ≡ has (r committed) d
same_commit n r q before later grows d t =
    same_answer (has (q committed) d) (has (r committed) d)
    (λ u.
    let stays = grows.same_outcome (before.decisions.decided_outcome d t) in
    before.decisions.decided_committed (sym stays ∙ later.decisions.committed_outcome d u) d t)
    (grows.grow_committed d)

pub finality : (n : Counts) (list more : List Event) → Accepted n (fresh n) list → Accepted n (run n (fresh n) list) more
    → Final (run n (fresh n) list) (run n (run n (fresh n) list) more)
finality n list more accepted later = record {
  decided_stays = λ c k d t. ((grown c k).grow_decided d t, same_commit n (row_of s c k) (row_of q c k) (before.rows c k) (after.rows c k) (grown c k) d t);
  owner_stays = λ c k owned. (grown c k).same_owner owned;
  outcome_stays = λ c k written. ((grown c k).same_outcome written, (grown c k).same_value written);
  served_stays = λ c two. rests c (omega arith);
  given_up_stays = λ c three. rests c (omega arith);
}
  where
    s : State
    s = run n (fresh n) list

    q : State
    q = run n s more

    before : Since n (fresh n) s
    before = since_run n (fresh n) (reached_fresh n).rows (reached_fresh n).clients list accepted

    after : Since n s q
    after = since_run n s before.rows before.clients more later

    grown : (c k : ℕ) → Grows (row_of s c k) (row_of q c k)
    grown = after.grown

    rests : (c : ℕ) → 2 ≤ s (phase c) → SameClient s q c
    rests c over = rests_run n c (s (phase c)) (s (attempt c)) (s (request c)) (s (delivered c)) over more s later (refl, refl, refl, refl)
