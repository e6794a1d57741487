-- Every cell that a rule writes is one that its event may change.
use mathlib.Core.Logic.{◌⊎◌, inl, inr}
use mathlib.Core.Path.{refl}
use Prim.Native.Nat.{ℕ}
use Rattle.protocol.specs.declared.Counts.{Counts}
use Rattle.protocol.specs.Cells.{Field, owner, outcome, value, computed, sent, voted, voted_yes, heard, heard_yes, written, terminating, decided, committed, acked, known}
use Rattle.protocol.specs.Cells.{row, State}
use Rattle.protocol.specs.Events.{Event, issue, timeout, request_arrives, compute, prepare_arrives, vote_arrives, ready_arrives, write, suspect, trust, clean, decide_arrives, ack_arrives, result_arrives, server_crashes, database_crashes, client_crashes, database_recovers}
use Rattle.protocol.specs.Rules.{rule}
use Rattle.protocol.specs.Touched.{InRow, one_row, MayChange}
use Rattle.protocol.proofs.Store.{Each, result_elim}

-- a cell of the row
at : {Party : Type 0} {c k : ℕ} (f : Field) → Party ⊎ InRow (row c k f) (one_row c k)
at f = inr (f, refl)

pub touches : (n : Counts) (s : State) (e : Event) → Each (MayChange s e) (rule n s e).writes
touches n s (issue c v) = (inl (inl refl), (inl (inr (inl refl)), (inl (inr (inr (inl refl))), (at sent, tt))))
touches n s (timeout c) = (at sent, tt)
touches n s (request_arrives c k i) = (at owner, tt)
touches n s (compute c k i v) = (at computed, tt)
touches n s (prepare_arrives c k d v) = (at voted, (at voted_yes, tt))
touches n s (vote_arrives c k i d) = (at heard, (at heard_yes, tt))
touches n s (ready_arrives c k i d) = (at heard, (at heard_yes, tt))
touches n s (write c k i) = (at outcome, (at value, (at written, (at terminating, tt))))
touches n s (suspect i o) = (inl (inl refl), tt)
touches n s (trust i o) = (inl (inl refl), tt)
touches n s (clean c k i) = (at outcome, (at value, (at terminating, tt)))
touches n s (decide_arrives c k i d) = (at decided, (at committed, (at (acked i), tt)))
touches n s (ack_arrives c k i d) = (at (known i), tt)
touches n s (result_arrives c k i) =
    result_elim (Each (MayChange s (result_arrives c k i))) n s c k i
    (λ idle. tt)
    (λ waits commit. (inl (inl refl), (inl (inr (inr (inl refl))), tt)))
    (λ waits abort. (inl (inl refl), tt))
    (λ waits abort more. (inl (inr (inl refl)), (at sent, tt)))
touches n s (server_crashes i) = (inl (inl refl), tt)
touches n s (database_crashes d) = (inl (inl refl), tt)
touches n s (client_crashes c) = (inl (inl refl), tt)
touches n s (database_recovers d) = (inl (inl refl), (inl (inr (inl refl)), tt))
