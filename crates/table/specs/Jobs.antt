-- What the three jobs do to any list of cells: set up, one event, and a list of events.
use Rattle.std.specs.Prelude.{cond, List, [], ◌∷◌, ℕ, suc, eqb}
use Rattle.std.proofs.Math.Option.{Option, none, some}
use Rattle.lists.specs.Tests.{every}
use Rattle.protocol.specs.declared.Counts.{Counts}
use Rattle.protocol.specs.declared.Event.{Event as Record}
use Rattle.protocol.specs.Cells.{State, Writes}
use Rattle.protocol.specs.Events.{Kind, kind_of}
use Rattle.protocol.specs.Rules.{rule}
use Rattle.protocol.specs.Numbers.{in_range, record_refusal}
use Rattle.table.specs.Layout.{table_length}
use Rattle.table.specs.Table.{counts_of, view, size_tests, fresh_table, set_all}

-- what a job answers, and the cells that it leaves
pub record Done : Type 0 where
  pub number : ℕ
  pub cells : List ℕ

-- ---- set up: only number 1 is asked

unfoldable pub set_up_number : List ℕ → Counts → ℕ
unfolding table_length
set_up_number t n = cond (every (size_tests n t)) 0 1

unfoldable pub set_up : List ℕ → Counts → Done
unfolding set_up_number fresh_table
set_up t n = record { number = set_up_number t n; cells = cond (eqb (set_up_number t n) 0) (fresh_table n) t }

-- ---- one event

-- 1 and 2, asked of the cells alone
unfoldable pub table_number : List ℕ → ℕ
unfolding table_length view in_range
table_number t = cond (every (size_tests (counts_of t) t)) (cond (in_range (counts_of t) (view (counts_of t) t)) 0 2) 1

-- the lowest number that applies, or 0
unfoldable pub number_of : List ℕ → Record → ℕ
unfolding table_number view record_refusal
number_of t r = cond (eqb (table_number t) 0) (record_refusal (counts_of t) (view (counts_of t) t) r) (table_number t)

-- what the record's rule writes
abbrev pub writes_at : Counts → State → Record → Option Kind → Writes
writes_at n s r none = []
writes_at n s r (some kind) = (rule n s (kind.event r)).writes

unfoldable pub after : Counts → List ℕ → Record → List ℕ
unfolding view
after n t r = set_all n t (writes_at n (view n t) r (kind_of r.kind))

unfoldable pub applied : List ℕ → Record → Done
unfolding number_of after
applied t r = record { number = number_of t r; cells = cond (eqb (number_of t r) 0) (after (counts_of t) t r) t }

-- ---- a list of events: in order, to the first refusal

pub record Ran : Type 0 where
  pub accepted : ℕ
  pub refusal : ℕ
  pub cells : List ℕ

abbrev pub one_more : Ran → Ran
one_more ran = record { accepted = suc ran.accepted; refusal = ran.refusal; cells = ran.cells }

abbrev pub stopped : ℕ → List ℕ → Ran
stopped number t = record { accepted = 0; refusal = number; cells = t }

-- from a table on
unfoldable pub run_from : List ℕ → List Record → Ran
unfolding applied
run_from t [] = stopped 0 t
run_from t (r ∷ rs) =
    let first = applied t r in
    let rest = run_from first.cells rs in
    cond (eqb first.number 0) (one_more rest) (stopped first.number t)

-- the list job: an empty list still checks 1 and 2
unfoldable pub ran : List ℕ → List Record → Ran
unfolding run_from table_number
ran t rs = let run = run_from t rs in cond (eqb (table_number t) 0) run (stopped (table_number t) t)
