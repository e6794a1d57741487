-- One outcome: what it means that a contract allows no two.
use Rattle.std.specs.Prelude.{◌≡◌, List, ℕ}
use contract.Lifetimes.{Lfts}
use denote.Triple.Clauses.{AtExit}
use borrow.Fn.Kinds.{ParamKind, ResultKind, Dens, res_t, ended_of, Out}
use Rattle.protocol.specs.declared.Event.{Event as Record}
use Rattle.runner.specs.declared.Ran.{Ran}
use Rattle.table.specs.Jobs.{ran}

-- a contract, as the checker reads it off the function's `ensures`: a claim on the arguments (a lent table as it was), the result, and the arguments at the
-- exit (a lent table as it is left)
module _ {n : ℕ} (ps : List (ParamKind n)) (r : ResultKind n) (contract : Out n ps r) where
  -- whatever the arguments, two results that it allows are equal
  abbrev pub OneResult : Type 0
  OneResult =
      (κs : Lfts n) (arguments : Dens κs ps) (x y : (res_t r κs).Denot) (s q : AtExit (ended_of n ps r) κs)
      → contract κs arguments x s → contract κs arguments y q → x ≡ y

  -- and so is `left`, what was lent to be written, as the function leaves it
  abbrev pub OneOutcome : {Left : Type 0} → ((κs : Lfts n) → AtExit (ended_of n ps r) κs → Left) → Type 0
  OneOutcome left =
      (κs : Lfts n) (arguments : Dens κs ps) (x y : (res_t r κs).Denot) (s q : AtExit (ended_of n ps r) κs)
      → contract κs arguments x s → contract κs arguments y q → (x ≡ y) × (left κs s ≡ left κs q)

-- what the contract of the list job says of its answer and of the cells that it leaves; of a function over a list of records the checker has no such reading
abbrev pub RanSo : List ℕ → List Record → Ran → List ℕ → Type 0
RanSo t list answer cells = (answer.accepted ≡ (ran t list).accepted) × (answer.refusal ≡ (ran t list).refusal) × (cells ≡ (ran t list).cells)
