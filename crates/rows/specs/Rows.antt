-- The lent row before and after a rule, as the code takes it in steps.
use Rattle.std.specs.Prelude.{◌≡◌, cond, not, List, [], ◌∷◌, ℕ, ◌≤◌, eqb, ltb, length}
use Rattle.lists.specs.Tests.{every}
use Rattle.masks.specs.Mask.{has, with, put, has_all}
use Rattle.protocol.specs.declared.Counts.{Counts}
use Rattle.protocol.specs.Cells.{outcome, decided, committed, acked, known, Row, RowWrites}
use Rattle.protocol.specs.Rules.{RowRule}
use Rattle.table.specs.Layout.{row_length}
use Rattle.table.specs.Table.{set_fields}
use Rattle.table.specs.Jobs.{Done}
use Rattle.gates.specs.Gates.{given}

-- the row of a result in a setup whose counts are in range
pub record Lent (n : Counts) (l : List ℕ) : Type 0 where
  pub long : length l ≡ row_length n
  pub servers : n.servers ≤ 8
  pub databases : n.databases ≤ 8

-- the number that a rule gives, and the lent cells after it
abbrev pub stepped : Counts → List ℕ → RowRule → Done
stepped n l rule = record { number = given rule; cells = cond (eqb (given rule) 0) (set_fields n l rule.writes) l }

-- the two parts of a decision's arrival: the database decides, and its acknowledgement is sent
abbrev pub obeys : ℕ → Row → RowWrites
obeys d r =
    let first = not (has (r decided) d) in
    (decided, cond first (with (r decided) d) (r decided)) ∷ (committed, cond first (put (r committed) d (eqb (r outcome) 1)) (r committed)) ∷ []

abbrev pub acknowledges : ℕ → ℕ → Row → RowWrites
acknowledges i d r = (acked i, with (r (acked i)) d) ∷ []

-- the number that rule 14 gives, of what it asks of the row: 6 unless outcome is not 0 and the sender knows all D acknowledgements
abbrev pub result_given : Counts → ℕ → Row → ℕ
result_given n i r = cond (every (ltb 0 (r outcome) ∷ has_all n.databases (r (known i)) ∷ [])) 0 6
