-- When each number applies to a table and a record, in the words of the paper's table of numbers.
use Rattle.std.specs.Prelude.{◌≡◌, not, List, ℕ, T}
use Rattle.std.proofs.Math.Option.{some}
use Rattle.lists.specs.Tests.{every, inside}
use Rattle.protocol.specs.declared.Event.{Event as Record}
use Rattle.protocol.specs.Events.{Kind, kind_of}
use Rattle.protocol.specs.Rules.{rule}
use Rattle.protocol.specs.Numbers.{in_range, field_tests, acting, are_up}
use Rattle.table.specs.Table.{counts_of, view, size_tests}

module _ (t : List ℕ) (r : Record) where
  pub data Applies : ℕ → Type 0 where
    -- 1: a count outside its range, or a table of another length
    size : T (not (every (size_tests (counts_of t) t))) → Applies 1
    -- 2: a cell not in range
    cell : T (not (in_range (counts_of t) (view (counts_of t) t))) → Applies 2
    -- 3: kind not 1 to 18
    unknown : T (not (inside 18 r.kind)) → Applies 3
    -- 4: a field outside its range, or not 0 where unused
    field : (kind : Kind) → kind_of r.kind ≡ some kind → T (not (every (field_tests (counts_of t) (some kind) r))) → Applies 4
    -- 5: a party that acts is down
    down : (kind : Kind) → kind_of r.kind ≡ some kind → T (not (every (are_up (view (counts_of t) t) (acting (kind.event r))))) → Applies 5
    -- 6: the message was not sent
    unsent : (kind : Kind) → kind_of r.kind ≡ some kind → T (not (every (rule (counts_of t) (view (counts_of t) t) (kind.event r)).sent_if)) → Applies 6
    -- 7: a "must" of the rule does not hold
    unmet : (kind : Kind) → kind_of r.kind ≡ some kind → T (not (every (rule (counts_of t) (view (counts_of t) t) (kind.event r)).must)) → Applies 7
