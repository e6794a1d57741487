-- The machine: what an accepted event leads to, lists of events, and what an accepted event met.
use Rattle.std.specs.Prelude.{◌≡◌}
use mathlib.Core.List.{List, [], ◌∷◌}
use Rattle.lists.specs.Tests.{All}
use Rattle.protocol.specs.declared.Counts.{Counts}
use Rattle.protocol.specs.Cells.{State, store_all}
use Rattle.protocol.specs.Events.{Event, record_of}
use Rattle.protocol.specs.Rules.{rule}
use Rattle.protocol.specs.Numbers.{fields, acting, are_up, refusal}

module _ (n : Counts) where
  -- the state after an event: its rule's writes
  unfoldable pub next : State → Event → State
  next s e = store_all s (rule n s e).writes

  -- the state after a list of events
  unfoldable pub run : State → List Event → State
  unfolding next
  run s [] = s
  run s (e ∷ es) = run (next s e) es

  -- each event of the list is accepted where it stands
  abbrev pub Accepted : State → List Event → Type 0
  Accepted s [] = Unit {0}
  Accepted s (e ∷ es) = (refusal n s e ≡ 0) × Accepted (next s e) es

  -- what an accepted event met
  pub record Met (s : State) (e : Event) : Type 0 where
    pub fit : All (fields n (record_of e))
    pub live : All (are_up s (acting e))
    pub post : All (rule n s e).sent_if
    pub must : All (rule n s e).must
