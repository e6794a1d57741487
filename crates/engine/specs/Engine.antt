-- Which rule a record follows, which parties it asks to be up, and what is given of a record on a sound table.
use Rattle.std.specs.Prelude.{Bool, true, cond, List, ℕ, eqb}
use Rattle.std.proofs.Math.Option.{Option, none, some}
use Rattle.lists.specs.Tests.{every}
use Rattle.protocol.specs.declared.Counts.{Counts}
use Rattle.protocol.specs.declared.Event.{Event}
use Rattle.protocol.specs.Events.{Kind, kind_of}
use Rattle.protocol.specs.Numbers.{acting, are_up, record_refusal}
use Rattle.protocol.specs.Rules.{rule}
use Rattle.table.specs.Table.{view}
use Rattle.table.specs.Jobs.{Done, after}
use Rattle.rules.specs.Rules.{ruled}

-- the rule of a record's kind, and 3 where the kind is unknown
abbrev pub followed_at : Counts → List ℕ → Event → Option Kind → Done
followed_at n t e none = record { number = 3; cells = t }
followed_at n t e (some kind) = ruled n t (rule n (view n t) (kind.event e))

unfoldable pub followed : Counts → List ℕ → Event → Done
unfolding view
followed n t e = followed_at n t e (kind_of e.kind)

-- all parties that act in a record are up; in one of unknown kind none acts
abbrev pub up_at : Counts → List ℕ → Event → Option Kind → Bool
up_at n t e none = true
up_at n t e (some kind) = every (are_up (view n t) (acting (kind.event e)))

unfoldable pub parties_up : Counts → List ℕ → Event → Bool
unfolding view
parties_up n t e = up_at n t e (kind_of e.kind)

-- the number of a record on a sound table of these counts, and the cells after it
unfoldable pub answered : Counts → List ℕ → Event → Done
unfolding view record_refusal after
answered n t e = record { number = record_refusal n (view n t) e; cells = cond (eqb (record_refusal n (view n t) e) 0) (after n t e) t }
