-- How a plan goes on: one event for each database, in any order and each after any gap.
use mathlib.Core.List.{List, [], ◌∷◌}
use mathlib.Core.Logic.{◌⊎◌, inl, inr}
use mathlib.Core.Path.{◌≡◌}
use Prim.Native.Nat.{ℕ}
use Rattle.protocol.specs.declared.Counts.{Counts}
use Rattle.protocol.specs.Cells.{State}
use Rattle.protocol.specs.Events.{Event}
use Rattle.protocol.specs.Numbers.{refusal}
use Rattle.protocol.specs.Machine.{next, run, Accepted}
use Rattle.protocol.specs.Agreement.{Id}
use Rattle.protocol.specs.Progress.{In, here, there, Covers, ThenEach}

-- the event for database d in a state q to which a gap led from s: it is accepted, what holds at each event holds on, d is done, and who was done
-- in s stays done
pub record Advance (n : Counts) (event : ℕ → Event) (Holds : State → Type 0) (Done : State → ℕ → Type 0) (s q : State) (d : ℕ) : Type 0 where
  pub accepted : refusal n q (event d) ≡ 0
  pub holds : Holds (next n q (event d))
  pub done : Done (next n q (event d)) d
  pub stay : (e : ℕ) → Done s e → Done (next n q (event d)) e

nobody : (d : ℕ) → In d [] → ⊥
nobody d named = elim named [ ]

module _ (n : Counts) (Proviso : ℕ → List Event → State → Type 0) (event : ℕ → Event) (Goal Holds : State → Type 0) (Done : State → ℕ → Type 0)
    (step : (s : State) → Holds s → (d : ℕ) → Id n.databases d → (gap : List Event) → Accepted n s gap → Proviso d gap (run n s gap)
    → Advance n event Holds Done s (run n s gap) d)
    (end : (s : State) → Holds s → ((d : ℕ) → Id n.databases d → Done s d) → Goal s) where
  -- the databases to come, where all others are done
  pub then_rest : (ds : List ℕ) → ((d : ℕ) → In d ds → Id n.databases d) → (s : State) → Holds s
      → ((d : ℕ) → Id n.databases d → In d ds ⊎ Done s d) → ThenEach n Proviso event ds Goal s
  then_rest [] only s holds left = end s holds (λ d range. elim (left d range) [ inl named ↦ absurd (nobody d named) | inr done ↦ done ])
  then_rest (d ∷ ds) only s holds left = λ gap accepted proviso.
      let after = step s holds d (only d here) gap accepted proviso in
      let q = next n (run n s gap) (event d) in (
        after.accepted,
        then_rest ds (λ e named. only e (there named)) q after.holds
            (λ e range. elim (left e range) [ inl named ↦ rest q e d ds after.done named | inr done ↦ inr (after.stay e done) ]),
      )
    where
      rest : (q : State) (e d : ℕ) (ds : List ℕ) → Done q d → In e (d ∷ ds) → In e ds ⊎ Done q e
      rest q e d ds done here = inr done
      rest q e d ds done (there named) = inl named

  pub then_each : (ds : List ℕ) → Covers n.databases ds → (s : State) → Holds s → ThenEach n Proviso event ds Goal s
  then_each ds covers s holds = then_rest ds covers.only s holds (λ d range. inl (covers.whole d range))
