-- Demand 1: each job settles the number that it gives back and every cell, for all inputs, refused ones too.
use mathlib.Core.Logic.{◌↔◌}
use mathlib.Core.Path.{◌≡◌, refl, ap, ◌∙◌}
use mathlib.Core.Bool.{Bool, true, false, not, cond}
use mathlib.Core.List.{List, [], ◌∷◌, ◌++◌}
use mathlib.Core.Option.{some}
use Prim.Native.Nat.{ℕ, ◌+◌, ◌≤◌, ◌<◌}
use native.Mathlib.Omega.{arith}
use lib.Dec.{T, eqb}
use lib.ListN.{length, take, get_elem?}
use Rattle.lists.specs.Tests.{every}
use Rattle.lists.proofs.Choice.{and_right}
use Rattle.protocol.specs.declared.Counts.{Counts}
use Rattle.protocol.specs.declared.Event.{Event as Record}
use Rattle.protocol.specs.Numbers.{count_tests, in_range}
use Rattle.table.specs.Layout.{table_length}
use Rattle.table.specs.Table.{counts_of, view, size_tests, sound, fresh_table}
use Rattle.table.specs.Jobs.{set_up_number, set_up, table_number, applied, one_more, stopped, ran}
use Rattle.table.specs.Applies.{Applies}
use Rattle.table.proofs.Fresh as fresh
use Rattle.table.proofs.Exactly as exactly
use Rattle.table.proofs.Soundness as soundness
use Rattle.table.proofs.Runs as runs
use Rattle.promises.specs.Lists.{Accepted, after}

-- ---- set up a fresh table: "fresh setup checks only 1"

one_when : (b : Bool) → ◌≡◌ {A = ℕ} (cond b 0 1) 1 ↔ T (not b)
one_when true = (λ e. omega arith, λ t. absurd t)
one_when false = (λ e. tt, λ t. refl)

module _ (t : List ℕ) (n : Counts) where
  -- 0 exactly when the counts are in their ranges and the table has the right length, else 1
  pub set_up_accepted : ((set_up t n).number ≡ 0) ↔ T (every (size_tests n t))
  set_up_accepted = fresh.set_up_number_lem t n

  pub set_up_refused : ((set_up t n).number ≡ 1) ↔ T (not (every (size_tests n t)))
  unfolding set_up set_up_number
  set_up_refused = one_when (every (size_tests n t))

  -- "a fresh table has the header, every up cell 1 and all else 0"; a refused setup leaves the table untouched
  pub set_up_makes : (set_up t n).number ≡ 0 → (set_up t n).cells ≡ fresh_table n
  set_up_makes = fresh.set_up_lem t n

  pub set_up_leaves : ((set_up t n).number ≡ 0 → ⊥) → (set_up t n).cells ≡ t
  set_up_leaves = fresh.set_up_refused t n

  pub set_up_sound : (set_up t n).number ≡ 0 → T (sound (set_up t n).cells)
  set_up_sound accepted =
      let counts = and_right (eqb (length t) (table_length n)) (every (count_tests n)) (set_up_accepted.0 accepted) in
      rw (set_up_makes accepted) ((soundness.sound_when (fresh_table n)).0 (fresh.fresh_sound n counts))

-- ---- apply one event

module _ (t : List ℕ) (r : Record) where
  -- "the lowest number that applies is given": each of 1 to 7 exactly when it applies and no lower one does, and 0 exactly when none applies
  pub given_when : (k : ℕ) → 1 ≤ k → ((applied t r).number ≡ k) ↔ (Applies t r k × ((j : ℕ) → 1 ≤ j → j < k → Applies t r j → ⊥))
  unfolding applied
  given_when = exactly.given_when t r

  pub accepted_when : ((applied t r).number ≡ 0) ↔ ((j : ℕ) → Applies t r j → ⊥)
  unfolding applied
  accepted_when = exactly.accepted_when t r

  pub at_most_seven : (applied t r).number ≤ 7
  at_most_seven = exactly.at_most_seven t r

  -- a refused event leaves the table untouched, and an accepted one keeps a sound table sound (what it writes is in Demand2)
  pub refused_untouched : ((applied t r).number ≡ 0 → ⊥) → (applied t r).cells ≡ t
  unfolding applied
  refused_untouched = soundness.refused_untouched t r

  pub sound_kept : (applied t r).number ≡ 0 → T (sound (applied t r).cells)
  unfolding applied
  sound_kept accepted = (soundness.sound_when (applied t r).cells).0 (soundness.sound_kept t r accepted)

-- ---- apply a list of events in order and stop at the first refusal

module _ (t : List ℕ) where
  -- "an empty list still checks 1 and 2": 0 exactly when the table is sound, 1 when a count or the length is wrong, 2 when only a cell is
  pub empty_list : ran t [] ≡ stopped (table_number t) t
  empty_list = runs.ran_empty t

  pub sound_when : (table_number t ≡ 0) ↔ T (sound t)
  sound_when = soundness.sound_when t

  pub size_when : (table_number t ≡ 1) ↔ T (not (every (size_tests (counts_of t) t)))
  size_when = soundness.size_when t

  pub cell_when : (table_number t ≡ 2) ↔ (T (every (size_tests (counts_of t) t)) × T (not (in_range (counts_of t) (view (counts_of t) t))))
  cell_when = soundness.cell_when t

  -- a list on a table that is not sound: nothing is accepted, that number is given, and the table is untouched
  pub unsound_list : (T (sound t) → ⊥) → (list : List Record) → ran t list ≡ stopped (table_number t) t
  unsound_list unsound list = runs.ran_unsound t list (λ z. unsound (sound_when.0 z))

-- any other list, event by event
module _ (t : List ℕ) (r : Record) (list : List Record) where
  pub first_accepted : (applied t r).number ≡ 0 → ran t (r ∷ list) ≡ one_more (ran (applied t r).cells list)
  first_accepted = runs.ran_accepted t r list

  pub first_refused : ((applied t r).number ≡ 0 → ⊥) → ran t (r ∷ list) ≡ stopped (applied t r).number t
  first_refused = runs.ran_refused t r list

module _ (t : List ℕ) (list : List Record) (is_sound : T (sound t)) where
  longest : runs.Longest t list (ran t list)
  longest = runs.longest list t ((sound_when t).1 is_sound)

  -- "the number of accepted events, which is the length of the longest accepted start": every start up to it is accepted, and no longer one is
  pub count_inside : (ran t list).accepted ≤ length list
  count_inside = longest.inside

  pub starts_accepted : (k : ℕ) → k ≤ (ran t list).accepted → Accepted t (take k list)
  starts_accepted = longest.starts

  pub longer_refused : (k : ℕ) → (ran t list).accepted < k → k ≤ length list → Accepted t (take k list) → ⊥
  longer_refused = longest.longer

  -- "a list that stops leaves exactly what its accepted events made"
  pub leaves_made : after t list ≡ after t (take (ran t list).accepted list)
  leaves_made = longest.made

  -- "and with the refusal, or 0 at the end of the list": the refusal is the number of the first event that is not accepted, where it stands
  pub zero_at_end : Accepted t list ↔ ((ran t list).accepted ≡ length list)
  zero_at_end = longest.whole

  pub refusal_given : (r : Record) → get_elem? list (ran t list).accepted ≡ some r → (ran t list).refusal ≡ (applied (after t list) r).number
  refusal_given = longest.refuses

-- two lists one after the other are one list, and so are a list and an event: whatever is accepted step by step is accepted as one list
pub lists_compose : (t : List ℕ) (list more : List Record) → Accepted t list
    → ((ran t (list ++ more)).accepted ≡ length list + (ran (after t list) more).accepted)
    × ((ran t (list ++ more)).refusal ≡ (ran (after t list) more).refusal)
    × (after t (list ++ more) ≡ after (after t list) more)
lists_compose t list more accepted =
    let same = runs.ran_append more list t accepted in
    (ap (λ ends. ends.accepted) same, ap (λ ends. ends.refusal) same, ap (λ ends. ends.cells) same)

pub event_composes : (t : List ℕ) (list : List Record) (r : Record) → Accepted t list → (applied (after t list) r).number ≡ 0
    → Accepted t (list ++ (r ∷ [])) × (after t (list ++ (r ∷ [])) ≡ (applied (after t list) r).cells)
event_composes t list r accepted z =
    let cells = (applied (after t list) r).cells in
    let (count, refusal, left) = lists_compose t list (r ∷ []) accepted in
    let one = first_accepted (after t list) r [] z ∙ ap one_more (empty_list cells) in (
      refusal ∙ ap (λ ends. ends.refusal) one ∙ (sound_when cells).1 (sound_kept (after t list) r z),
      left ∙ ap (λ ends. ends.cells) one,
    )
