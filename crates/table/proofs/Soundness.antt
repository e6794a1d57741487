-- What is asked of the cells alone; and an accepted record leaves a sound table, a refused one every cell as it was.
use mathlib.Core.Logic.{◌↔◌}
use mathlib.Core.Path.{◌≡◌, refl, sym, subst}
use mathlib.Core.Bool.{Bool, true, false, not, cond}
use mathlib.Core.List.{List, [], ◌∷◌}
use Prim.Native.Nat.{ℕ}
use native.Mathlib.Omega.{arith}
use borrow.Author.Tests.{ne_eqb}
use lib.Dec.{T, eqb}
use Rattle.lists.specs.Tests.{every, All}
use Rattle.lists.proofs.Choice.{all_every}
use Rattle.protocol.specs.declared.Counts.{Counts}
use Rattle.protocol.specs.declared.Event.{Event as Record}
use Rattle.protocol.specs.Cells.{State}
use Rattle.protocol.specs.Events.{Event}
use Rattle.protocol.specs.Numbers.{count_tests, in_range}
use Rattle.protocol.specs.Machine.{next, Met}
use Rattle.protocol.proofs.Acceptance.{met}
use Rattle.protocol.proofs.Range.{InRange, range_facts, facts_range}
use Rattle.protocol.proofs.Soundness.{range_step}
use Rattle.table.specs.Layout.{table_length}
use Rattle.table.specs.Table.{counts_of, view, size_tests, sound}
use Rattle.table.specs.Jobs.{after, number_of, applied, table_number}
use Rattle.table.proofs.Accepts.{Sound, table_is, sound_table, Accepts, accepts}
use Rattle.table.proofs.Bridge.{event_of, after_view, after_length, after_counts}

-- ---- 1, 2, or neither

record Asked (first second : Bool) (number : ℕ) : Type 0 where
  neither : (number ≡ 0) ↔ T (every (first ∷ second ∷ []))
  one : (number ≡ 1) ↔ T (not first)
  two : (number ≡ 2) ↔ (T first × T (not second))

asked : (first second : Bool) → Asked first second (cond first (cond second 0 2) 1)
asked true true = record { neither = (λ e. tt, λ t. refl); one = (λ e. omega arith, λ t. absurd t); two = (λ e. absurd (omega arith), λ t. absurd t.1) }
asked true false = record { neither = (λ e. omega arith, λ t. absurd t); one = (λ e. omega arith, λ t. absurd t); two = (λ e. (tt, tt), λ t. refl) }
asked false second = record { neither = (λ e. omega arith, λ t. absurd t); one = (λ e. tt, λ t. refl); two = (λ e. absurd (omega arith), λ t. absurd t.0) }

module _ (t : List ℕ) where
  here : Asked (every (size_tests (counts_of t) t)) (in_range (counts_of t) (view (counts_of t) t)) (table_number t)
  here =
      subst (Asked (every (size_tests (counts_of t) t)) (in_range (counts_of t) (view (counts_of t) t))) (sym (table_is t))
      (asked (every (size_tests (counts_of t) t)) (in_range (counts_of t) (view (counts_of t) t)))

  pub sound_when : (table_number t ≡ 0) ↔ T (sound t)
  unfolding sound
  sound_when = here.neither

  pub size_when : (table_number t ≡ 1) ↔ T (not (every (size_tests (counts_of t) t)))
  size_when = here.one

  pub cell_when : (table_number t ≡ 2) ↔ (T (every (size_tests (counts_of t) t)) × T (not (in_range (counts_of t) (view (counts_of t) t))))
  cell_when = here.two

-- ---- one record

module _ (t : List ℕ) (r : Record) (a : Accepts t r) where
  abbrev counts : Counts
  counts = counts_of t

  abbrev before : State
  before = view counts t

  abbrev event : Event
  event = event_of t r a

  range : InRange counts before
  range = range_facts counts before a.sound.range

  accepted_met : Met counts before event
  accepted_met = met counts before event a.reading.accepted

  after_sound : Sound (after counts t r)
  after_sound =
      let size : All (size_tests counts (after counts t r)) =
      (subst (λ k. T (eqb k (table_length counts))) (sym (after_length t r a)) a.sound.size.0, a.sound.size.1) in
      let kept = range_step counts (all_every (count_tests counts) a.sound.size.1) before range event accepted_met in
      let ranged = subst (λ s. T (in_range counts s)) (sym (after_view t r a)) (facts_range counts (next counts before event) kept) in
      record {
        size = subst (λ n. All (size_tests n (after counts t r))) (sym (after_counts t r a)) size;
        range = subst (λ n. T (in_range n (view n (after counts t r)))) (sym (after_counts t r a)) ranged;
      }

pub sound_kept : (t : List ℕ) (r : Record) → number_of t r ≡ 0 → table_number (applied t r).cells ≡ 0
unfolding applied
sound_kept t r e = rw e (sound_table (after (counts_of t) t r) (after_sound t r (accepts t r e)))

-- the same in the words of the job: what an accepted record leaves is sound
pub sound_left : (t : List ℕ) (r : Record) → (applied t r).number ≡ 0 → T (sound (applied t r).cells)
unfolding applied
sound_left t r accepted = (sound_when (applied t r).cells).0 (sound_kept t r accepted)

pub refused_untouched : (t : List ℕ) (r : Record) → (number_of t r ≡ 0 → ⊥) → (applied t r).cells ≡ t
unfolding applied
refused_untouched t r refused = rw (ne_eqb (number_of t r) 0 refused)
