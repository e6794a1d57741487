-- Each number is given exactly when it applies and no lower one does, and a record is accepted exactly when none applies.
use mathlib.Core.Logic.{◌↔◌}
use mathlib.Core.Path.{◌≡◌, refl, sym, subst, ◌∙◌}
use mathlib.Core.Bool.{Bool, true, false, not, cond}
use mathlib.Core.List.{List}
use mathlib.Core.Option.{Option, none, some, none-ne-some}
use Prim.Native.Nat.{ℕ, ◌≤◌, ◌<◌}
use native.Mathlib.Omega.{arith}
use lib.Dec.{T, eqb, T_not, not_T}
use Rattle.lists.specs.Tests.{every, inside}
use Rattle.lists.proofs.Choice.{by_cond, by_eq, every_all}
use Rattle.protocol.specs.declared.Counts.{Counts}
use Rattle.protocol.specs.declared.Event.{Event as Record}
use Rattle.protocol.specs.Cells.{State}
use Rattle.protocol.specs.Events.{Kind, kind_of, record_of}
use Rattle.protocol.specs.Rules.{rule}
use Rattle.protocol.specs.Numbers.{in_range, fields, field_tests, acting, are_up, refusal, refusal_at, record_refusal}
use Rattle.protocol.proofs.Records.{kind_known, kind_unknown, event_record}
use Rattle.table.specs.Table.{counts_of, view, size_tests}
use Rattle.table.specs.Jobs.{number_of, applied}
use Rattle.table.specs.Applies.{Applies, size, cell, unknown, field, down, unsent, unmet}
use Rattle.table.proofs.Accepts.{table_is}

-- 1 and 2 first, then the others
in_order : (a b : Bool) (x : ℕ) → cond (eqb (cond a (cond b 0 2) 1) 0) x (cond a (cond b 0 2) 1) ≡ cond a (cond b x 2) 1
in_order true true x = refl
in_order true false x = refl
in_order false b x = refl

-- a number from 1 to j: what a row of tests gives where that of number j, or one before it, fails
abbrev OneTo : ℕ → ℕ → Type 0
OneTo j x = (1 ≤ x) × (x ≤ j)

past : (b : Bool) (x k j : ℕ) → 1 ≤ k → k ≤ j → OneTo j x → OneTo j (cond b x k)
past true x k j l h f = f
past false x k j l h f = (l, h)

stops : (b : Bool) (x k : ℕ) → 1 ≤ k → T (not b) → OneTo k (cond b x k)
stops true x k l f = absurd f
stops false x k l f = (l, omega arith)

module _ (t : List ℕ) (r : Record) where
  abbrev counts : Counts
  counts = counts_of t

  abbrev state : State
  state = view counts t

  -- the seven tests; that of the fields is made of the record, and again of the record that its event would have
  abbrev sized : Bool
  sized = every (size_tests counts t)

  abbrev ranged : Bool
  ranged = in_range counts state

  abbrev fit : Kind → Bool
  fit kind = every (field_tests counts (some kind) r)

  abbrev fit_again : Kind → Bool
  fit_again kind = every (fields counts (record_of (kind.event r)))

  abbrev live : Kind → Bool
  live kind = every (are_up state (acting (kind.event r)))

  abbrev posted : Kind → Bool
  posted kind = every (rule counts state (kind.event r)).sent_if

  abbrev allowed : Kind → Bool
  allowed kind = every (rule counts state (kind.event r)).must

  number_is : number_of t r ≡ cond sized (cond ranged (record_refusal counts state r) 2) 1
  unfolding number_of
  number_is = rw (table_is t) (in_order sized ranged (record_refusal counts state r))

  -- ---- a number that is given applies

  abbrev Gives : ℕ → Type 0
  Gives x = 1 ≤ x → Applies t r x

  fits_again : (kind : Kind) → kind_of r.kind ≡ some kind → T (fit kind) → T (fit_again kind)
  fits_again kind line f =
      let same = event_record counts r kind line (every_all (field_tests counts (some kind) r) f) in
      subst (λ q. T (every (fields counts q))) (sym same) (rw line f)

  event_gives : (kind : Kind) → kind_of r.kind ≡ some kind → T (fit kind) → Gives (refusal counts state (kind.event r))
  unfolding refusal
  event_gives kind line f =
      by_cond Gives (fit_again kind) _ 4
      (λ holds. by_cond Gives (live kind) _ 5
      (λ holds. by_cond Gives (posted kind) _ 6
      (λ holds. by_cond Gives (allowed kind) 0 7 (λ holds h. absurd (omega arith)) (λ fails h. unmet kind line fails))
      (λ fails h. unsent kind line fails))
      (λ fails h. down kind line fails))
      (λ fails h. absurd (T_not (fit_again kind) fails (fits_again kind line f)))

  record_gives : Gives (record_refusal counts state r)
  unfolding record_refusal
  record_gives = go (kind_of r.kind) refl
    where
      go : (kind : Option Kind) → kind_of r.kind ≡ kind → Gives (refusal_at counts state r kind)
      go none line = λ h. unknown (not_T (inside 18 r.kind) known)
        where
          known : T (inside 18 r.kind) → ⊥
          known k = let (kind, found) = kind_known r.kind k in none-ne-some kind (sym line ∙ found)
      go (some kind) line = by_cond Gives (fit kind) _ 4 (event_gives kind line) (λ fails h. field kind line fails)

  gives : Gives (number_of t r)
  gives =
      subst Gives (sym number_is)
      (by_cond Gives sized _ 1 (λ holds. by_cond Gives ranged _ 2 (λ holds. record_gives) (λ fails h. cell fails)) (λ fails h. size fails))

  -- ---- where a number applies, it or a lower one is given

  past_table : (j : ℕ) → 2 ≤ j → OneTo j (record_refusal counts state r) → OneTo j (number_of t r)
  past_table j h f =
      subst (OneTo j) (sym number_is) (past sized _ 1 j (omega arith) (omega arith) (past ranged _ 2 j (omega arith) h f))

  past_fields : (kind : Kind) → kind_of r.kind ≡ some kind
      → (j : ℕ) → 4 ≤ j → OneTo j (refusal counts state (kind.event r)) → OneTo j (number_of t r)
  unfolding record_refusal
  past_fields kind line j h f = past_table j (omega arith) (rw line (past (fit kind) _ 4 j (omega arith) h f))

  lowest : {j : ℕ} → Applies t r j → OneTo j (number_of t r)
  unfolding record_refusal refusal
  lowest (size fails) = subst (OneTo 1) (sym number_is) (stops sized _ 1 (omega arith) fails)
  lowest (cell fails) =
      subst (OneTo 2) (sym number_is) (past sized _ 1 2 (omega arith) (omega arith) (stops ranged _ 2 (omega arith) fails))
  lowest (unknown fails) = past_table 3 (omega arith) (rw (kind_unknown r.kind fails) (omega arith))
  lowest (field kind line fails) = past_table 4 (omega arith) (rw line (stops (fit kind) _ 4 (omega arith) fails))
  lowest (down kind line fails) =
      past_fields kind line 5 (omega arith)
      (past (fit_again kind) _ 4 5 (omega arith) (omega arith)
      (stops (live kind) _ 5 (omega arith) fails))
  lowest (unsent kind line fails) =
      past_fields kind line 6 (omega arith)
      (past (fit_again kind) _ 4 6 (omega arith) (omega arith)
      (past (live kind) _ 5 6 (omega arith) (omega arith)
      (stops (posted kind) _ 6 (omega arith) fails)))
  lowest (unmet kind line fails) =
      past_fields kind line 7 (omega arith)
      (past (fit_again kind) _ 4 7 (omega arith) (omega arith)
      (past (live kind) _ 5 7 (omega arith) (omega arith)
      (past (posted kind) _ 6 7 (omega arith) (omega arith)
      (stops (allowed kind) 0 7 (omega arith) fails))))

  -- ---- the laws

  pub given_when : (k : ℕ) → 1 ≤ k → (number_of t r ≡ k) ↔ (Applies t r k × ((j : ℕ) → 1 ≤ j → j < k → Applies t r j → ⊥))
  given_when k low = (
    (λ e. (subst (Applies t r) e (gives (omega arith)), (λ j l h a. omega (arith, lowest a)))),
    (λ p. first (lowest p.0) p.1),
  )
    where
      first : OneTo k (number_of t r) → ((j : ℕ) → 1 ≤ j → j < k → Applies t r j → ⊥) → number_of t r ≡ k
      first f none-lower =
          by_eq (number_of t r) k (λ e. e)
          (λ differ. absurd (none-lower (number_of t r) f.0 (omega (arith, differ)) (gives f.0)))

  pub accepted_when : (number_of t r ≡ 0) ↔ ((j : ℕ) → Applies t r j → ⊥)
  accepted_when = (
    (λ e j a. omega (arith, lowest a)),
    (λ none-applies. by_eq (number_of t r) 0 (λ e. e) (λ given. absurd (none-applies (number_of t r) (gives (omega (arith, given)))))),
  )

  applies_to_seven : {j : ℕ} → Applies t r j → j ≤ 7
  applies_to_seven (size fails) = omega arith
  applies_to_seven (cell fails) = omega arith
  applies_to_seven (unknown fails) = omega arith
  applies_to_seven (field kind line fails) = omega arith
  applies_to_seven (down kind line fails) = omega arith
  applies_to_seven (unsent kind line fails) = omega arith
  applies_to_seven (unmet kind line fails) = omega arith

  pub at_most_seven : (applied t r).number ≤ 7
  unfolding applied
  at_most_seven = by_eq (number_of t r) 0 (λ e. omega arith) (λ given. applies_to_seven (gives (omega (arith, given))))
