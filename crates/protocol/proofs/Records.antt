-- Records and events: the kinds are 1 to 18, and a record whose fields pass is the record of its event, so nothing is lost in reading it.
use mathlib.Core.Path.{◌≡◌, refl, sym, ap, ap₂, subst, ◌∙◌}
use mathlib.Core.Bool.{Bool, true, false, not, cond}
use mathlib.Core.List.{List, [], ◌∷◌}
use mathlib.Core.Option.{none, some, none-ne-some, some-injective}
use Prim.Native.Nat.{ℕ, zero, suc, ◌≤◌, ◌<◌}
use native.Mathlib.Omega.{arith}
use lib.Dec.{T, eqb, eqb→eq, not_T, T_not}
use lib.ListN.{length, get_elem?}
use Rattle.lists.specs.Tests.{All, inside}
use Rattle.lists.proofs.Choice.{inside_low, inside_high, in_inside}
use Rattle.protocol.specs.declared.Counts.{Counts}
use Rattle.protocol.specs.declared.Event.{Event as Record}
use Rattle.protocol.specs.Events.{Event, issue, timeout, request_arrives, compute, prepare_arrives, vote_arrives, ready_arrives, write, suspect, trust, clean, decide_arrives, ack_arrives, result_arrives, server_crashes, database_crashes, client_crashes, database_recovers}
use Rattle.protocol.specs.Events.{Kind, kinds, kind_of, record_of_numbers, record_of, unused, largest, fits}
use Rattle.protocol.specs.Numbers.{field_tests}

-- ---- the lines of a table, by their places

module _ {A : Type 0} where
  abbrev Lines : (ℕ → A → Type 0) → List A → Type 0
  Lines P [] = Unit {0}
  Lines P (x ∷ xs) = P 0 x × Lines (λ i. P (suc i)) xs

  line_at : (P : ℕ → A → Type 0) (xs : List A) → Lines P xs → (i : ℕ) (x : A) → get_elem? xs i ≡ some x → P i x
  line_at P [] ls i x e = absurd (none-ne-some x e)
  line_at P (y ∷ xs) ls zero x e = subst (P 0) (some-injective y x e) ls.0
  line_at P (y ∷ xs) ls (suc i) x e = line_at (λ i. P (suc i)) xs ls.1 i x e

  line_in : (xs : List A) (i : ℕ) → i < length xs → (x : A) × (get_elem? xs i ≡ some x)
  line_in [] i h = absurd (omega arith)
  line_in (y ∷ xs) zero h = (y, refl)
  line_in (y ∷ xs) (suc i) h = line_in xs i (omega arith)

  line_out : (xs : List A) (i : ℕ) → length xs ≤ i → get_elem? xs i ≡ none
  line_out [] i h = refl
  line_out (y ∷ xs) zero h = absurd (omega arith)
  line_out (y ∷ xs) (suc i) h = line_out xs i (omega arith)

-- ---- kind not 1 to 18

pub kind_known : (k : ℕ) → T (inside 18 k) → (kind : Kind) × (kind_of k ≡ some kind)
kind_known zero t = absurd (omega (arith, inside_low 18 0 t))
kind_known (suc i) t = line_in kinds i (omega (arith, inside_high 18 (suc i) t))

pub kind_unknown : (k : ℕ) → T (not (inside 18 k)) → kind_of k ≡ none
kind_unknown zero t = refl
kind_unknown (suc i) t = line_out kinds i (omega (arith, low))
  where
    low : i < 18 → ⊥
    low h = T_not (inside 18 (suc i)) t (in_inside 18 (suc i) (omega arith) (omega arith))

pub above_kinds : (k : ℕ) → 18 < k → kind_of k ≡ none
above_kinds k above = kind_unknown k (not_T (inside 18 k) (λ t. omega (arith, inside_high 18 k t)))

-- a kind that is none of the first `last`, as a decision tells it behind its arms, and not 0
abbrev pub NoneOf : ℕ → ℕ → Type 0
NoneOf zero k = Unit {0}
NoneOf (suc last) k = NoneOf last k × (k ≡ suc last → ⊥)

past : (last k : ℕ) → 1 ≤ k → NoneOf last k → last < k
past zero k low other = low
past (suc last) k low other = omega (arith, past last k low other.0, other.1)

pub no_line : (k : ℕ) → NoneOf 18 k × (k ≡ 0 → ⊥) → kind_of k ≡ none
no_line k other = above_kinds k (past 18 k (omega (arith, other.1)) other.0)

-- ---- a record is that of its event

-- a field as an event's record has it: 0 where unused
abbrev kept : ℕ → ℕ → ℕ
kept limit field = cond (eqb limit unused) 0 field

abbrev keeping : ℕ → Kind → Record → Record
keeping i kind r =
    record_of_numbers (suc i) (kept kind.client r.client) (kept kind.attempt r.attempt) (kept kind.server r.server)
    (kept kind.database r.database) (kept kind.value r.value)

abbrev Faithful : ℕ → Kind → Type 0
Faithful i kind = (λ r. record_of (kind.event r)) ≡ keeping i kind

faithful : Lines Faithful kinds
faithful = (refl, (refl, (refl, (refl, (refl, (refl, (refl, (refl, (refl, (refl, (refl, (refl, (refl, (refl, (refl, (refl, (refl, (refl, tt))))))))))))))))))

-- an unused field that passes is 0
kept_same : (n : Counts) (limit field : ℕ) → T (fits n limit field) → kept limit field ≡ field
kept_same n limit field = go (eqb limit unused)
  where
    go : (b : Bool) → T (cond b (eqb field 0) (inside (largest n limit) field)) → cond b 0 field ≡ field
    go true t = sym (eqb→eq field 0 t)
    go false t = refl

pub event_record : (n : Counts) (r : Record) (kind : Kind) → kind_of r.kind ≡ some kind → All (field_tests n (some kind) r)
    → record_of (kind.event r) ≡ r
event_record n r kind e f = go r.kind refl e
  where
    go : (k : ℕ) → r.kind ≡ k → kind_of k ≡ some kind → record_of (kind.event r) ≡ r
    go zero q e = absurd (none-ne-some kind e)
    go (suc i) q e =
        ap (λ read. read r) (line_at Faithful kinds faithful i kind e)
        ∙ λ j. record {
          kind = sym q j;
          client = kept_same n kind.client r.client f.0 j;
          attempt = kept_same n kind.attempt r.attempt f.1.0 j;
          server = kept_same n kind.server r.server f.1.1.0 j;
          database = kept_same n kind.database r.database f.1.1.1.0 j;
          value = kept_same n kind.value r.value f.1.1.1.1.0 j;
        }

-- ---- the record of an event is read as that event, and is no other event's

pub event_of_lem : (e : Event) → (kind : Kind) × (kind_of (record_of e).kind ≡ some kind) × (kind.event (record_of e) ≡ e)
event_of_lem (issue c v) = (_, refl, refl)
event_of_lem (timeout c) = (_, refl, refl)
event_of_lem (request_arrives c k i) = (_, refl, refl)
event_of_lem (compute c k i v) = (_, refl, refl)
event_of_lem (prepare_arrives c k d v) = (_, refl, refl)
event_of_lem (vote_arrives c k i d) = (_, refl, refl)
event_of_lem (ready_arrives c k i d) = (_, refl, refl)
event_of_lem (write c k i) = (_, refl, refl)
event_of_lem (suspect i o) = (_, refl, refl)
event_of_lem (trust i o) = (_, refl, refl)
event_of_lem (clean c k i) = (_, refl, refl)
event_of_lem (decide_arrives c k i d) = (_, refl, refl)
event_of_lem (ack_arrives c k i d) = (_, refl, refl)
event_of_lem (result_arrives c k i) = (_, refl, refl)
event_of_lem (server_crashes i) = (_, refl, refl)
event_of_lem (database_crashes d) = (_, refl, refl)
event_of_lem (client_crashes c) = (_, refl, refl)
event_of_lem (database_recovers d) = (_, refl, refl)

pub one_event : (e f : Event) → record_of e ≡ record_of f → e ≡ f
one_event e f same =
    let (kind, line, reads) = event_of_lem e in
    let (other, line-too, reads-too) = event_of_lem f in
    let kinds-same = some-injective kind other (sym line ∙ ap (λ r. kind_of r.kind) same ∙ line-too) in
    sym reads ∙ ap₂ (λ k r. k.event r) kinds-same same ∙ reads-too
