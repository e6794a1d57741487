-- What an accepted record met: counts and length, every cell's range, the kind, the fields, and its event's tests; and the other way.
use mathlib.Core.Path.{◌≡◌, refl, sym, ◌∙◌}
use mathlib.Core.Bool.{cond}
use mathlib.Core.List.{List}
use mathlib.Core.Option.{Option, none, some}
use Prim.Native.Nat.{ℕ, zero, suc}
use native.Mathlib.Omega.{arith}
use lib.Dec.{T, eqb, eqb-suc-zero}
use Rattle.lists.specs.Tests.{every, All}
use Rattle.lists.proofs.Choice.{every_all, all_every, passed, passes}
use Rattle.protocol.specs.declared.Counts.{Counts}
use Rattle.protocol.specs.declared.Event.{Event as Record}
use Rattle.protocol.specs.Cells.{State}
use Rattle.protocol.specs.Events.{Kind, kind_of}
use Rattle.protocol.specs.Numbers.{in_range, field_tests, refusal, refusal_at, record_refusal}
use Rattle.table.specs.Table.{counts_of, view, size_tests}
use Rattle.table.specs.Jobs.{table_number, number_of}

-- ---- 1 and 2

pub record Sound (t : List ℕ) : Type 0 where
  pub size : All (size_tests (counts_of t) t)
  pub range : T (in_range (counts_of t) (view (counts_of t) t))

-- the one place where the definition is opened
pub table_is : (t : List ℕ) → table_number t ≡ cond (every (size_tests (counts_of t) t)) (cond (in_range (counts_of t) (view (counts_of t) t)) 0 2) 1
unfolding table_number
table_is t = refl

pub table_sound : (t : List ℕ) → table_number t ≡ 0 → Sound t
table_sound t e =
    let p = passed (every (size_tests (counts_of t) t)) (cond (in_range (counts_of t) (view (counts_of t) t)) 0 2) 1 (omega arith) (sym (table_is t) ∙ e) in
    let q = passed (in_range (counts_of t) (view (counts_of t) t)) 0 2 (omega arith) p.1 in
    record { size = every_all (size_tests (counts_of t) t) p.0; range = q.0 }

pub sound_table : (t : List ℕ) → Sound t → table_number t ≡ 0
sound_table t s =
    table_is t
    ∙ passes (every (size_tests (counts_of t) t)) (cond (in_range (counts_of t) (view (counts_of t) t)) 0 2) 1 (all_every (size_tests (counts_of t) t) s.size)
    (passes (in_range (counts_of t) (view (counts_of t) t)) 0 2 s.range refl)

-- ---- 3 to 7

pub record Reads (n : Counts) (s : State) (r : Record) : Type 0 where
  pub kind : Kind
  pub line : kind_of r.kind ≡ some kind
  pub fields : All (field_tests n (some kind) r)
  pub accepted : refusal n s (kind.event r) ≡ 0

pub reads : (n : Counts) (s : State) (r : Record) → record_refusal n s r ≡ 0 → Reads n s r
unfolding record_refusal
reads n s r e = go (kind_of r.kind) refl e
  where
    go : (k : Option Kind) → kind_of r.kind ≡ k → refusal_at n s r k ≡ 0 → Reads n s r
    go none q e = absurd (omega arith)
    go (some kind) q e =
        let p = passed (every (field_tests n (some kind) r)) (refusal n s (kind.event r)) 4 (omega arith) e in
        record { kind = kind; line = q; fields = every_all (field_tests n (some kind) r) p.0; accepted = p.1 }

pub read : (n : Counts) (s : State) (r : Record) → Reads n s r → record_refusal n s r ≡ 0
unfolding record_refusal
read n s r a = rw a.line (passes (every (field_tests n (some a.kind) r)) (refusal n s (a.kind.event r)) 4 (all_every (field_tests n (some a.kind) r) a.fields) a.accepted)

-- ---- all of them

pub record Accepts (t : List ℕ) (r : Record) : Type 0 where
  pub sound : Sound t
  pub reading : Reads (counts_of t) (view (counts_of t) t) r

both_zero : (x y : ℕ) → cond (eqb x 0) y x ≡ 0 → (x ≡ 0) × (y ≡ 0)
both_zero zero y e = (refl, e)
both_zero (suc x) y e = absurd (omega (arith, rw (eqb-suc-zero x) at e))

pub accepts : (t : List ℕ) (r : Record) → number_of t r ≡ 0 → Accepts t r
unfolding number_of
accepts t r e =
    let p = both_zero (table_number t) (record_refusal (counts_of t) (view (counts_of t) t) r) e in
    record { sound = table_sound t p.0; reading = reads (counts_of t) (view (counts_of t) t) r p.1 }

pub accepted : (t : List ℕ) (r : Record) → Accepts t r → number_of t r ≡ 0
unfolding number_of
accepted t r a = rw (sound_table t a.sound) (read (counts_of t) (view (counts_of t) t) r a.reading)
