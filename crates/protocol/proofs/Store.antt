-- Laws of writes: which rows the writes to one row change, and the four ways in which a result arrives.
use mathlib.Core.Bool.{Bool, true, false, cond, ◌&&◌, and-true, and-false}
use mathlib.Core.List.{[], ◌∷◌}
use mathlib.Core.Path.{◌≡◌, refl, subst, fun_ext, ◌∙◌}
use Prim.Native.Nat.{ℕ, suc}
use lib.Dec.{T, eqb, eqb→eq, T_not}
use Rattle.lists.proofs.Choice.{by_cond, by_both, T_true}
use Rattle.protocol.specs.declared.Counts.{Counts}
use Rattle.protocol.specs.Cells.{Field, Name, outcome, value, phase, attempt, delivered, row, field_tag, field_server, State, Row, row_of}
use Rattle.protocol.specs.Cells.{Writes, store, store_all, RowWrites, store_field, store_fields, in_row}
use Rattle.protocol.specs.Rules.{calls, result_rule}
use Rattle.protocol.proofs.Tests.{differ, split_both, join_both}

-- every name that is written has the property
abbrev pub Each : (Name → Type 0) → Writes → Type 0
Each P [] = Unit {0}
Each P (w ∷ ws) = P w.0 × Each P ws

-- ---- writes to one row

-- one write: the row (x, y) after a write to the row (c, k)
row_write : (s : State) (c k : ℕ) (f : Field) (v x y : ℕ)
    → row_of (store s (row c k f) v) x y ≡ cond (eqb k y && eqb c x) (store_field (row_of s x y) f v) (row_of s x y)
row_write s c k f v x y = fun_ext (λ g.
    by_both (λ b. cond (eqb (field_tag f) (field_tag g) && (eqb (field_server f) (field_server g) && b)) v (s (row x y g))
    ≡ cond b (store_field (row_of s x y) f v) (row_of s x y) g) (eqb k y && eqb c x)
    (λ t. simp and-true) (λ t. simp and-false))

-- all of them
row_after : (s : State) (c k : ℕ) (ws : RowWrites) (x y : ℕ)
    → row_of (store_all s (in_row c k ws)) x y ≡ cond (eqb k y && eqb c x) (store_fields (row_of s x y) ws) (row_of s x y)
row_after s c k [] x y = by_both (λ b. row_of s x y ≡ cond b (row_of s x y) (row_of s x y)) (eqb k y && eqb c x) (λ t. refl) (λ t. refl)
row_after s c k (w ∷ ws) x y =
    row_after (store s (row c k w.0) w.1) c k ws x y ∙ rw (row_write s c k w.0 w.1 x y) (one_choice (eqb k y && eqb c x))
  where
    new : Row
    new = store_field (row_of s x y) w.0 w.1

    one_choice : (b : Bool) → cond b (store_fields (cond b new (row_of s x y)) ws) (cond b new (row_of s x y))
        ≡ cond b (store_fields new ws) (row_of s x y)
    one_choice true = refl
    one_choice false = refl

-- to show something of every row, show it of the rows as they were, and of the written one
pub on_row : (P : ℕ → ℕ → Row → Type 0) (s : State) (c k : ℕ) (ws : RowWrites)
    → ((x y : ℕ) → P x y (row_of s x y)) → P c k (store_fields (row_of s c k) ws) → (x y : ℕ) → P x y (row_of (store_all s (in_row c k ws)) x y)
on_row P s c k ws old new x y =
    rw (row_after s c k ws x y)
    (by_cond (P x y) (eqb k y && eqb c x) (store_fields (row_of s x y) ws) (row_of s x y)
    (λ t. let (q, p) = split_both k y c x t in here p q) (λ t. old x y))
  where
    here : c ≡ x → k ≡ y → P x y (store_fields (row_of s x y) ws)
    here p q = subst (λ z. P z y (store_fields (row_of s z y) ws)) p (subst (λ z. P c z (store_fields (row_of s c z) ws)) q new)

-- the written row
pub at_row : (P : Row → Type 0) (s : State) (c k : ℕ) (ws : RowWrites) → P (store_fields (row_of s c k) ws) → P (row_of (store_all s (in_row c k ws)) c k)
at_row P s c k ws new = rw (row_after s c k ws c k, T_true (eqb k k && eqb c c) (join_both k k c c refl refl)) new

-- a cell of another row
pub off_row : (c k x y new old : ℕ) → (c ≡ x → k ≡ y → ⊥) → cond (eqb k y && eqb c x) new old ≡ old
off_row c k x y new old other =
    by_cond (λ z. z ≡ old) (eqb k y && eqb c x) new old
    (λ t. let (q, p) = split_both k y c x t in absurd (other p q)) (λ t. refl)

-- ---- a result arrives: the client does not wait on it, it commits, it was the last attempt, or the next attempt begins

-- client c waits on its result k
abbrev pub Waits : State → ℕ → ℕ → Type 0
Waits s c k = (s (phase c) ≡ 1) × (s (attempt c) ≡ k)

pub result_elim : (P : Writes → Type 0) (n : Counts) (s : State) (c k i : ℕ)
    → ((Waits s c k → ⊥) → P [])
    → (Waits s c k → s (row c k outcome) ≡ 1 → P ((phase c, 2) ∷ (delivered c, s (row c k value)) ∷ []))
    → (Waits s c k → (s (row c k outcome) ≡ 1 → ⊥) → P ((phase c, 3) ∷ []))
    → (Waits s c k → (s (row c k outcome) ≡ 1 → ⊥) → (k ≡ n.attempts → ⊥) → P ((attempt c, suc k) ∷ in_row c (suc k) (calls (row_of s c (suc k)))))
    → P (result_rule n s c k i).writes
result_elim P n s c k i stays commits ends begins =
    by_cond P (eqb (s (phase c)) 1 && eqb (s (attempt c)) k) _ []
    (λ t. by_cond P (eqb (s (row c k outcome)) 1) _ _
    (λ u. commits (waits t) (eqb→eq (s (row c k outcome)) 1 u))
    (λ u. by_cond P (eqb k n.attempts) _ _
    (λ w. ends (waits t) (differ (s (row c k outcome)) 1 u))
    (λ w. begins (waits t) (differ (s (row c k outcome)) 1 u) (differ k n.attempts w))))
    (λ t. stays (λ w. T_not (eqb (s (phase c)) 1 && eqb (s (attempt c)) k) t (join_both (s (phase c)) 1 (s (attempt c)) k w.0 w.1)))
  where
    waits : T (eqb (s (phase c)) 1 && eqb (s (attempt c)) k) → Waits s c k
    waits = split_both (s (phase c)) 1 (s (attempt c)) k
