-- A write to a cell of the table is a write to the named cell of the state that it holds, and the header stays.
use mathlib.Core.Path.{◌≡◌, refl, sym, ap, ◌∙◌, subst, fun_ext}
use mathlib.Core.Bool.{Bool, true, false, not, cond}
use mathlib.Core.List.{List, [], ◌∷◌}
use Prim.Native.Nat.{ℕ, ◌<◌}
use native.Mathlib.Omega.{arith}
use lib.Dec.{T, T_not}
use lib.ListN.{length, get_or, set, length-set}
use lib.Seq.{get_or-set_same, get_or-set_other}
use Rattle.protocol.specs.declared.Counts.{Counts}
use Rattle.protocol.specs.Cells.{Field, same_field, field_exists, Name, same, exists, store, store_all, Writes, store_field, RowWrites}
use Rattle.protocol.proofs.Names.{same_equal, same_field_equal}
use Rattle.protocol.proofs.Store.{Each}
use Rattle.table.specs.Layout.{slot, row_length, header_length, place, table_length}
use Rattle.table.specs.Table.{counts_of, view, set_all, set_fields, row_view}
use Rattle.table.proofs.Places.{slot_inside, slot_same, place_behind, place_inside, place_same}

-- what is read at q after a write at p, where `real` says that q is a cell's place and `hit` that it is the one written
read_set : (l : List ℕ) (p q v : ℕ) (real hit : Bool) → p < length l → (T real → T hit → q ≡ p) → (T real → T (not hit) → q ≡ p → ⊥) → (T hit → T real)
    → cond real (get_or (set l p v) q 0) 0 ≡ cond hit v (cond real (get_or l q 0) 0)
read_set l p q v true true h f g k = rw (f tt tt) (get_or-set_same l p v 0 h)
read_set l p q v true false h f g k = get_or-set_other l p q v 0 (g tt tt)
read_set l p q v false true h f g k = absurd (k tt)
read_set l p q v false false h f g k = refl

-- ---- the whole table

module _ (n : Counts) where
  -- every name that is written is a cell of the setup
  abbrev pub Exist : Writes → Type 0
  Exist = Each (λ m. T (exists n m))

  pub view_set : (t : List ℕ) → length t ≡ table_length n → (m : Name) → T (exists n m) → (v : ℕ) → view n (set t (place n m) v) ≡ store (view n t) m v
  unfolding view
  view_set t long m x v = fun_ext λ k. read_set t (place n m) (place n k) v (exists n k) (same m k) (omega (arith, place_inside n m x))
      (λ y e. ap (place n) (sym (same_equal m k e)))
      (λ y e q. T_not (same m k) e (place_same n m x k y (sym q)))
      (λ e. subst (λ z. T (exists n z)) (same_equal m k e) x)

  pub length_set_all : (t : List ℕ) (ws : Writes) → length (set_all n t ws) ≡ length t
  length_set_all t [] = refl
  length_set_all t (w ∷ ws) = length_set_all (set t (place n w.0) w.1) ws ∙ length-set t (place n w.0) w.1

  pub view_set_all : (t : List ℕ) → length t ≡ table_length n → (ws : Writes) → Exist ws → view n (set_all n t ws) ≡ store_all (view n t) ws
  view_set_all t long [] x = refl
  view_set_all t long (w ∷ ws) x =
      view_set_all (set t (place n w.0) w.1) (length-set t (place n w.0) w.1 ∙ long) ws x.1
      ∙ ap (λ s. store_all s ws) (view_set t long w.0 x.0 w.1)

  header_set_all : (t : List ℕ) (ws : Writes) → Exist ws → (i : ℕ) → i < header_length → get_or (set_all n t ws) i 0 ≡ get_or t i 0
  header_set_all t [] x i h = refl
  header_set_all t (w ∷ ws) x i h =
      header_set_all (set t (place n w.0) w.1) ws x.1 i h
      ∙ get_or-set_other t (place n w.0) i w.1 0 (λ e. omega (arith, place_behind n w.0 x.0))

  pub counts_set_all : (t : List ℕ) (ws : Writes) → Exist ws → counts_of (set_all n t ws) ≡ counts_of t
  counts_set_all t ws x =
      let c = header_set_all t ws x 0 (omega arith) in
      let a = header_set_all t ws x 1 (omega arith) in
      let d = header_set_all t ws x 2 (omega arith) in
      let k = header_set_all t ws x 3 (omega arith) in
      λ j. record { clients = c j; servers = a j; databases = d j; attempts = k j }

-- ---- a row lent by itself

module _ (n : Counts) where
  abbrev pub FieldsExist : RowWrites → Type 0
  FieldsExist [] = Unit {0}
  FieldsExist (w ∷ ws) = T (field_exists n w.0) × FieldsExist ws

  pub row_view_set : (l : List ℕ) → length l ≡ row_length n → (f : Field) → T (field_exists n f) → (v : ℕ) → row_view n (set l (slot n f) v) ≡ store_field (row_view n l) f v
  row_view_set l long f x v = fun_ext λ g. read_set l (slot n f) (slot n g) v (field_exists n g) (same_field f g) (omega (arith, slot_inside n f x))
      (λ y e. ap (slot n) (sym (same_field_equal f g e)))
      (λ y e q. T_not (same_field f g) e (slot_same n f g x y (sym q)))
      (λ e. subst (λ z. T (field_exists n z)) (same_field_equal f g e) x)

  pub length_set_fields : (l : List ℕ) (ws : RowWrites) → length (set_fields n l ws) ≡ length l
  length_set_fields l [] = refl
  length_set_fields l (w ∷ ws) = length_set_fields (set l (slot n w.0) w.1) ws ∙ length-set l (slot n w.0) w.1
