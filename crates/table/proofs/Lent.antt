-- The row of a result, lent by itself: what it holds, and that writes to it are writes to the table.
use mathlib.Core.Path.{◌≡◌, refl, sym, ap, ◌∙◌, fun_ext}
use mathlib.Core.Bool.{Bool, true, false, cond}
use mathlib.Core.List.{List, [], ◌∷◌}
use Prim.Native.Nat.{ℕ, ◌+◌, ◌-◌, ◌≤◌, ◌<◌}
use native.Mathlib.Nat.{add-sub_cancel_left}
use native.Mathlib.Omega.{arith}
use lib.Dec.{T}
use lib.ListN.{length, get_or, take, drop, set, length-set}
use Rattle.lists.specs.Tests.{inside}
use Rattle.lists.specs.Parts.{part, put_back}
use Rattle.lists.proofs.Choice.{T_true}
use Rattle.lists.proofs.Parts.{part_length, get_or_part, put_back_part, put_back_set}
use Rattle.protocol.specs.declared.Counts.{Counts}
use Rattle.protocol.specs.Cells.{Field, field_exists, row_of, RowWrites, in_row}
use Rattle.table.specs.Layout.{slot, row_length, row_start, place, table_length}
use Rattle.table.specs.Table.{view, set_all, set_fields, row_view}
use Rattle.table.proofs.Places.{slot_inside, row_end}
use Rattle.table.proofs.View.{FieldsExist}

module _ (n : Counts) (t : List ℕ) (c k : ℕ) (long : length t ≡ table_length n) (cIn : T (inside n.clients c)) (kIn : T (inside n.attempts k)) where
  pub row_fits : row_start n c k + row_length n ≤ length t
  row_fits = omega (arith, row_end n c k cIn kIn)

  pub row_long : length (part (row_start n c k) (row_length n) t) ≡ row_length n
  row_long = part_length (row_start n c k) (row_length n) t row_fits

  -- what the lent cells hold is the row of the state
  pub row_view_lem : row_of (view n t) c k ≡ row_view n (part (row_start n c k) (row_length n) t)
  unfolding view place
  row_view_lem = fun_ext λ f. rw (T_true (inside n.clients c) cIn, T_true (inside n.attempts k) kIn) (read f (field_exists n f) (λ x. slot_inside n f x))
    where
      read : (f : Field) (b : Bool) → (T b → slot n f < row_length n)
          → cond b (get_or t (row_start n c k + slot n f) 0) 0 ≡ cond b (get_or (part (row_start n c k) (row_length n) t) (slot n f) 0) 0
      read f true h = sym (get_or_part (row_start n c k) (row_length n) t (slot n f) (h tt))
      read f false h = refl

  -- the same of the cells as code lends them, from a start to an end
  pub lent_view : (start width : ℕ) → start ≡ row_start n c k → width ≡ row_length n → row_view n (take (start + width - start) (drop start t)) ≡ row_of (view n t) c k
  lent_view start width s w =
      ap (λ m. row_view n (part start m t)) (add-sub_cancel_left start width ∙ w) ∙ ap (λ a. row_view n (part a (row_length n) t)) s ∙ sym row_view_lem

  -- the lent cells put back after writes to them
  put_back_lem : (l : List ℕ) → length l ≡ row_length n → (ws : RowWrites) → FieldsExist n ws
      → put_back (row_start n c k) (row_length n) t (set_fields n l ws) ≡ set_all n (put_back (row_start n c k) (row_length n) t l) (in_row c k ws)
  unfolding place
  put_back_lem l e [] fs = refl
  put_back_lem l e (w ∷ ws) fs =
      put_back_lem (set l (slot n w.0) w.1) (length-set l (slot n w.0) w.1 ∙ e) ws fs.1
      ∙ ap (λ u. set_all n u (in_row c k ws)) (put_back_set (row_start n c k) (row_length n) t l (slot n w.0) w.1 row_fits e (slot_inside n w.0 fs.0))

  pub lent_writes : (ws : RowWrites) → FieldsExist n ws
      → put_back (row_start n c k) (row_length n) t (set_fields n (part (row_start n c k) (row_length n) t) ws) ≡ set_all n t (in_row c k ws)
  lent_writes ws fs =
      put_back_lem (part (row_start n c k) (row_length n) t) row_long ws fs
      ∙ ap (λ u. set_all n u (in_row c k ws)) (put_back_part (row_start n c k) (row_length n) t row_fits)
