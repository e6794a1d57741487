-- What the loop of `lent::put_cells` keeps: a text is put.
use mathlib.Core.List.{List}
use Prim.Native.Nat.{ℕ}
use Rattle.text.specs.Lent.{Continues}
use Rattle.lent.proofs.put_cells.Given as goal

abbrev pub invariant-loop-place : goal.invariant-loop-place
invariant-loop-place l = (text : List ℕ) × Continues l.initial.page l.page text
