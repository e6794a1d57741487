-- Which cells an accepted record changes: those that its event may change, and no other.
use mathlib.Core.List.{List, [], ◌∷◌}
use mathlib.Core.Logic.{◌⊎◌, inl, inr}
use mathlib.Core.Path.{◌≡◌, refl, ◌∙◌}
use Prim.Native.Nat.{ℕ}
use lib.Dec.{T}
use lib.ListN.{get_or, set}
use lib.Seq.{get_or-set_other}
use Rattle.lists.proofs.Choice.{by_eq}
use Rattle.protocol.specs.declared.Counts.{Counts}
use Rattle.protocol.specs.declared.Event.{Event as Record}
use Rattle.protocol.specs.Cells.{Name, Writes, exists}
use Rattle.protocol.specs.Events.{Event}
use Rattle.protocol.specs.Rules.{rule}
use Rattle.protocol.specs.Touched.{MayChange}
use Rattle.protocol.proofs.Store.{Each}
use Rattle.protocol.proofs.Touched.{touches}
use Rattle.table.specs.Layout.{place}
use Rattle.table.specs.Table.{view, set_all}
use Rattle.table.specs.Jobs.{applied}
use Rattle.table.proofs.Runs.{Does}

module _ (n : Counts) (Real May : Name → Type 0) where
  -- the cell at p is that of a name with both properties
  abbrev Named : ℕ → Type 0
  Named p = (m : Name) × Real m × May m × (p ≡ place n m)

  written : (t : List ℕ) (ws : Writes) → Each Real ws → Each May ws → (p : ℕ) → (get_or (set_all n t ws) p 0 ≡ get_or t p 0) ⊎ Named p
  written t [] real may p = inl refl
  written t (w ∷ ws) real may p =
      by_eq p (place n w.0)
      (λ here. inr (w.0, real.0, may.0, here))
      (λ elsewhere. elim (written (set t (place n w.0) w.1) ws real.1 may.1 p) [
        | inl same ↦ inl (same ∙ get_or-set_other t (place n w.0) p w.1 0 elsewhere)
        | inr named ↦ inr named
      ])

pub changes : (n : Counts) (t : List ℕ) (r : Record) (e : Event) → Does n t r e → (p : ℕ)
    → (get_or (applied t r).cells p 0 ≡ get_or t p 0) ⊎ ((m : Name) × T (exists n m) × MayChange (view n t) e m × (p ≡ place n m))
changes n t r e does p =
    rw does.writes (written n (λ m. T (exists n m)) (MayChange (view n t) e) t (rule n (view n t) e).writes does.real (touches n (view n t) e) p)
