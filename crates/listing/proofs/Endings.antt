-- The lines of clients and results, one behind another.
use mathlib.Core.Path.{◌≡◌, refl}
use mathlib.Core.List.{List}
use Prim.Native.Nat.{ℕ, suc, ◌-◌, ◌≤◌}
use native.Mathlib.Omega.{arith}
use Rattle.text.specs.declared.Page.{Page}
use Rattle.text.specs.Writing.{puts}
use Rattle.text.specs.Lent.{Continues}
use Rattle.text.proofs.Pages.{continues}
use Rattle.listing.specs.Listing.{for_each}

-- ---- loops: the texts of the ids below one are put, and then its own

module _ (text : ℕ → List ℕ) (first page : Page) where
  pub none_put : Continues first first (for_each 0 text)
  unfolding for_each puts
  none_put = record { text_after = refl; same_room = refl }

  pub one_put : (id upto : ℕ) (next : Page) → 1 ≤ id → upto ≡ id → Continues first page (for_each (id - 1) text) → Continues page next (text id)
      → Continues first next (for_each upto text)
  unfolding for_each
  one_put id upto next low same so_far put =
      let whole : upto ≡ suc (id - 1) = omega arith in
      let own : id ≡ suc (id - 1) = omega arith in
      rw whole (continues _ _ _ _ _ so_far (rw own at put))
