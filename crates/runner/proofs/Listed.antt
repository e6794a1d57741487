-- The list job's invariant, with no word of the machine: i records of rs are accepted, ts are the cells after them, a sound table, and what is left to say of the rest of the list is what is said of the whole.
--     Facts            the invariant.        Said      what is said at the end: the three fields of `ran`
--     starts, goes_on, stops, ended      it holds at the start; an accepted record keeps it; a refused one, and the end of the list, give the answers
--     accepts, refuses     the same of a step's answer
-- Assumes nothing.
use mathlib.Core.Path.{◌≡◌, refl, sym, ◌∙◌, ap, subst}
use Prim.Native.Nat.{ℕ, suc, ◌+◌, ◌<◌, ◌≤◌, zero-le}
use native.Mathlib.Nat.{zero-add, add-zero, add-suc, suc-add}
use native.Mathlib.Numerals.{add-one}
use mathlib.Core.List.{List, [], ◌∷◌}
use lib.Dec.{T}
use lib.ListN.{length, get_or, drop, drop_of_length-le}
use lib.Seq.{drop-cons}
use Rattle.protocol.specs.declared.Event.{Event as Record}
use native.Mathlib.Omega.{arith}
use Rattle.table.specs.Jobs.{Done, table_number, applied, Ran, stopped, run_from, ran}
use Rattle.table.proofs.Runs.{ran_unsound, ran_from, from_accepted, from_refused}
use Rattle.table.specs.Table.{sound}
use Rattle.table.proofs.Soundness.{sound_when, sound_left, refused_untouched}

from_none : (t : List ℕ) → run_from t [] ≡ stopped 0 t
unfolding run_from
from_none t = refl

refused_leaves : (t : List ℕ) (r : Record) → ((applied t r).number ≡ 0 → ⊥) → (applied t r).cells ≡ t
unfolding applied
refused_leaves t r refused = refused_untouched t r refused

module _ (ys : List ℕ) (rs : List Record) where
  -- what a run says: how many are accepted, the refusal, the cells that are left
  abbrev Says : Ran → ℕ → ℕ → List ℕ → Type 0
  Says run accepted number ts = (accepted ≡ run.accepted) × (number ≡ run.refusal) × (ts ≡ run.cells)

  abbrev pub Said : ℕ → ℕ → List ℕ → Type 0
  Said accepted number ts = Says (ran ys rs) accepted number ts

  -- the run from ts, behind the first i records, is what is left of the whole run
  abbrev Left : ℕ → Ran → Type 0
  Left i rest = Says (run_from ys rs) (i + rest.accepted) rest.refusal rest.cells

  abbrev pub Facts : ℕ → List ℕ → Type 0
  Facts i ts = (i ≤ length rs) × (length ts ≡ length ys) × Left i (run_from ts (drop i rs)) × T (sound ts)

  pub starts : T (sound ys) → Facts 0 ys
  starts is_sound = (zero-le, refl, (zero-add _, refl, refl), is_sound)

  pub unsound : (n : ℕ) → n ≡ table_number ys → (n ≡ 0 → ⊥) → Said 0 n ys
  unsound n is other = subst (λ run. Says run 0 n ys) (sym (ran_unsound ys rs (λ z. other (is ∙ z)))) (refl, is, refl)

  -- a run that stops behind i records of a sound table gives the answers
  stopped_there : (i number : ℕ) (ts : List ℕ) → T (sound ys) → run_from ts (drop i rs) ≡ stopped number ts → Facts i ts → Said i number ts
  stopped_there i number ts is_sound ends f =
      let left = subst (Left i) ends f.2 in
      subst (λ run. Says run i number ts) (sym (ran_from ys rs ((sound_when ys).1 is_sound))) (sym (add-zero i) ∙ left.0, left.1, left.2)

  pub ended : (i : ℕ) (ts : List ℕ) → T (sound ys) → Facts i ts → length rs ≤ i → Said (length rs) 0 ts
  ended i ts is_sound f over =
      let all : i ≡ length rs = omega (arith, f.0, over) in
      subst (λ j. Said j 0 ts) all (stopped_there i 0 ts is_sound (ap (run_from ts) (drop_of_length-le rs over) ∙ from_none ts) f)

  module _ (i : ℕ) (ts : List ℕ) (d : Record) (less : i < length rs) where
    abbrev r : Record
    r = get_or rs i d

    next : run_from ts (drop i rs) ≡ run_from ts (r ∷ drop (suc i) rs)
    next = ap (run_from ts) (drop-cons rs i d less)

    pub stops : T (sound ys) → Facts i ts → ((applied ts r).number ≡ 0 → ⊥) → Said i (applied ts r).number (applied ts r).cells
    stops is_sound f refused =
        let said = stopped_there i (applied ts r).number ts is_sound (next ∙ from_refused ts r (drop (suc i) rs) refused) f in
        (said.0, said.1, refused_leaves ts r refused ∙ said.2)

    pub goes_on : Facts i ts → (applied ts r).number ≡ 0 → length (applied ts r).cells ≡ length ts → Facts (i + 1) (applied ts r).cells
    goes_on f accepted long =
        let left = subst (Left i) (next ∙ from_accepted ts r (drop (suc i) rs) accepted) f.2 in
        subst (λ (j : ℕ). Facts j (applied ts r).cells) (sym (add-one i)) (less, long ∙ f.1, (suc-add i _ ∙ sym (add-suc i _) ∙ left.0, left.1, left.2), sound_left ts r accepted)

  -- the same, of what a step on the list's next record answers and leaves
  module _ (i : ℕ) (ts : List ℕ) (d : Record) (less : i < length rs) (number : ℕ) (cells : List ℕ)
      (does : ◌≡◌ {A = Done} (record { number = number; cells = cells }) (applied ts (get_or rs i d))) where
    pub refuses : T (sound ys) → Facts i ts → (number ≡ 0 → ⊥) → Said i number cells
    refuses is_sound f refused =
        let said = stops i ts d less is_sound f (λ zero. refused (ap (λ s. s.number) does ∙ zero)) in
        (said.0, ap (λ s. s.number) does ∙ said.1, ap (λ s. s.cells) does ∙ said.2)

    pub accepts : Facts i ts → number ≡ 0 → length cells ≡ length ts → Facts (i + 1) cells
    accepts f accepted long =
        subst (λ l. Facts (i + 1) l) (ap (λ s. s.cells) (sym does))
        (goes_on i ts d less f (ap (λ s. s.number) (sym does) ∙ accepted) (ap (λ s. length s.cells) (sym does) ∙ long))
