-- A script's lines one after another: what reading within a number of lines leaves out is nothing.
use mathlib.Core.Path.{◌≡◌, refl, ap}
use mathlib.Core.List.{List, [], ◌∷◌}
use mathlib.Core.Option.{Option, none, some}
use Prim.Native.Nat.{ℕ, zero, suc, ◌≤◌}
use native.Mathlib.Omega.{arith}
use lib.ListN.{length}
use Rattle.protocol.specs.declared.Event.{Event}
use Rattle.lines.specs.Lines.{read_event}
use Rattle.lines.proofs.Inverse.{event_shorter}
use Rattle.listing.specs.Script.{Script, ended, malformed, event, line_then, script_within, script}

-- to show something of a line and what is made of the text behind it, show it for each that may be read
pub by_line : (P : Script → Type 0) (read : Option (Event × List ℕ)) (next : List ℕ → Script)
    → P malformed → ((e : Event) (rest : List ℕ) → read ≡ some (e, rest) → P (event e (next rest))) → P (line_then read next)
by_line P none next bad good = bad
by_line P (some found) next bad good = good found.0 found.1 refl

-- ---- as many lines as bytes are enough

-- only the text behind a line that was read is looked at further
line_same : (read : Option (Event × List ℕ)) (f g : List ℕ → Script)
    → ((e : Event) (rest : List ℕ) → read ≡ some (e, rest) → f rest ≡ g rest) → line_then read f ≡ line_then read g
line_same none f g same = refl
line_same (some found) f g same = ap (event found.0) (same found.0 found.1 refl)

within_same : (m n : ℕ) (text : List ℕ) → length text ≤ m → length text ≤ n → script_within m text ≡ script_within n text
unfolding script_within
within_same zero zero text h k = refl
within_same zero (suc n) [] h k = refl
within_same zero (suc n) (b ∷ text) h k = absurd (omega arith)
within_same (suc m) zero [] h k = refl
within_same (suc m) zero (b ∷ text) h k = absurd (omega arith)
within_same (suc m) (suc n) [] h k = refl
within_same (suc m) (suc n) (b ∷ text) h k =
    line_same (read_event (b ∷ text)) (script_within m) (script_within n) (λ e rest read.
    let shorter = event_shorter (b ∷ text) e rest read in
    within_same m n rest (omega arith) (omega arith))

-- ---- a script is its first line and the script behind it

pub script_end : script [] ≡ ended
unfolding script script_within
script_end = refl

pub script_malformed : (text : List ℕ) → 1 ≤ length text → read_event text ≡ none → script text ≡ malformed
unfolding script script_within
script_malformed [] more read = absurd (omega arith)
script_malformed (b ∷ text) more read = rw read

pub script_event : (text : List ℕ) (e : Event) (rest : List ℕ) → read_event text ≡ some (e, rest) → script text ≡ event e (script rest)
unfolding script script_within
script_event [] e rest read = absurd (omega (arith, event_shorter [] e rest read))
script_event (b ∷ text) e rest read =
    let shorter = event_shorter (b ∷ text) e rest read in
    rw read (ap (event e) (within_same (length text) (length rest) rest (omega arith) (omega arith)))
