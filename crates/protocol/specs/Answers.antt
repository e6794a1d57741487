-- The paper's number for each case of the engine's answer.
use Rattle.std.specs.Prelude.{ℕ, Result, Ok, Err}
use Rattle.protocol.specs.declared.Refusal.{Refusal}
use Rattle.protocol.specs.declared.Refusal.TheVariants.{WrongSize, OutOfRange, UnknownKind, WrongField, PartyDown, NotSent, MustNot}

abbrev pub refusal_number : Refusal → ℕ
refusal_number WrongSize = 1
refusal_number OutOfRange = 2
refusal_number UnknownKind = 3
refusal_number WrongField = 4
refusal_number PartyDown = 5
refusal_number NotSent = 6
refusal_number MustNot = 7

abbrev pub answer_number : Result (Unit {0}) Refusal → ℕ
answer_number (Ok accepted) = 0
answer_number (Err refusal) = refusal_number refusal
