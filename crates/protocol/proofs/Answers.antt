-- Equal numbers are equal answers, and no refusal has the number of an accepted event.
use mathlib.Core.Path.{◌≡◌, refl, sym, ap, ◌∙◌}
use mathlib.Core.Bool.{true, false, false≢true}
use Prim.Native.Nat.{ℕ, zero, suc}
use lib.Dec.{eqb}
use Rattle.std.specs.Prelude.{Result, Ok, Err, IsErrAnd, is_err}
use Rattle.std.proofs.lemmas.Result.{err_from_is_err_and}
use Rattle.protocol.specs.declared.Refusal.{Refusal}
use Rattle.protocol.specs.declared.Refusal.TheVariants.{WrongSize, OutOfRange, UnknownKind, WrongField, PartyDown, NotSent, MustNot}
use Rattle.protocol.specs.Answers.{refusal_number, answer_number}

-- the answer that has this number
answer_with : ℕ → Result (Unit {0}) Refusal
answer_with zero = Ok tt
answer_with (suc zero) = Err WrongSize
answer_with (suc (suc zero)) = Err OutOfRange
answer_with (suc (suc (suc zero))) = Err UnknownKind
answer_with (suc (suc (suc (suc zero)))) = Err WrongField
answer_with (suc (suc (suc (suc (suc zero))))) = Err PartyDown
answer_with (suc (suc (suc (suc (suc (suc zero)))))) = Err NotSent
answer_with (suc (suc (suc (suc (suc (suc (suc number))))))) = Err MustNot

read_back : (a : Result (Unit {0}) Refusal) → answer_with (answer_number a) ≡ a
unfolding answer_with
read_back (Ok tt) = refl
read_back (Err WrongSize) = refl
read_back (Err OutOfRange) = refl
read_back (Err UnknownKind) = refl
read_back (Err WrongField) = refl
read_back (Err PartyDown) = refl
read_back (Err NotSent) = refl
read_back (Err MustNot) = refl

pub one_answer : (a b : Result (Unit {0}) Refusal) → answer_number a ≡ answer_number b → a ≡ b
one_answer a b same = sym (read_back a) ∙ ap answer_with same ∙ read_back b

pub not_accepted : (refusal : Refusal) → eqb (refusal_number refusal) 0 ≡ false
not_accepted WrongSize = refl
not_accepted OutOfRange = refl
not_accepted UnknownKind = refl
not_accepted WrongField = refl
not_accepted PartyDown = refl
not_accepted NotSent = refl
not_accepted MustNot = refl

-- a refusal that is passed on has its number
pub passed_on : (answer : Result (Unit {0}) Refusal) (refusal : Refusal) → IsErrAnd answer (λ given-back. given-back ≡ refusal)
    → answer_number answer ≡ refusal_number refusal
passed_on answer refusal back = let (given-back, e, same) = err_from_is_err_and answer back in rw (e, same)

-- whether an answer is a refusal, by its number
pub refusal_numbered : (answer : Result (Unit {0}) Refusal) → is_err answer ≡ true → answer_number answer ≡ 0 → ⊥
refusal_numbered (Ok accepted) e none = false≢true e
refusal_numbered (Err refusal) e none = false≢true (sym (not_accepted refusal) ∙ ap (λ x. eqb x 0) none)

pub accepted_numbered : (answer : Result (Unit {0}) Refusal) → is_err answer ≡ false → answer_number answer ≡ 0
accepted_numbered (Ok accepted) e = refl
accepted_numbered (Err refusal) e = absurd (false≢true (sym e))
