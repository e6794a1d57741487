-- The kinds as the code names them, each with its number.
use Rattle.std.specs.Prelude.{◌≡◌, ℕ, Result, MatchResult}
use Rattle.std.proofs.Math.Option.{none}
use Rattle.protocol.specs.declared.Kind.{Kind}
use Rattle.protocol.specs.declared.Kind.TheVariants.{Issue, Timeout, RequestArrives, Compute, PrepareArrives, VoteArrives, ReadyArrives, Write, Suspect, Trust, Clean, DecideArrives, AckArrives, ResultArrives, ServerCrashes, DatabaseCrashes, ClientCrashes, DatabaseRecovers}
use Rattle.protocol.specs.declared.Refusal.{Refusal}
use Rattle.protocol.specs.declared.Refusal.TheVariants.{UnknownKind}
use Rattle.protocol.specs.Events.{kind_of}

abbrev pub kind_number : Kind → ℕ
kind_number Issue = 1
kind_number Timeout = 2
kind_number RequestArrives = 3
kind_number Compute = 4
kind_number PrepareArrives = 5
kind_number VoteArrives = 6
kind_number ReadyArrives = 7
kind_number Write = 8
kind_number Suspect = 9
kind_number Trust = 10
kind_number Clean = 11
kind_number DecideArrives = 12
kind_number AckArrives = 13
kind_number ResultArrives = 14
kind_number ServerCrashes = 15
kind_number DatabaseCrashes = 16
kind_number ClientCrashes = 17
kind_number DatabaseRecovers = 18

-- the kind of a number, or number 3 where the table of kinds has no line for it
abbrev pub Decodes : ℕ → Result Kind Refusal → Type 0
Decodes number answer = MatchResult answer (λ kind. kind_number kind ≡ number) (λ refusal. (refusal ≡ UnknownKind) × (kind_of number ≡ none))
