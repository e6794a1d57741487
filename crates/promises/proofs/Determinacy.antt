-- Determinacy: two outcomes that the contract of a public function allows for one call are equal. There is no exception.
use mathlib.Core.Path.{◌≡◌, refl, sym, ap, ap₂, ◌∙◌}
use mathlib.Core.List.{List}
use Prim.Native.Nat.{ℕ}
use seplogic.Ra.Ura.{Ura}
use base.Logic.{SProp}
use contract.Lifetimes.{Lfts}
use contract.Monad.{Fun, fact}
use denote.Triple.Clauses.{AtExit}
use denote.Triple.Entry.{Args, Res}
use types.Logic.{Logic}
use prog.Memory.{Memory}
use prog.Routine.{Routine}
use Rattle.std.specs.Prelude.{Result}
use Rattle.protocol.specs.declared.Refusal.{Refusal}
use Rattle.protocol.specs.declared.Event.{Event as Record}
use Rattle.protocol.specs.Answers.{answer_number}
use Rattle.protocol.proofs.Answers.{one_answer}
use Rattle.table.specs.Jobs.{Done}
use Rattle.runner.specs.declared.Ran.{Ran}
use Rattle.engine.proofs.set_up.Kinds as set-up-kinds
use Rattle.engine.proofs.set_up.Reads as set-up
use Rattle.engine.proofs.apply.Kinds as apply-kinds
use Rattle.engine.proofs.apply.Reads as apply
use Rattle.engine.proofs.look_over.Kinds as look-over-kinds
use Rattle.engine.proofs.look_over.Reads as look-over
use Rattle.engine.proofs.apply_sound.Kinds as apply-sound-kinds
use Rattle.engine.proofs.apply_sound.Reads as apply-sound
use Rattle.engine.proofs.number.Kinds as number-kinds
use Rattle.engine.proofs.number.Reads as number
use Rattle.engine.proofs.check.Kinds as check-kinds
use Rattle.engine.proofs.check.Reads as check
use Rattle.engine.proofs.step.Kinds as step-kinds
use Rattle.engine.proofs.step.Reads as step
use Rattle.engine.proofs.step_sound.Kinds as step-sound-kinds
use Rattle.engine.proofs.step_sound.Reads as step-sound
use Rattle.runner.proofs.vrolkant_table_length.Kinds as vrolkant-table-length-kinds
use Rattle.runner.proofs.vrolkant_table_length.Reads as vrolkant-table-length
use Rattle.runner.proofs.vrolkant_set_up.Kinds as vrolkant-set-up-kinds
use Rattle.runner.proofs.vrolkant_set_up.Reads as vrolkant-set-up
use Rattle.runner.proofs.vrolkant_apply.Kinds as vrolkant-apply-kinds
use Rattle.runner.proofs.vrolkant_apply.Reads as vrolkant-apply
use Rattle.runner.specs.contracts.vrolkant_run as vrolkant-run
use Rattle.listing.proofs.list.Kinds as list-kinds
use Rattle.listing.proofs.list.Reads as list
use Rattle.promises.specs.Outcomes.{OneResult, OneOutcome, RanSo}

-- ---- the first two public jobs: equal numbers are equal answers

one_done : (done : Done) (a b : Result (Unit {0}) Refusal) (t q : List ℕ) → record { number = answer_number a; cells = t } ≡ done → record { number = answer_number b; cells = q } ≡ done
    → (a ≡ b) × (t ≡ q)
one_done done a b t q first second =
    let same = first ∙ sym second in
    (one_answer a b (ap (λ d. d.number) same), ap (λ d. d.cells) same)

pub one_set_up : OneOutcome set-up-kinds.ps set-up-kinds.r set-up.Learnt (λ κs s. s.0.now)
one_set_up κs arguments x y s q = one_done _ x y s.0.now q.0.now

pub one_apply : OneOutcome apply-kinds.ps apply-kinds.r apply.Learnt (λ κs s. s.0.now)
one_apply κs arguments x y s q = one_done _ x y s.0.now q.0.now

-- ---- what the list job and the listing go through: equal numbers are equal answers

pub one_look_over : OneResult look-over-kinds.ps look-over-kinds.r look-over.Learnt
one_look_over κs arguments x y s q first second = one_answer x y (first ∙ sym second)

pub one_apply_sound : OneOutcome apply-sound-kinds.ps apply-sound-kinds.r apply-sound.Learnt (λ κs s. s.0.now)
one_apply_sound κs arguments x y s q = one_done _ x y s.0.now q.0.now

-- ---- the same with numbers for answers, and as C and Rust call them

pub one_number : OneResult number-kinds.ps number-kinds.r number.Learnt
one_number κs arguments x y s q first second = first ∙ sym second

pub one_check : OneResult check-kinds.ps check-kinds.r check.Learnt
one_check κs arguments x y s q first second = first ∙ sym second

pub one_step : OneOutcome step-kinds.ps step-kinds.r step.Learnt (λ κs s. s.0.now)
one_step κs arguments x y s q first second = (first.0 ∙ sym second.0, first.1 ∙ sym second.1)

pub one_step_sound : OneOutcome step-sound-kinds.ps step-sound-kinds.r step-sound.Learnt (λ κs s. s.0.now)
one_step_sound κs arguments x y s q first second = (first.0 ∙ sym second.0, first.1 ∙ sym second.1)

pub one_vrolkant_table_length : OneResult vrolkant-table-length-kinds.ps vrolkant-table-length-kinds.r vrolkant-table-length.Learnt
one_vrolkant_table_length κs arguments x y s q first second = first ∙ sym second

pub one_vrolkant_set_up : OneOutcome vrolkant-set-up-kinds.ps vrolkant-set-up-kinds.r vrolkant-set-up.Learnt (λ κs s. s.0.now)
one_vrolkant_set_up κs arguments x y s q first second = (first.0 ∙ sym second.0, first.1 ∙ sym second.1)

pub one_vrolkant_apply : OneOutcome vrolkant-apply-kinds.ps vrolkant-apply-kinds.r vrolkant-apply.Learnt (λ κs s. s.0.now)
one_vrolkant_apply κs arguments x y s q first second = (first.0 ∙ sym second.0, first.1 ∙ sym second.1)

-- ---- the list job: its contract is the fact `RanSo`, and that allows one answer and one table

pub run_says : {M : Type 1} {𝓤 : Ura M} (𝓛 : Logic 𝓤) (mem : Memory → SProp 𝓤) (run : Routine → Fun 𝓤) (κs : Lfts 2)
    (arguments : Args vrolkant-run.signature κs) (x : Res vrolkant-run.signature κs) (s : AtExit vrolkant-run.ended κs)
    → (vrolkant-run.clauses 𝓛 mem run κs arguments).ensures tt x s ≡ fact 𝓤 (RanSo arguments.0.now arguments.1.0.now x s.0.now)
run_says 𝓛 mem run κs arguments x s = refl

pub one_vrolkant_run : (t : List ℕ) (list : List Record) (x y : Ran) (left other : List ℕ) → RanSo t list x left → RanSo t list y other
    → (x ≡ y) × (left ≡ other)
one_vrolkant_run t list x y left other first second = (
  ap₂ {C = Ran} (λ accepted refusal. record { accepted = accepted; refusal = refusal }) (first.0 ∙ sym second.0) (first.1 ∙ sym second.1),
  first.2 ∙ sym second.2,
)

-- ---- the listing

pub one_listing : OneOutcome list-kinds.ps list-kinds.r list.Learnt (λ κs s. s.1.0.now)
one_listing κs arguments x y s q first second = (first.0 ∙ sym second.0, first.1 ∙ sym second.1)
