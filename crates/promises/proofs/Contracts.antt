-- The public functions meet their contracts, which stand in the code above each; every contract is an equation over one of the definitions named here.
use Rattle.engine.proofs.set_up.Statement as set-up
use Rattle.engine.proofs.set_up.Met as set-up-met
use Rattle.engine.proofs.apply.Statement as apply
use Rattle.engine.proofs.apply.Met as apply_met
use Rattle.engine.proofs.look_over.Statement as look-over
use Rattle.engine.proofs.look_over.Met as look-over-met
use Rattle.engine.proofs.apply_sound.Statement as apply-sound
use Rattle.engine.proofs.apply_sound.Met as apply-sound-met
use Rattle.engine.proofs.number.Statement as number
use Rattle.engine.proofs.number.Met as number-met
use Rattle.engine.proofs.check.Statement as check
use Rattle.engine.proofs.check.Met as check-met
use Rattle.engine.proofs.step.Statement as step
use Rattle.engine.proofs.step.Met as step-met
use Rattle.engine.proofs.step_sound.Statement as step-sound
use Rattle.engine.proofs.step_sound.Met as step-sound-met
use Rattle.runner.proofs.vrolkant_table_length.Statement as vrolkant-table-length
use Rattle.runner.proofs.vrolkant_table_length.Met as vrolkant-table-length-met
use Rattle.runner.proofs.vrolkant_set_up.Statement as vrolkant-set-up
use Rattle.runner.proofs.vrolkant_set_up.Met as vrolkant-set-up-met
use Rattle.runner.proofs.vrolkant_apply.Statement as vrolkant-apply
use Rattle.runner.proofs.vrolkant_apply.Met as vrolkant-apply-met
use Rattle.runner.proofs.vrolkant_run.Statement as vrolkant-run
use Rattle.runner.proofs.vrolkant_run.Met as vrolkant-run-met
use Rattle.listing.proofs.list.Statement as list
use Rattle.listing.proofs.list.Met as list-met

module _ {M : Type 1} where
  -- crates/engine/src/lib.rt, over `set_up` and `applied` of table's specs/Jobs
  pub set_up_meets : set-up.statement M
  set_up_meets = set-up-met.met

  pub apply_meets : apply.statement M
  apply_meets = apply_met.met

  -- what the list job and the listing go through: 1 and 2 asked of a table once, over `table_number`, and an event on a table that is sound, over `applied`
  pub look_over_meets : look-over.statement M
  look_over_meets = look-over-met.met

  pub apply_sound_meets : apply-sound.statement M
  apply_sound_meets = apply-sound-met.met

  -- the same with numbers for answers, and 1 and 2 asked of a table alone: over `answer_number`, `table_number` and `applied`
  pub number_meets : number.statement M
  number_meets = number-met.met

  pub check_meets : check.statement M
  check_meets = check-met.met

  pub step_meets : step.statement M
  step_meets = step-met.met

  pub step_sound_meets : step-sound.statement M
  step_sound_meets = step-sound-met.met

  -- crates/runner/src/lib.rt, the jobs as C and Rust call them: over `length_for` of runner's specs/Asked, `set_up`, `applied`, and for the list job `ran`
  pub vrolkant_table_length_meets : vrolkant-table-length.statement M
  vrolkant_table_length_meets = vrolkant-table-length-met.met

  pub vrolkant_set_up_meets : vrolkant-set-up.statement M
  vrolkant_set_up_meets = vrolkant-set-up-met.met

  pub vrolkant_apply_meets : vrolkant-apply.statement M
  vrolkant_apply_meets = vrolkant-apply-met.met

  pub vrolkant_run_meets : vrolkant-run.statement M
  vrolkant_run_meets = vrolkant-run-met.met

  -- crates/listing/src/lib.rt, over `listing` of listing's specs/Listing
  pub list_meets : list.statement M
  list_meets = list-met.met
