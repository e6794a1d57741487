-- What an accepted event met: number 0 is given exactly when all tests of the event hold.
use mathlib.Core.Path.{◌≡◌, refl}
use native.Mathlib.Omega.{arith}
use Rattle.lists.specs.Tests.{every}
use Rattle.lists.proofs.Choice.{every_all, all_every, passed, passes}
use Rattle.protocol.specs.declared.Counts.{Counts}
use Rattle.protocol.specs.Cells.{State}
use Rattle.protocol.specs.Events.{Event, record_of}
use Rattle.protocol.specs.Rules.{rule}
use Rattle.protocol.specs.Numbers.{fields, acting, are_up, refusal}
use Rattle.protocol.specs.Machine.{Met}

module _ (n : Counts) (s : State) (e : Event) where
  pub met : refusal n s e ≡ 0 → Met n s e
  unfolding refusal
  met accepted =
      let p4 = passed (every (fields n (record_of e))) _ 4 (omega arith) accepted in
      let p5 = passed (every (are_up s (acting e))) _ 5 (omega arith) p4.1 in
      let p6 = passed (every (rule n s e).sent_if) _ 6 (omega arith) p5.1 in
      let p7 = passed (every (rule n s e).must) 0 7 (omega arith) p6.1 in
      record {
        fit = every_all (fields n (record_of e)) p4.0;
        live = every_all (are_up s (acting e)) p5.0;
        post = every_all (rule n s e).sent_if p6.0;
        must = every_all (rule n s e).must p7.0;
      }

  pub meets : Met n s e → refusal n s e ≡ 0
  unfolding refusal
  meets m =
      passes (every (fields n (record_of e))) _ 4 (all_every (fields n (record_of e)) m.fit)
      (passes (every (are_up s (acting e))) _ 5 (all_every (are_up s (acting e)) m.live)
      (passes (every (rule n s e).sent_if) _ 6 (all_every (rule n s e).sent_if m.post)
      (passes (every (rule n s e).must) 0 7 (all_every (rule n s e).must m.must) refl)))
