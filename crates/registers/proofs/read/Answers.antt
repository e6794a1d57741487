-- `registers::read` meets its contract: its arms are those of `held`.
use native.Mathlib.Omega.{arith}
use borrow.Author.Tests.{eq-eqb, ne_eqb}
use Rattle.registers.specs.Register.{held}
use Rattle.registers.proofs.read.Goals as goal

pub returns-in-0 : goal.returns-in-0
unfolding held
returns-in-0 c = rw (eq-eqb c.args.outcome 0 c.in-0.is)

pub returns-in-1 : goal.returns-in-1
unfolding held
returns-in-1 c = rw c.in-1.is

pub returns-in_default : goal.returns-in_default
unfolding held
returns-in_default c = rw (ne_eqb c.args.outcome 0 (omega (arith, c.in_default)), ne_eqb c.args.outcome 1 (omega (arith, c.in_default)))
