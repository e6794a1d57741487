-- `registers::claim` meets its contract: it writes the server where nobody owned the register, and nothing otherwise.
use Rattle.registers.proofs.Laws.{claim_takes, claim_refuses}
use Rattle.registers.proofs.claim.Goals as goal

pub returns-then-owner-ne0 : goal.returns-then-owner-ne0
returns-then-owner-ne0 c = claim_refuses c.args.register.now c.args.server c.if-owner-ne0.true

pub returns : goal.returns
returns c = claim_takes c.args.register.now c.args.server c.if-owner-ne0.false
