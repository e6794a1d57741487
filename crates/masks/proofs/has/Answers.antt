-- `masks::has` meets its contract: the digit it reads is the party's.
use native.Mathlib.Omega.{arith}
use Rattle.masks.proofs.Laws.{has_code}
use Rattle.masks.proofs.has.Goals as goal

pub returns : goal.returns
returns c = has_code c.args.mask c.args.party (omega arith)
