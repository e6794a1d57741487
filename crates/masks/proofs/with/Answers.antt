-- `masks::with` meets its contract: the digit it sets is the party's.
use native.Mathlib.Omega.{arith}
use Rattle.masks.proofs.Laws.{with_code}
use Rattle.masks.proofs.with.Goals as goal

pub returns : goal.returns
returns c = with_code c.args.mask c.args.party (omega arith) (omega arith)
