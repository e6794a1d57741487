-- `rows::claim` meets its contract.
use Rattle.rows.proofs.Laws.{lent_claim}
use Rattle.rows.proofs.claim.Goals as goal

pub returns : goal.returns
returns c = λ n. lent_claim c.args.row.now c.requires _ _ _ c.claim.ensures
