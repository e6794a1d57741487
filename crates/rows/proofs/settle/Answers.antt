-- `rows::settle` meets its contract.
use Rattle.rows.proofs.Laws.{settled}
use Rattle.rows.proofs.settle.Goals as goal

pub returns : goal.returns
returns c = λ n. settled c.args.row.now _ _ _ _ _ (c.offer-in_hand.ensures.cells n) (c.terminate.ensures n)
