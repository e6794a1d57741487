-- `rows::sweep` meets its contract.
use Rattle.rows.proofs.Laws.{swept}
use Rattle.rows.proofs.sweep.Goals as goal

pub returns : goal.returns
returns c = λ n. swept c.args.row.now _ _ _ _ _ (c.offer-in_hand.ensures.cells n) (c.terminate.ensures n)
