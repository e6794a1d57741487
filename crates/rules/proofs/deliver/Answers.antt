-- `rules::deliver` meets its contract.
use lib.ListN.{set}
use Rattle.rules.proofs.Laws.{phase_at, delivered_at}
use Rattle.rules.proofs.deliver.Goals as goal

pub returns : goal.returns
returns c =
    let n = c.args.counts in
    let t = c.args.table.now in
    λ j. set (set t (phase_at n t c.requires.held.long c.args.client c.client_at-at.result c.requires.client_there c.client_at-at.ensures j) 2) (delivered_at n t c.requires.held.long c.args.client c.client_at-at.result c.requires.client_there c.client_at-at.ensures j) c.args.value
