-- `listing::result_line` meets its contract.
use mathlib.Core.Path.{subst}
use Rattle.text.specs.Lent.{Continues}
use Rattle.listing.specs.Listing.{result_line}
use Rattle.listing.proofs.result_line.Goals as goal

pub returns : goal.returns
returns c =
    subst (λ r. Continues c.args.page.now c.row_line.new.page (result_line c.args.client c.args.attempt r)) c.row.ensures.row (c.row_line.ensures c.args.table.counts)
