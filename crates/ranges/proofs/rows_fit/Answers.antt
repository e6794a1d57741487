-- `ranges::rows_fit` meets its contract.
use Rattle.std.proofs.Common.{rules}
use borrow.Author.Tests.{tests}
use Rattle.ranges.proofs.Laws.{all_rows, rows_inside}
use Rattle.ranges.proofs.rows_fit.Goals as goal

pub returns : goal.returns
returns c =
    let inside = rows_inside c.args.table.now.counts c.args.table.now.cells.now c.args.table.now.whole in
    all_rows c.args.table.now.counts c.args.table.now.cells.now c.args.table.now.whole _ _ _
    c.all.ensures.runs c.chunks_exact.ensures.runs (search (rules, inside)) c.chunks_exact.ensures.rest (search rules)
    (λ x b q k. search (rules, tests))
