-- `layout::Table::server` meets its contract.
use Rattle.std.proofs.Common.{arith}
use Rattle.layout.proofs.Laws.{server_lent}
use Rattle.layout.proofs.Table.server.Goals as goal

pub overflow_add-result : goal.overflow_add-result
overflow_add-result c = let e = c.server_at-start.ensures c.args.self.now.counts in grind (arith, server_lent)

pub offset_bounds-self-start : goal.offset_bounds-self-start
offset_bounds-self-start c = let e = c.server_at-start.ensures c.args.self.now.counts in grind (arith, server_lent)

pub slice_bounds-result-end : goal.slice_bounds-result-end
slice_bounds-result-end c = let e = c.server_at-start.ensures c.args.self.now.counts in grind (arith, server_lent)

pub returns-clause-up : goal.returns-clause-up
returns-clause-up c = let e = c.server_at-start.ensures c.args.self.now.counts in grind (arith, server_lent)

pub returns-clause-suspects : goal.returns-clause-suspects
returns-clause-suspects c = let e = c.server_at-start.ensures c.args.self.now.counts in grind (arith, server_lent)
