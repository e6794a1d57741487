-- `layout::Table::row` meets its contract.
use Rattle.layout.proofs.Laws.{row_lent}
use Rattle.layout.proofs.Table.row.Goals as goal

pub returns-clause-row : goal.returns-clause-row
returns-clause-row c = row_lent _ _ _ _ _ _ c.args.self.now.whole c.requires.client_there c.requires.attempt_there c.row_range.ensures.start c.row_range.ensures.end
