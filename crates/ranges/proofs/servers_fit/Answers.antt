-- `ranges::servers_fit` meets its contract.
use Rattle.std.proofs.Common.{rules}
use borrow.Author.Tests.{tests}
use Rattle.ranges.proofs.Laws.{all_ids}
use Rattle.ranges.proofs.servers_fit.Goals as goal

pub returns : goal.returns
returns c = all_ids _ _ _ _ c.all.ensures.runs c.new.ensures.start c.new.ensures.end c.new.ensures.exhausted (λ i b q k. search (rules, tests))
