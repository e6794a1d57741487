-- `listing::list` meets its contract.
use mathlib.Core.Path.{refl, sym}
use Rattle.std.proofs.Common.{rules}
use Rattle.listing.proofs.Whole.{printed_count, printed_cells}
use Rattle.listing.proofs.list.Goals as goal

pub returns-clause-how_many : goal.returns-clause-how_many
returns-clause-how_many c = printed_count c.args.input.now _ _ refl c.put_listing.ensures

pub returns-clause-out_after : goal.returns-clause-out_after
returns-clause-out_after c =
    let cells = printed_cells c.args.input.now _ _ refl c.put_listing.ensures in
    rw (sym cells) (search (rules, c.put_listing.ensures.same_room))
