-- `listing::list_on` meets its contract.
use Rattle.listing.proofs.Whole.{set_up_fresh, set_up_sound, parts_listed}
use Rattle.listing.proofs.list_on.Goals as goal

pub play-requires-clause-is_sound : goal.play-requires-clause-is_sound
play-requires-clause-is_sound c =
    set_up_sound c.args.counts c.args.table.now c.requires.whole_table c.requires.ranged _ _ c.set_up.ensures

pub returns : goal.returns
returns c =
    parts_listed c.args.counts _ _ _ _ _ _ _
    (set_up_fresh c.args.counts c.args.table.now c.requires.whole_table c.requires.ranged _ _ c.set_up.ensures)
    c.play.ensures.text_after c.play.ensures.table_after c.client_lines.ensures c.result_lines.ensures
