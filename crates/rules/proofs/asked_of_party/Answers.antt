-- `rules::asked_of_party` meets its contract.
use mathlib.Core.Path.{sym, ap, ◌∙◌}
use Rattle.protocol.specs.Kinds.{kind_number}
use Rattle.rules.proofs.Laws.{ready_names, clean_names, numbered}
use Rattle.rules.proofs.asked_of_party.Goals as goal

pub database-requires : goal.database-requires
database-requires c =
    record { database_there = numbered _ _ (ready_names c.args.table.counts c.args.event c.requires.follows (sym c.requires.kind_read ∙ ap kind_number c.in-ReadyArrives.is)) }

pub server-requires : goal.server-requires
server-requires c =
    record { server_there = numbered _ _ (clean_names c.args.table.counts c.args.event c.requires.follows (sym c.requires.kind_read ∙ ap kind_number c.in-Clean.is)) }
