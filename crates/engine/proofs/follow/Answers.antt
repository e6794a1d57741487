-- `engine::follow` meets its contract.
use mathlib.Core.Path.{sym, ap, ◌∙◌}
use Rattle.protocol.specs.Kinds.{kind_number}
use Rattle.engine.specs.Engine.{followed}
use Rattle.engine.proofs.Laws.{is_of_row}
use Rattle.engine.proofs.follow.Goals as goal

pub at_row-requires-clause-follows : goal.at_row-requires-clause-follows
at_row-requires-clause-follows c =
    (is_of_row c.args.counts c.args.table.now c.args.event c.requires.fields_fit c.args.kind c.in-RequestArrives.is c.requires.kind_read).0

pub returns-in-RequestArrives : goal.returns-in-RequestArrives
returns-in-RequestArrives c =
    c.at_row.ensures ∙ (is_of_row c.args.counts c.args.table.now c.args.event c.requires.fields_fit c.args.kind c.in-RequestArrives.is c.requires.kind_read).1

pub returns-in-Issue : goal.returns-in-Issue
unfolding followed
returns-in-Issue c = rw (sym c.requires.kind_read ∙ ap kind_number c.in-Issue.is) c.issue.ensures

pub returns-in-Timeout : goal.returns-in-Timeout
unfolding followed
returns-in-Timeout c = rw (sym c.requires.kind_read ∙ ap kind_number c.in-Timeout.is) c.timeout.ensures

pub returns-in-Suspect : goal.returns-in-Suspect
unfolding followed
returns-in-Suspect c = rw (sym c.requires.kind_read ∙ ap kind_number c.in-Suspect.is) c.suspect.ensures

pub returns-in-Trust : goal.returns-in-Trust
unfolding followed
returns-in-Trust c = rw (sym c.requires.kind_read ∙ ap kind_number c.in-Trust.is) c.trust.ensures

pub returns-in-ResultArrives : goal.returns-in-ResultArrives
unfolding followed
returns-in-ResultArrives c = rw (sym c.requires.kind_read ∙ ap kind_number c.in-ResultArrives.is) c.result.ensures

pub returns-in-ServerCrashes : goal.returns-in-ServerCrashes
unfolding followed
returns-in-ServerCrashes c = rw (sym c.requires.kind_read ∙ ap kind_number c.in-ServerCrashes.is) c.crash_server.ensures

pub returns-in-DatabaseCrashes : goal.returns-in-DatabaseCrashes
unfolding followed
returns-in-DatabaseCrashes c = rw (sym c.requires.kind_read ∙ ap kind_number c.in-DatabaseCrashes.is) c.crash_database.ensures

pub returns-in-ClientCrashes : goal.returns-in-ClientCrashes
unfolding followed
returns-in-ClientCrashes c = rw (sym c.requires.kind_read ∙ ap kind_number c.in-ClientCrashes.is) c.crash_client.ensures

pub returns-in-DatabaseRecovers : goal.returns-in-DatabaseRecovers
unfolding followed
returns-in-DatabaseRecovers c = rw (sym c.requires.kind_read ∙ ap kind_number c.in-DatabaseRecovers.is) c.recover.ensures
