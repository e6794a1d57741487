-- `engine::parties_up` meets its contract.
use Rattle.std.proofs.Common.{rules}
use Rattle.engine.proofs.Laws.{client_answers, server_answers, database_answers}
use Rattle.engine.proofs.parties_up.Goals as goal

pub returns-in-Issue : goal.returns-in-Issue
returns-in-Issue c =
    let answers = client_answers c.args.table.counts c.args.table.cells.now c.args.event c.requires.fields_fit c.args.kind c.requires.kind_read in
    search (rules, answers)

pub returns-in-RequestArrives : goal.returns-in-RequestArrives
returns-in-RequestArrives c =
    let answers = server_answers c.args.table.counts c.args.table.cells.now c.args.event c.requires.fields_fit c.args.kind c.requires.kind_read in
    search (rules, answers)

pub returns-in-PrepareArrives : goal.returns-in-PrepareArrives
returns-in-PrepareArrives c =
    let answers = database_answers c.args.table.counts c.args.table.cells.now c.args.event c.requires.fields_fit c.args.kind c.requires.kind_read in
    search (rules, answers)
