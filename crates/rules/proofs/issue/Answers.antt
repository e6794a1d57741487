-- `rules::issue` meets its contract.
use mathlib.Core.Path.{ap, ◌∙◌}
use lib.Dec.{eqb}
use Rattle.table.specs.Table.{view}
use Rattle.protocol.specs.Rules.{issue_rule}
use Rattle.rules.proofs.Laws.{went, stayed, one_must, phase_is, issued}
use Rattle.rules.proofs.issue.Goals as goal

pub returns-in_err-must : goal.returns-in_err-must
returns-in_err-must c =
    let n = c.args.counts in
    let t = c.args.table.now in
    stayed n t (issue_rule (view n t) c.args.client c.args.value) _ _ c.from_residual.ensures.1
    (c.in_err-must.ensures ∙ one_must _ _ (ap (λ x. eqb x 0) (phase_is n t c.requires.held.long c.args.client c.client_at-at.result c.requires.client_there c.client_at-at.ensures)))

pub returns : goal.returns
returns c =
    let n = c.args.counts in
    let t = c.args.table.now in
    went n t (issue_rule (view n t) c.args.client c.args.value) _
    (c.in_ok-must.ensures ∙ one_must _ _ (ap (λ x. eqb x 0) (phase_is n t c.requires.held.long c.args.client c.client_at-at.result c.requires.client_there c.client_at-at.ensures)))
    (issued n t c.requires.held.long c.args.client c.client_at-at.result c.requires.client_there c.client_at-at.ensures c.args.value _ c.call.ensures)
