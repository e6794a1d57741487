-- `rules::timeout` meets its contract.
use mathlib.Core.List.{[], ◌∷◌}
use mathlib.Core.Path.{ap, ◌∙◌}
use lib.Dec.{eqb}
use Rattle.masks.specs.Mask.{all}
use Rattle.protocol.specs.Cells.{sent, in_row}
use Rattle.protocol.specs.Rules.{timeout_rule}
use Rattle.table.specs.Table.{view, set_all}
use Rattle.rules.proofs.Laws.{went, stayed, one_must, must_hold, phase_is, attempt_is, waits_in}
use Rattle.rules.proofs.timeout.Goals as goal

pub returns-in_err-must : goal.returns-in_err-must
returns-in_err-must c =
    let n = c.args.counts in
    let t = c.args.table.now in
    stayed n t (timeout_rule n (view n t) c.args.client) _ _ c.from_residual.ensures.1
    (c.in_err-must.ensures ∙ one_must _ _ (ap (λ x. eqb x 1) (phase_is n t c.requires.held.long c.args.client c.client_at-at.result c.requires.client_there c.client_at-at.ensures)))

pub call_all-requires : goal.call_all-requires
call_all-requires c =
    let n = c.args.counts in
    let t = c.args.table.now in
    record {
      long = c.requires.held.long;
      ranged = c.requires.held.ranged;
      client = c.requires.client_there;
      attempt = waits_in n t c.requires.held.long c.args.client c.client_at-at.result c.requires.client_there c.client_at-at.ensures c.requires.held.range (must_hold _ 1 c.in_ok-must.ensures);
    }

pub returns : goal.returns
returns c =
    let n = c.args.counts in
    let t = c.args.table.now in
    went n t (timeout_rule n (view n t) c.args.client) _
    (c.in_ok-must.ensures ∙ one_must _ _ (ap (λ x. eqb x 1) (phase_is n t c.requires.held.long c.args.client c.client_at-at.result c.requires.client_there c.client_at-at.ensures)))
    (c.call_all.ensures ∙ ap (λ k. set_all n t (in_row c.args.client k ((sent, all n.servers) ∷ []))) (attempt_is n t c.requires.held.long c.args.client c.client_at-at.result c.requires.client_there c.client_at-at.ensures))
