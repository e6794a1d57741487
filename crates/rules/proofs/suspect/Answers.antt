-- `rules::suspect` meets its contract.
use Rattle.masks.specs.Mask.{put}
use Rattle.protocol.specs.Rules.{suspect_rule}
use Rattle.table.specs.Table.{view}
use Rattle.rules.proofs.Laws.{went, one_must}
use mathlib.Core.Path.{refl, ◌∙◌}
use Rattle.rules.proofs.suspect.Goals as goal

pub returns : goal.returns
unfolding put
returns c =
    let n = c.args.counts in
    let t = c.args.table.now in
    went n t (suspect_rule (view n t) c.args.server c.args.other) _ (c.in_ok-must.ensures ∙ one_must _ _ refl) c.doubt.ensures
