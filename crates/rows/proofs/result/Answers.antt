-- `rows::result` meets its contract.
use mathlib.Core.Bool.{◌&&◌, cond}
use mathlib.Core.Path.{◌≡◌, sym, ap, ◌∙◌}
use Rattle.std.specs.Prelude.{is_some}
use Rattle.lists.proofs.Choice.{in_inside}
use Rattle.rows.proofs.Laws.{known_given}
use Rattle.rows.proofs.result.Goals.{then-decided, else-decided}
use Rattle.rows.proofs.result.Goals as goal

pub returns : goal.returns
returns c =
    let n = c.args.counts in
    let there = in_inside n.servers c.args.server c.requires.server_there.0 c.requires.server_there.1 in
    let asked : c.if-decided.sent_if ≡ (c.is_some-decided.result && c.has_all-all_known.result) =
    elim c.if-decided.branch [
      | then-decided w ↦ w.sent_if-is ∙ ap (λ b. b && c.has_all-all_known.result) (sym w.if-decided.true)
      | else-decided w ↦ w.sent_if-is ∙ w.if-decided.false ∙ ap (λ b. b && c.has_all-all_known.result) (sym w.if-decided.false)
    ] in
    c.sent_if.ensures ∙ ap (λ b. cond b 0 6) asked
    ∙ known_given n c.args.row.now c.args.server _ _ _ there c.known_at-known.ensures (c.is_some-decided.ensures ∙ ap is_some c.read.ensures) c.has_all-all_known.ensures
