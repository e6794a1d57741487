-- `engine::set_up` meets its contract.
use mathlib.Core.Path.{sym, ◌∙◌}
use Rattle.engine.proofs.Laws.{not_set_up, is_set_up, wrong_counts, other_length, right_size}
use Rattle.engine.proofs.set_up.Goals.{then-not-counts_fit-via-then-not-counts_fit, then-not-counts_fit-via-else-not-counts_fit+then-table-table_length}
use Rattle.engine.proofs.set_up.Goals as goal

pub returns-then-not-counts_fit : goal.returns-then-not-counts_fit
returns-then-not-counts_fit c =
    elim c.then-not-counts_fit.branch [
      | then-not-counts_fit-via-then-not-counts_fit w ↦ not_set_up c.args.table.now c.args.counts (wrong_counts c.args.counts c.args.table.now (sym c.counts_fit.ensures ∙ w.if-not-counts_fit.true))
      | then-not-counts_fit-via-else-not-counts_fit+then-table-table_length w ↦ not_set_up c.args.table.now c.args.counts (other_length c.args.counts c.args.table.now (λ e. w.if-table-table_length.true (e ∙ sym w.table_length.ensures)))
    ]

pub returns : goal.returns
returns c =
    is_set_up c.args.table.now _ c.args.counts (right_size c.args.counts c.args.table.now (c.if-table-table_length.false ∙ c.table_length.ensures)
    (sym c.counts_fit.ensures ∙ c.if-not-counts_fit.false)) c.make.ensures
