-- `engine::look_over` meets its contract.
use mathlib.Core.Path.{sym, ◌∙◌}
use Rattle.engine.proofs.Laws.{wrong_size, too_short, counts_refused, length_refused, range_refused, none_refused}
use Rattle.engine.proofs.look_over.Goals.{then-not-counts_fit-via-then-not-counts_fit, then-not-counts_fit-via-else-not-counts_fit+then-table-table_length}
use Rattle.engine.proofs.look_over.Goals as goal

pub returns-then-table-lt-HEADER : goal.returns-then-table-lt-HEADER
returns-then-table-lt-HEADER c = sym (wrong_size c.args.table.now (too_short _ c.args.table.now c.if-table-lt-HEADER.true))

pub returns-then-not-counts_fit : goal.returns-then-not-counts_fit
returns-then-not-counts_fit c =
    elim c.then-not-counts_fit.branch [
      | then-not-counts_fit-via-then-not-counts_fit w ↦ sym (counts_refused c.args.table.now _ c.counts_of-counts.ensures (sym c.counts_fit.ensures ∙ w.if-not-counts_fit.true))
      | then-not-counts_fit-via-else-not-counts_fit+then-table-table_length w ↦ sym (length_refused c.args.table.now _ c.counts_of-counts.ensures (λ e. w.if-table-table_length.true (e ∙ sym w.table_length.ensures)))
    ]

pub returns-then-not-in_range : goal.returns-then-not-in_range
returns-then-not-in_range c =
    sym (range_refused c.args.table.now _ c.counts_of-counts.ensures
    (c.if-table-table_length.false ∙ c.table_length.ensures)
    (sym c.counts_fit.ensures ∙ c.if-not-counts_fit.false)
    (sym c.in_range.ensures ∙ c.if-not-in_range.true))

pub returns : goal.returns
returns c =
    sym (none_refused c.args.table.now _ c.counts_of-counts.ensures
    (c.if-table-table_length.false ∙ c.table_length.ensures)
    (sym c.counts_fit.ensures ∙ c.if-not-counts_fit.false)
    (sym c.in_range.ensures ∙ c.if-not-in_range.false))
