-- `runner::vrolkant_table_length` meets its contract.
use mathlib.Core.Path.{sym, ◌∙◌}
use Rattle.runner.proofs.Asked.{no_length, its_length}
use Rattle.runner.proofs.vrolkant_table_length.Goals as goal

pub returns-then-not-counts_fit : goal.returns-then-not-counts_fit
returns-then-not-counts_fit c = sym (no_length _ (sym c.counts_fit.ensures ∙ c.if-not-counts_fit.true))

pub returns : goal.returns
returns c = c.table_length.ensures ∙ sym (its_length _ (sym c.counts_fit.ensures ∙ c.if-not-counts_fit.false))
