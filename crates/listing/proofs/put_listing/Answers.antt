-- `listing::put_listing` meets its contract.
use mathlib.Core.Path.{sym, ◌∙◌}
use native.Mathlib.Omega.{arith}
use Rattle.std.proofs.lemmas.List.{length-take-le}
use Rattle.lines.proofs.Inverse.{counts_shorter}
use Rattle.listing.proofs.Whole.{cells_enough, too_long, no_counts, counts_refused, counts_listed}
use Rattle.listing.proofs.put_listing.Goals as goal

pub returns-then-input-gt-LONGEST : goal.returns-then-input-gt-LONGEST
returns-then-input-gt-LONGEST c = rw (too_long _ c.if-input-gt-LONGEST.true) c.refuse.ensures

pub returns-in_default : goal.returns-in_default
returns-in_default c = rw (no_counts _ c.if-input-gt-LONGEST.false (sym c.in_default.ensures)) c.refuse-in_default.ensures

pub returns-then-not-counts_fit : goal.returns-then-not-counts_fit
returns-then-not-counts_fit c =
    rw (counts_refused _ c.if-input-gt-LONGEST.false _ _ (sym c.in-Some.ensures) (sym c.counts_fit.ensures ∙ c.if-not-counts_fit.true))
    (rw c.from.ensures at c.refuse-then-not-counts_fit.ensures)

pub list_on-requires-clause-not_too_long : goal.list_on-requires-clause-not_too_long
list_on-requires-clause-not_too_long c = omega (arith, counts_shorter _ _ _ (sym c.in-Some.ensures), c.if-input-gt-LONGEST.false)

pub returns : goal.returns
returns c =
    rw (counts_listed _ c.if-input-gt-LONGEST.false _ _ (sym c.in-Some.ensures) (sym c.counts_fit.ensures ∙ c.if-not-counts_fit.false)) c.list_on.ensures

pub slice_bounds-list_on-end : goal.slice_bounds-list_on-end
slice_bounds-list_on-end c = sym (length-take-le _ _ (cells_enough c.in-Some.counts _ c.if-not-counts_fit.ensures c.table_length-length.ensures))

pub list_on-requires-clause-whole_table : goal.list_on-requires-clause-whole_table
list_on-requires-clause-whole_table c =
    length-take-le _ _ (cells_enough c.in-Some.counts _ c.if-not-counts_fit.ensures c.table_length-length.ensures) ∙ c.table_length-length.ensures
