-- `rules::conclude` meets its contract.
use mathlib.Core.Path.{sym, ap, ◌∙◌}
use native.Mathlib.Omega.{arith}
use Rattle.std.specs.Prelude.{Some}
use borrow.Author.Tests.{eq-eqb, ne_eqb}
use Rattle.rules.proofs.Laws.{row_room, range_width, phase_is, attempt_is, read_none, read_abort, read_commit}
use Rattle.rules.proofs.conclude.Goals.{then-table-at-via-then-table-at, then-table-at-via-else-table-at+then-table-at-2}
use Rattle.rules.proofs.conclude.Goals as goal

pub offset_bounds-table-row_range : goal.offset_bounds-table-row_range
offset_bounds-table-row_range c = omega (arith, row_room c.args.counts c.args.table.now c.requires.held.long c.requires.held.ranged c.args.client c.args.attempt c.requires.result_there.0 c.requires.result_there.1, c.row_range.ensures)

pub slice_bounds-load-end : goal.slice_bounds-load-end
slice_bounds-load-end c = omega (arith, row_room c.args.counts c.args.table.now c.requires.held.long c.requires.held.ranged c.args.client c.args.attempt c.requires.result_there.0 c.requires.result_there.1, c.row_range.ensures)

pub returns-then-table-at : goal.returns-then-table-at
returns-then-table-at c =
    let n = c.args.counts in
    let t = c.args.table.now in
    let phase_read = phase_is n t c.requires.held.long c.args.client c.client_at-at.result c.requires.result_there.0 c.client_at-at.ensures in
    let attempt_read = attempt_is n t c.requires.held.long c.args.client c.client_at-at.result c.requires.result_there.0 c.client_at-at.ensures in
    elim c.then-table-at.branch [
      | then-table-at-via-then-table-at w ↦ rw (ne_eqb _ _ (λ e. w.if-table-at.true (phase_read ∙ e)))
      | then-table-at-via-else-table-at+then-table-at-2 w ↦ rw (eq-eqb _ _ (sym phase_read ∙ w.if-table-at.false), ne_eqb _ _ (λ e. w.if-table-at-2.true (attempt_read ∙ e)))
    ]

pub returns-in-Some-Commit : goal.returns-in-Some-Commit
returns-in-Some-Commit c =
    let n = c.args.counts in
    let t = c.args.table.now in
    let read = read_commit n t c.args.client c.args.attempt c.requires.held.long c.requires.result_there.0 c.requires.result_there.1 _ _
    c.row_range.ensures.start (range_width _ _ _ _ c.row_range.ensures.start c.row_range.ensures.end) c.load-row.result.decision (sym (ap (λ r. r.decision) (c.load-row.ensures n))) _ (c.in-Some-Commit.is ∙ ap Some (rw c.in-Some-Commit.is at c.in-Some-Commit.field-0-is)) in
    rw (eq-eqb _ _ (sym (phase_is n t c.requires.held.long c.args.client c.client_at-at.result c.requires.result_there.0 c.client_at-at.ensures) ∙ c.if-table-at.false), eq-eqb _ _ (sym (attempt_is n t c.requires.held.long c.args.client c.client_at-at.result c.requires.result_there.0 c.client_at-at.ensures) ∙ c.if-table-at-2.false), eq-eqb _ _ read.0, read.1) c.deliver.ensures

pub returns-in-Some-Abort : goal.returns-in-Some-Abort
returns-in-Some-Abort c =
    let n = c.args.counts in
    let t = c.args.table.now in
    let read = read_abort n t c.args.client c.args.attempt c.requires.held.long c.requires.result_there.0 c.requires.result_there.1 _ _
    c.row_range.ensures.start (range_width _ _ _ _ c.row_range.ensures.start c.row_range.ensures.end) c.load-row.result.decision (sym (ap (λ r. r.decision) (c.load-row.ensures n))) (c.in-Some-Abort.is ∙ ap Some (rw c.in-Some-Abort.is at c.in-Some-Abort.field-0-is)) in
    rw (eq-eqb _ _ (sym (phase_is n t c.requires.held.long c.args.client c.client_at-at.result c.requires.result_there.0 c.client_at-at.ensures) ∙ c.if-table-at.false), eq-eqb _ _ (sym (attempt_is n t c.requires.held.long c.args.client c.client_at-at.result c.requires.result_there.0 c.client_at-at.ensures) ∙ c.if-table-at-2.false), ne_eqb _ _ read) c.advance.ensures

pub returns-in-None : goal.returns-in-None
returns-in-None c =
    let n = c.args.counts in
    let t = c.args.table.now in
    let read = read_none n t c.args.client c.args.attempt c.requires.held.long c.requires.result_there.0 c.requires.result_there.1 _ _
    c.row_range.ensures.start (range_width _ _ _ _ c.row_range.ensures.start c.row_range.ensures.end) c.load-row.result.decision (sym (ap (λ r. r.decision) (c.load-row.ensures n))) c.in-None.is in
    rw (eq-eqb _ _ (sym (phase_is n t c.requires.held.long c.args.client c.client_at-at.result c.requires.result_there.0 c.client_at-at.ensures) ∙ c.if-table-at.false), eq-eqb _ _ (sym (attempt_is n t c.requires.held.long c.args.client c.client_at-at.result c.requires.result_there.0 c.client_at-at.ensures) ∙ c.if-table-at-2.false), ne_eqb _ _ read) c.advance-in-None.ensures
