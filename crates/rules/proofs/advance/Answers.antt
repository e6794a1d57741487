-- `rules::advance` meets its contract.
use mathlib.Core.Path.{ap}
use lib.ListN.{set}
use borrow.Author.Tests.{eq-eqb, ne_eqb}
use Rattle.rules.proofs.Laws.{phase_at, advanced}
use Rattle.rules.proofs.advance.Goals as goal

pub returns-then-attempt-counts : goal.returns-then-attempt-counts
returns-then-attempt-counts c =
    let n = c.args.counts in
    let t = c.args.table.now in
    rw (eq-eqb _ _ c.if-attempt-counts.true) (ap (λ p. set t p 3) (phase_at n t c.requires.held.long c.args.client c.client_at-at.result c.requires.result_there.0 c.client_at-at.ensures))

pub returns : goal.returns
returns c =
    let n = c.args.counts in
    let t = c.args.table.now in
    rw (ne_eqb _ _ c.if-attempt-counts.false) (advanced n t c.requires.held.long c.args.client c.args.attempt c.client_at-at.result c.requires.result_there.0 c.client_at-at.ensures _ c.call.ensures)
