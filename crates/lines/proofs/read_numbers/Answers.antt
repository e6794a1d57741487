-- `lines::read_numbers` meets its contract.
use mathlib.Core.Path.{sym, ◌∙◌}
use native.Mathlib.Omega.{arith}
use Prim.Native.Nat.{◌-◌}
use Rattle.std.proofs.Common.{rules}
use Rattle.lines.proofs.Numbers.{none_read, one_read, all_read}
use Rattle.lines.proofs.read_numbers.Goals as goal

pub returns-in_err-number : goal.returns-in_err-number
returns-in_err-number g c =
    rw c.from_residual.ensures
    (none_read g.row.N c.loop-place.place (g.row.N - c.loop-place.place - 1) (omega arith) c.loop-place.rest.now
    (rw c.end_before.ensures at (sym c.in_err-number.ensures)) _
    ∙ sym c.loop-place.invariant.1)

pub loop-place-preserved : goal.loop-place-preserved
loop-place-preserved g c = (
  search rules,
  c.loop-place.invariant.1
      ∙ one_read g.row.N c.loop-place.place (g.row.N - c.loop-place.place - 1) (omega arith) c.loop-place.rest.now _ _ (rw c.end_before.ensures at (sym c.in_ok-number.ensures)) _ (omega arith),
)

pub returns : goal.returns
returns g c = all_read g.row.N c.loop-place.place _ _ c.loop-place.invariant.0 c.loop-place-test.false ∙ sym c.loop-place.invariant.1
