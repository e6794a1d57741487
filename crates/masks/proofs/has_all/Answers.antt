-- `masks::has_all` meets its contract: each of parties 1 to n is in the mask exactly when its low n digits are those of `all n`.
use mathlib.Core.Path.{◌≡◌}
use Prim.Native.Nat.{◌%◌, ◌*◌, ◌^◌}
use native.Mathlib.Omega.{arith}
use Rattle.masks.proofs.Digits.{one_shifted}
use Rattle.masks.proofs.Laws.{has_all_code}
use Rattle.masks.proofs.has_all.Goals as goal

pub returns : goal.returns
returns c =
    let args = c.args in
    let e : (1 * 2 ^ args.n) % 65536 ≡ 2 ^ args.n = one_shifted args.n (omega arith) in
    rw (e, c.all.ensures) (has_all_code args.n args.mask)
