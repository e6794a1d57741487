-- `masks::all` meets its contract: fifteen ones without the last 15 - n of them are n ones.
use mathlib.Core.Path.{◌≡◌, ap, ◌∙◌}
use Prim.Native.Nat.{ℕ, ◌+◌, ◌-◌, ◌/◌, ◌^◌}
use native.Mathlib.Omega.{arith}
use Rattle.masks.specs.Mask.{all}
use Rattle.masks.proofs.Digits.{ones_cut}
use Rattle.masks.proofs.all.Goals as goal

pub returns : goal.returns
unfolding all
returns c =
    let n = c.args.n in
    let fifteen : 15 ≡ n + (15 - n) = omega arith in
    ap (λ (x : ℕ). (2 ^ x - 1) / 2 ^ (15 - n)) fifteen ∙ ones_cut n (15 - n)
