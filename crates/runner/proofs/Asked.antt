-- The length that a caller is told, by whether the counts are in range.
use mathlib.Core.Path.{◌≡◌}
use mathlib.Core.Bool.{true, false}
use Rattle.lists.specs.Tests.{every}
use Rattle.protocol.specs.declared.Counts.{Counts}
use Rattle.protocol.specs.Numbers.{count_tests}
use Rattle.table.specs.Layout.{table_length}
use Rattle.runner.specs.Asked.{length_for}

pub no_length : (n : Counts) → every (count_tests n) ≡ false → length_for n ≡ 0
unfolding length_for
no_length n outside = rw outside

pub its_length : (n : Counts) → every (count_tests n) ≡ true → length_for n ≡ table_length n
unfolding length_for
its_length n inside = rw inside
