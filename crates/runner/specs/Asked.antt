-- What a caller asks before it has a table: how long that of a setup is.
use Rattle.std.specs.Prelude.{cond, ℕ}
use Rattle.lists.specs.Tests.{every}
use Rattle.protocol.specs.declared.Counts.{Counts}
use Rattle.protocol.specs.Numbers.{count_tests}
use Rattle.table.specs.Layout.{table_length}

-- 0 where a count is outside its range, which no table's length is
unfoldable pub length_for : Counts → ℕ
unfolding table_length
length_for n = cond (every (count_tests n)) (table_length n) 0
