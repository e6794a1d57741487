-- The writes that make a table fresh, in the order of the code.
use Rattle.std.specs.Prelude.{List, ℕ, zero, suc, ◌+◌, set}
use Rattle.protocol.specs.declared.Counts.{Counts}

-- the counts in the header
abbrev pub headed : Counts → List ℕ → List ℕ
headed n t = set (set (set (set t 0 n.clients) 1 n.servers) 2 n.databases) 3 n.attempts

-- 1 at `start` and at every `width` cells behind it, `count` times
abbrev pub raised : (count start width : ℕ) → List ℕ → List ℕ
raised zero start width t = t
raised (suc count) start width t = raised count (start + width) width (set t start 1)
