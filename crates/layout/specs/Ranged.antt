-- The counts of a setup, each in its range: the tests of number 1 as bounds.
use Rattle.std.specs.Prelude.{◌≤◌}
use Rattle.protocol.specs.declared.Counts.{Counts}

pub record Ranged (n : Counts) : Type 0 where
  pub clients1 : 1 ≤ n.clients
  pub clients8 : n.clients ≤ 8
  pub servers1 : 1 ≤ n.servers
  pub servers8 : n.servers ≤ 8
  pub databases1 : 1 ≤ n.databases
  pub databases8 : n.databases ≤ 8
  pub attempts1 : 1 ≤ n.attempts
  pub attempts16 : n.attempts ≤ 16
